-- What adding a page to the entries leaves.
use Rattle.std.proofs.Common.{◌≡◌, ℕ, Bool, suc, ◌<◌, ◌≤◌, false, List, [], ◌∷◌, ◌++◌, Vec, length, refl, ap, sym, ◌∙◌, arith, subst}
use Rattle.std.specs.Prelude.{map, bytes_eq, string_bytes, Contains}
use Rattle.std.specs.List.{IsDistinct, AllByRecursion}
use Rattle.std.specs.declared.alloc.Global.{Global}
use Rattle.indexmap.specs.IndexMap.{insert_entry}
use Rattle.std.proofs.lemmas.Slice.Eq.{bytes_eq-Decides}
use Rattle.std.proofs.lemmas.Bool.{false_from_ne_true}
use Rattle.std.proofs.lemmas.List.{map-append, length_push}
use Rattle.std.proofs.lemmas.List.Elements.{All-push}
use Rattle.like_requests.specs.declared.entries.Listed.{Listed}
use Rattle.like_requests.specs.Entries.{AreKeyed, NamedPage, page_of_entry, listed_pages}
use Rattle.like_requests.specs.Pages.{AreEntries, IsName, Page, names}
use Rattle.like_limits.specs.Limits.{max_count, max_pages}

-- two keys are equal where their bytes are
abbrev key_eq : Vec ℕ Global → Vec ℕ Global → Bool
key_eq a b = bytes_eq a.items b.items

-- an entry with a new key goes last
insert_entry-other : (es : List NamedPage) (key : Vec ℕ Global) (listed : Listed)
    → ¬ Contains (map (λ e. e.0.items) es) key.items
    → insert_entry key_eq es key listed ≡ es ++ (key, listed) ∷ []
insert_entry-other [] key listed other = refl
insert_entry-other (e ∷ es) key listed other =
    let here : bytes_eq key.items e.0.items ≡ false =
    false_from_ne_true _ (λ same. other (0, omega arith, sym ((bytes_eq-Decides key.items e.0.items).0 same))) in
    rw (here, insert_entry-other es key listed (λ found. other (suc found.0, omega (arith, found.1), found.2))) refl

-- an entry of a page with a new name is added behind the others
pub entry-added : (es new : List NamedPage) (key : Vec ℕ Global) (listed : Listed) (name : List ℕ)
    → new ≡ insert_entry key_eq es key listed
    → AreKeyed es
    → key.items ≡ name
    → ¬ Contains (names (listed_pages es)) name → new ≡ es ++ (key, listed) ∷ []
entry-added es new key listed name inserted keyed same other =
    inserted ∙ insert_entry-other es key listed
    (λ found. other
    (subst (λ ns. Contains ns name) keyed (subst (Contains (map (λ (e : NamedPage). e.0.items) es)) same found)))

-- one page more is listed
pub listed_pages-push : (es : List NamedPage) (key : Vec ℕ Global) (listed : Listed)
    → listed_pages (es ++ (key, listed) ∷ []) ≡ listed_pages es ++ page_of_entry (key, listed) ∷ []
listed_pages-push es key listed = map-append page_of_entry es _

-- by its name
pub keyed-push : (es : List NamedPage) (key : Vec ℕ Global) (listed : Listed)
    → AreKeyed es
    → key.items ≡ string_bytes listed.name
    → AreKeyed (es ++ (key, listed) ∷ [])
keyed-push es key listed keyed same =
    map-append (λ (e : NamedPage). e.0.items) es _ ∙ (λ i. keyed i ++ same i ∷ [])
    ∙ sym (ap names (listed_pages-push es key listed) ∙ map-append (λ (p : Page). p.name) (listed_pages es) _)

differs : (key : Vec ℕ Global) (es : List NamedPage) → AllByRecursion (λ y. key_eq key y ≡ false) (map (λ e. e.0) es)
    → AllByRecursion (λ y. bytes_eq key.items y ≡ false) (map (λ e. e.0.items) es)
differs key [] h = tt
differs key (e ∷ es) h = (h.0, differs key es h.1)

-- distinct keys have distinct bytes
distinct-bytes : (es : List NamedPage)
    → IsDistinct key_eq (map (λ e. e.0) es)
    → IsDistinct bytes_eq (map (λ e. e.0.items) es)
unfolding IsDistinct
distinct-bytes [] h = tt
distinct-bytes (e ∷ es) h = (differs e.0 es h.0, distinct-bytes es h.1)

-- and are distinct names
pub IsDistinct-names : (es : List NamedPage)
    → AreKeyed es
    → IsDistinct key_eq (map (λ e. e.0) es)
    → IsDistinct bytes_eq (names (listed_pages es))
IsDistinct-names es keyed h = subst (IsDistinct bytes_eq) keyed (distinct-bytes es h)

-- the entries with one more page
pub AreEntries-push : (pages : List Page) (page : Page)
    → AreEntries pages
    → length pages < max_pages
    → IsName page.name
    → page.count ≤ max_count
    → IsDistinct bytes_eq (names (pages ++ page ∷ [])) → AreEntries (pages ++ page ∷ [])
AreEntries-push pages page old room named counted distinct = record {
  few = omega (arith, length_push pages page);
  named = All-push (λ p. IsName p.name) pages page old.named named;
  counted = All-push (λ p. p.count ≤ max_count) pages page old.counted counted;
  distinct = distinct;
}
