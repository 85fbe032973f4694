-- The files that options name, opened one after the other.
use Rattle.std.proofs.Common.{◌≡◌, ◌+◌, ◌<◌, ◌∙◌, ℕ, suc, List, [], ◌∷◌, ◌++◌, Option, None, Some, add-one, ap, append-nil, append_assoc, arith, get_or, length, length-append, map, option_map, refl, string_bytes, subst, sym}
use Rattle.std.specs.Prelude.{IsSomeAnd, String, is_some, slice_get}
use Rattle.std.specs.Option.{option_to_list}
use Rattle.std.specs.declared.alloc.Global.{Global}
use Rattle.std.proofs.lemmas.List.{length-map}
use Rattle.std.proofs.lemmas.Option.{slice_get-map, slice_get_read}
use Rattle.like_requests.specs.declared.script_file.ScriptFault.TheVariants as script_fault
use Rattle.like_command.specs.declared.options.Options.{Options}
use Rattle.like_files.specs.Faults.{submitter_at}
use Rattle.like_files.specs.Opened.{AreNamed, IsUnopened, StopsAt, opened_as, stopped_by}
use Rattle.like_files.specs.StandardInput.{names_of}
use Rattle.like_files.specs.Tries.{Tries, Try}
use Rattle.like_files.specs.declared.fault.DriverFault.TheVariants as driver
use Rattle.like_files.specs.declared.opened.Opened.{Opened}

module _ {R : Type 0} where
  -- the file of a name was tried
  abbrev pub tried : List ℕ → Option R → Try R
  tried name opened = record { name = name; opened = opened }

  -- tries, and more of them
  pub Tries-trans : (a b c : Option (List (Try R))) (xs ys : List (Try R))
      → Tries a b xs
      → Tries b c ys
      → Tries a c (xs ++ ys)
  Tries-trans None b c xs ys p q = tt
  Tries-trans (Some x) None c xs ys p q = absurd p
  Tries-trans (Some x) (Some y) None xs ys p q = absurd q
  Tries-trans (Some x) (Some y) (Some z) xs ys p q = q ∙ ap (λ l. l ++ ys) p ∙ append_assoc x xs ys

  -- no tries
  pub Tries-none : (a : Option (List (Try R))) → Tries a a []
  Tries-none None = tt
  Tries-none (Some x) = sym (append-nil x)

  -- the files of names, and of one more
  pub opened_as-more : (names : List (List ℕ)) (readers : List R) (name : List ℕ) (reader : R)
      → slice_get names (length readers) ≡ Some name
      → opened_as names (readers ++ reader ∷ []) ≡ opened_as names readers ++ tried name (Some reader) ∷ []
  opened_as-more [] readers name reader is = absurd (let no : None ≡ Some name = is in cc no)
  opened_as-more (n ∷ []) [] name reader is =
      let same : n ≡ name = cc is in ap (λ x. tried x (Some reader) ∷ []) same
  opened_as-more (n ∷ m ∷ names) [] name reader is =
      let same : n ≡ name = cc is in ap (λ x. tried x (Some reader) ∷ []) same
  opened_as-more (n ∷ names) (r ∷ readers) name reader is =
      ap (λ ts. tried n (Some r) ∷ ts) (opened_as-more names readers name reader is)

  -- no file was opened
  pub none_opened : (names : List (List ℕ)) → opened_as {R = R} names [] ≡ []
  none_opened [] = refl
  none_opened (n ∷ names) = refl

  -- the files of names, and then those of more names
  pub opened_as-append : (names more : List (List ℕ)) (readers rest : List R) → length readers ≡ length names
      → opened_as (names ++ more) (readers ++ rest) ≡ opened_as names readers ++ opened_as more rest
  opened_as-append [] more [] rest same = refl
  opened_as-append [] more (r ∷ readers) rest same =
      let no : suc (length readers) ≡ 0 = same in let f : ⊥ = omega (arith, no) in absurd f
  opened_as-append (n ∷ names) more [] rest same =
      let no : 0 ≡ suc (length names) = same in let f : ⊥ = omega (arith, no) in absurd f
  opened_as-append (n ∷ names) more (r ∷ readers) rest same =
      let rest_same : length readers ≡ length names =
      let all : suc (length readers) ≡ suc (length names) = same in omega (arith, all) in
      ap (λ ts. tried n (Some r) ∷ ts) (opened_as-append names more readers rest rest_same)

-- the name behind some names
at_end : (names : List (List ℕ)) (name : List ℕ) → slice_get (names ++ name ∷ []) (length names) ≡ Some name
at_end [] name = refl
at_end (n ∷ names) name = at_end names name

module _ {R : Type 0} (old mid new : Option (List (Try R))) (names : List (List ℕ)) (readers : List R) (place : ℕ)
    (name : List ℕ) (is : slice_get names place ≡ Some name) (opened : length readers ≡ place)
    (before : Tries old mid (opened_as names readers)) where
  -- one more file was opened
  pub opened-more : (reader : R) → Tries mid new (tried name (Some reader) ∷ [])
      → (length (readers ++ reader ∷ []) ≡ place + 1) × Tries old new (opened_as names (readers ++ reader ∷ []))
  opened-more reader one = (
    length-append readers (reader ∷ []) ∙ ap (λ n. n + 1) opened,
    rw (opened_as-more names readers name reader (ap (slice_get names) opened ∙ is))
        (Tries-trans old mid new (opened_as names readers) (tried name (Some reader) ∷ []) before one),
  )

  -- or the opening stopped at it
  pub stops-at : (last : Option R) → Tries mid new (tried name last ∷ []) → StopsAt old new names place last
  stops-at last one = record {
    readers = readers;
    opened = opened;
    tries = rw is (Tries-trans old mid new (opened_as names readers) (tried name last ∷ []) before one);
  }

-- the name of the request file at this place
pub name-at : (names : List (String Global)) (place : ℕ) (name : String Global) → place < length names
    → name ≡ get_or names place name → slice_get (map string_bytes names) place ≡ Some (string_bytes name)
name-at names place name there is =
    slice_get-map string_bytes names place
    ∙ ap (λ o. option_map string_bytes o) (slice_get_read names (length names) place name refl there is)

module _ {R : Type 0} (old mid new : Option (List (Try R))) (options : Options) (pages : R)
    (first : Tries old mid (tried (string_bytes options.pages) (Some pages) ∷ [])) where
  -- the names of the request files
  abbrev requested : List (List ℕ)
  requested = map string_bytes options.requests.items

  -- a request file stopped the opening, after the pages file was opened
  pub unopened-requests : (place : ℕ) (last : Option R) → StopsAt mid new requested place last
      → IsUnopened old new options (driver.Requests (submitter_at place) (stopped_by last))
  unopened-requests place last stops = (
    place,
    refl,
    last,
    refl,
    subst (λ n. StopsAt old new (string_bytes options.pages ∷ requested) n last) (sym (add-one place)) (record {
      readers = pages ∷ stops.readers;
      opened = ap suc stops.opened;
      tries = both (slice_get requested place) (λ name.
          opened_as requested stops.readers ++ tried name last ∷ []) stops.tries;
    }),
  )
    where
      both : (name : Option (List ℕ)) (more : List ℕ → List (Try R))
          → IsSomeAnd name (λ n. Tries mid new (more n))
          → IsSomeAnd name (λ n. Tries old new (tried (string_bytes options.pages) (Some pages) ∷ more n))
      both None more h = absurd h
      both (Some n) more h =
          Tries-trans old mid new (tried (string_bytes options.pages) (Some pages) ∷ []) (more n) first h

module _ {R : Type 0} (old one two new : Option (List (Try R))) (options : Options) (pages : R) (readers : List R)
    (all : length readers ≡ length (map string_bytes options.requests.items))
    (first : Tries old one (tried (string_bytes options.pages) (Some pages) ∷ []))
    (rest : Tries one two (opened_as (map string_bytes options.requests.items) readers)) where
  -- the pages file and the request files were opened
  front : Tries old two
      (tried (string_bytes options.pages) (Some pages) ∷ opened_as (map string_bytes options.requests.items) readers)
  front =
      Tries-trans old one two (tried (string_bytes options.pages) (Some pages) ∷ [])
      (opened_as (map string_bytes options.requests.items) readers) first rest

  -- and the script file wasn't
  pub unopened-script : (script : String Global) → options.script ≡ Some script
      → Tries two new (tried (string_bytes script) None ∷ [])
      → IsUnopened old new options (driver.Script script_fault.Read)
  unopened-script script named tried_it =
      let requested : List (List ℕ) = map string_bytes options.requests.items in
      let count : ℕ = length options.requests.items in
      let more : List (List ℕ) = requested ++ string_bytes script ∷ [] in
      let names : List (List ℕ) = string_bytes options.pages ∷ more in
      let whole : names_of options ≡ names =
      ap (λ s. string_bytes options.pages ∷ requested ++ option_to_list (option_map string_bytes s)) named in
      let counted : length requested ≡ count = length-map options.requests.items string_bytes in
      let there : slice_get more count ≡ Some (string_bytes script) =
      ap (slice_get more) (sym counted) ∙ at_end requested (string_bytes script) in
      let same : opened_as more readers ≡ opened_as requested readers =
      ap (opened_as more) (sym (append-nil readers))
      ∙ (opened_as-append requested (string_bytes script ∷ []) readers [] all
      ∙ append-nil (opened_as requested readers)) in
      let before : Tries old two (opened_as names (pages ∷ readers)) =
      subst (λ ts. Tries old two (tried (string_bytes options.pages) (Some pages) ∷ ts)) (sym same) front in
      let stops : StopsAt old new names (suc count) None =
      stops-at old two new names (pages ∷ readers) (suc count) (string_bytes script) there (ap suc (all ∙ counted)) before
      None tried_it in (
        refl,
        subst (λ n. StopsAt old new (names_of options) n None) (sym (add-one count))
            (subst (λ ns. StopsAt old new ns (suc count) None) (sym whole) stops),
      )

-- all files were opened, and a script is one of them
pub named-scripted : {R : Type 0} (old one two new : Option (List (Try R))) (options : Options) (opened : Opened R)
    (name : String Global) (script : R)
    → options.script ≡ Some name → opened.script ≡ Some script
    → length opened.requests.items ≡ length (map string_bytes options.requests.items)
    → Tries old one (tried (string_bytes options.pages) (Some opened.pages) ∷ [])
    → Tries one two (opened_as (map string_bytes options.requests.items) opened.requests.items)
    → Tries two new (tried (string_bytes name) (Some script) ∷ [])
    → AreNamed old new options opened
named-scripted {R = Reader} old one two new options opened name script some scripted all first rest last =
    let requested : List (List ℕ) = map string_bytes options.requests.items in
    let items : List Reader = opened.requests.items in
    let more : List (List ℕ) = requested ++ string_bytes name ∷ [] in
    let names : names_of options ≡ string_bytes options.pages ∷ more =
    ap (λ s. string_bytes options.pages ∷ requested ++ option_to_list (option_map string_bytes s)) some in
    let readers : opened.pages ∷ items ++ option_to_list opened.script ≡ opened.pages ∷ items ++ script ∷ [] =
    ap (λ s. opened.pages ∷ items ++ option_to_list s) scripted in
    let front : Tries old two (tried (string_bytes options.pages) (Some opened.pages) ∷ opened_as requested items) =
    Tries-trans old one two (tried (string_bytes options.pages) (Some opened.pages) ∷ []) (opened_as requested items)
    first rest in
    record {
      all_requests = all ∙ length-map options.requests.items string_bytes;
      scripted = ap is_some scripted ∙ sym (ap is_some some);
      tries =
          subst (λ ns. Tries old new (opened_as ns (opened.pages ∷ items ++ option_to_list opened.script))) (sym names)
          (subst (λ rs. Tries old new (opened_as (string_bytes options.pages ∷ more) rs)) (sym readers)
          (subst (λ ts. Tries old new (tried (string_bytes options.pages) (Some opened.pages) ∷ ts))
          (sym (opened_as-append requested (string_bytes name ∷ []) items (script ∷ []) all))
          (Tries-trans old two new (tried (string_bytes options.pages) (Some opened.pages) ∷ opened_as requested items)
          (tried (string_bytes name) (Some script) ∷ []) front last)));
    }
