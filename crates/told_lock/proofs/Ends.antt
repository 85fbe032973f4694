-- A lock is made, and closed once no pass is out.
use Rattle.std.proofs.Common.{◌≡◌, ◌≢◌, ℕ, zero, suc, ◌<◌, inl, inr, List, [], ◌∷◌, ◌++◌, length, map, Option, None, refl, sym, ap, ◌∙◌, subst, arith}
use Rattle.std.specs.Prelude.{All, slice_index}
use Rattle.std.proofs.lemmas.Bool.{cases_eq}
use Rattle.std.proofs.lemmas.List.Elements.{All-nil}
use mathlib.Core.Option.{some, some-injective}
use lib.ListN.{get_elem?}
use Rattle.atomic_table.specs.Table.{Final, Seen, opening}
use Rattle.told_lock.specs.declared.known.Known.{Known}
use Rattle.told_lock.specs.declared.known.Known.TheVariants.{Back, Keeper, Pass}
use Rattle.told_lock.specs.Deeds.{Continues, HasRun, Leads, Named, deeds_by, deeds_in}
use Rattle.told_lock.specs.Rule.{IsLocked, Knows, lock_word, view_at}
use Rattle.told_lock.proofs.Holding.{free}
use Rattle.told_lock.proofs.Keeping.{keeper-at, knows-first}
use Rattle.told_lock.proofs.Logs.{same-without}
use Rattle.told_lock.proofs.Views.{holder-not, quiet, read-at, taken-none}

module _ {T C : Type 0} (does : T → C → T → Type 0) (first : T) where
  -- the table of a new lock
  pub opens : {value : T} {words : List ℕ} {none slots : List T} → lock_word < length words
      → slice_index words lock_word ≡ 0 → first ≡ value → none ≡ [] → slots ≡ none ++ value ∷ []
      → IsLocked {C = C} does first (opening words slots (Keeper first 0 0 [] []))
  opens {value} {words} {none} {slots} sized free-word is none-is slots-are = record {
    order = [];
    now = first;
    run = refl;
    made = 0;
    out = 0;
    told = [];
    seens = [];
    keeper = refl;
    all = refl;
    are_out = refl;
    holder = 0;
    views = new-views;
    word = free-word;
    sized = sized;
    home =
        let all : slots ≡ value ∷ [] = slots-are ∙ ap (λ (l : List T). l ++ value ∷ []) none-is in
        λ z. ap (λ (l : List T). get_elem? (map some l) 0) all ∙ ap (λ (x : T). some (some x)) (sym is);
  } where
    new-views : (n : ℕ)
        → Knows {C = C} first first [] [] 0 n (view_at first (Keeper first 0 0 [] [] ∷ []) n)
    new-views zero = (refl, refl, refl, refl, All-nil (λ s. Continues s []))
    new-views (suc n) =
        let some_one : suc n ≢ 0 = λ z. absurd (omega (arith, z)) in (
          some_one,
          refl,
          refl,
          ([], refl, refl),
          sym (taken-none 0 (suc n) first (λ z. some_one (sym z))),
          refl,
          λ _. refl,
        )

  -- what is so of a view, once no pass is out
  closed : (now : T) (order told : Named C) (holder name : ℕ) (v : Known T C)
      → ((f : T) (n : ℕ) (seen : Named C) (taken : Option T) → v ≡ Pass f n seen taken
      → (seen ≡ []) × (taken ≡ None))
      → Knows first now order told holder name v
      → (deeds_by name order ≡ deeds_by name told) × (name ≢ 0 → holder ≢ name)
  closed now order told holder name (Keeper f made out t seens) quiet knows = (
    ap (λ m. deeds_by m order) knows.0 ∙ knows.2 ∙ sym (ap (λ m. deeds_by m told) knows.0 ∙ knows.3),
    λ some_one. absurd (some_one knows.0),
  )
  closed now order told holder name (Pass f n seen taken) quiet knows =
      let none = quiet f n seen taken refl in (
        same-without name seen order knows.3 ∙ ap (deeds_by name) none.0 ∙ sym knows.5,
        λ some_one. holder-not holder name now (sym none.1 ∙ knows.4),
      )
  closed now order told holder name Back quiet knows = (knows.1, λ some_one. knows.2)

  -- once no pass is out, what the passes told leads to the value
  pub closes : {words : List ℕ} (xs : List T) {id made out : ℕ} {f value : T} {told : Named C}
      {seens : List (Named C)} {v : Known T C}
      → v ≡ Keeper f made out told seens → out ≡ 0 → Final (Seen (IsLocked does first) id v) words xs
      → get_elem? xs 0 ≡ some value → Leads does first told seens value
  closes {words} xs {id} {made} {out} {f} {value} {told} {seens} {v} v-is all-back end at =
      let s = end.0 in
      let k = end.1.0 in
      let here = keeper-at does first s k id made out f told seens (end.1.1 ∙ ap some v-is) in
      let none : out ≡ k.out = cc here.is in
      let told-is : k.told ≡ told = cc (sym here.is) in
      let seens-are : k.seens ≡ seens = cc (sym here.is) in
      let seen : (m : ℕ) → (deeds_by m k.order ≡ deeds_by m k.told) × (m ≢ 0 → k.holder ≢ m) =
      (λ m. closed k.now k.order k.told k.holder m (view_at first s.views m)
      (λ f n seen taken. quiet s.views m first m f n seen taken (k.are_out ∙ sym none ∙ all-back)) (k.views m)) in
      let nobody : k.holder ≡ 0 = elim (cases_eq k.holder 0) [
        | inl none_has ↦ none_has
        | inr some_one ↦ absurd ((seen k.holder).1 some_one refl)
      ] in
      let is : k.now ≡ value = some-injective _ _ (sym (end.4 0 k.now (k.home nobody)) ∙ at) in
      record {
        order = k.order;
        own = λ m. (seen m).0 ∙ ap (deeds_by m) told-is;
        run = subst (HasRun does first (deeds_in k.order)) is k.run;
        continues = subst (All (λ s. Continues s k.order)) seens-are (knows-first does first s k).4;
      }

  -- if nobody has the lock, all deeds so far lead to the value
  pub frees : {words : List ℕ} (xs : List T) {word : ℕ} {value : T} → Final (IsLocked {C = C} does first) words xs
      → get_elem? words lock_word ≡ some word → word ≡ 0 → get_elem? xs 0 ≡ some value
      → (done : List C) × HasRun does first done value
  frees {words} xs {word} {value} end word-is zero-word at =
      let k = end.1 in
      let found = ap (λ ws. slice_index ws lock_word) end.2 ∙ read-at words lock_word word 0 word-is ∙ zero-word in
      let nobody = free k.holder (sym k.word ∙ found) in
      let is : k.now ≡ value = some-injective _ _ (sym (end.4 0 k.now (k.home nobody)) ∙ at) in
      (deeds_in k.order, subst (HasRun does first (deeds_in k.order)) is k.run)
