-- A pass takes the lock and gives it back: both steps keep the rule.
use Rattle.std.proofs.Common.{◌≡◌, ◌≢◌, ◌==◌, ℕ, ◌<◌, Bool, true, false, inl, inr, List, [], ◌∷◌, ◌++◌, length, set, slice_index, slice_set, Option, Some, None, refl, sym, ap, ◌∙◌, subst, arith, eq-eqb, ne_eqb, if◌then◌else◌}
use Rattle.std.specs.Prelude.{MatchBool}
use Rattle.std.proofs.lemmas.List.Elements.{All-weaker}
use Rattle.std.proofs.lemmas.Bool.{cases_eq}
use Rattle.std.proofs.lemmas.List.{get_or-set_same, length-set, set-get_or}
use mathlib.Core.Option.{Option as Home, none, some}
use lib.ListN.{get_elem?}
use prog.Atomic.{either}
use Rattle.atomic_table.specs.Table.{Act, Allows, Me, State, Valid, carried_after, gives, keeps, stepped, takes}
use Rattle.atomic_table.proofs.Lists.{exchanged, set_again, set_else, set_here}
use Rattle.told_lock.specs.declared.known.Known.{Known}
use Rattle.told_lock.specs.declared.known.Known.TheVariants.{Back, Keeper, Pass}
use Rattle.told_lock.specs.Deeds.{Continues, ContinuesWithout, HasRun, Named, deeds_by, deeds_in, named}
use Rattle.told_lock.specs.Known.{Takes, given_back, name_in, noted, seen_in}
use Rattle.told_lock.specs.Rule.{IsLocked, Knows, lock_word, taken_by, view_at, word_for}
use Rattle.told_lock.proofs.Logs.{by-other, none-behind, on-more, on-without, own-more, run-more, same-without}
use Rattle.told_lock.proofs.Views.{holder-is, read-at, set-outs, set-view, taken-none, taken-some, within}

-- a word that is written
word-set : (words : List ℕ) (i w : ℕ) → i < length words → slice_index (slice_set words i w) i ≡ w
word-set words i w there = get_or-set_same words i w 0 there

-- the word is 1 if somebody has the lock
held : (holder : ℕ) → holder ≢ 0 → word_for holder ≡ 1
held holder some_one = let f : Bool → ℕ = λ b. if b then 0 else 1 in ap f (ne_eqb holder 0 some_one)

-- and nobody has it if the word is 0
pub free : (holder : ℕ) → word_for holder ≡ 0 → holder ≡ 0
free holder is = elim (cases_eq holder 0) [
  | inl nobody ↦ nobody
  | inr some_one ↦ absurd (omega (arith, is, held holder some_one))
]

-- the two cases of what a try tells
match-true : (b : Bool) (P Q : Type 0) → b ≡ true → P → MatchBool b P Q
match-true true P Q is p = p
match-true false P Q is p = absurd (cc is)

match-false : (b : Bool) (P Q : Type 0) → b ≡ false → Q → MatchBool b P Q
match-false true P Q is q = absurd (cc is)
match-false false P Q is q = q

module _ {T C : Type 0} (me after : Me T (Known T C)) (n : ℕ) (seen : Named C) (done : List C) where
  -- a pass's log, once it has told these deeds
  log-more : {f : T} {taken : Option T} {carried : List (ℕ × T)}
      → after ≡ (Pass f n (seen ++ named n done) taken, carried)
      → deeds_by (name_in after.0) (seen_in after.0) ≡ deeds_by n seen ++ done
  log-more is =
      ap (λ (m : Me T (Known T C)). deeds_by (name_in m.0) (seen_in m.0)) is ∙ own-more n seen (deeds_by n seen) done refl

  -- and given the lock back
  pub log-given : {f : T} {taken : Option T} {carried : List (ℕ × T)}
      → me ≡ (Pass f n seen taken, carried) → after ≡ (given_back me.0 done, [])
      → deeds_by (name_in after.0) (seen_in after.0) ≡ deeds_by n seen ++ done
  log-given was is = log-more (is ∙ ap (λ (m : Me T (Known T C)). (given_back m.0 done, [])) was)

  -- or kept it
  pub log-noted : {f now : T} {slot : ℕ} {taken : Option T} {carried : List (ℕ × T)}
      → me ≡ (Pass f n seen taken, (slot, now) ∷ carried) → after ≡ (noted me.0 me.1 done, me.1)
      → deeds_by (name_in after.0) (seen_in after.0) ≡ deeds_by n seen ++ done
  log-noted was is = log-more (is ∙ ap (λ (m : Me T (Known T C)). (noted m.0 m.1 done, m.1)) was)

module _ {T C : Type 0} (does : T → C → T → Type 0) (first : T) where
  -- what is so of a pass that is out
  pub pass-at : (s : State T (Known T C)) (k : IsLocked does first s) (id n : ℕ) (f : T) (seen : Named C)
      (taken : Option T)
      → get_elem? s.views id ≡ some (Pass f n seen taken)
      → Knows first k.now k.order k.told k.holder id (Pass f n seen taken)
  pass-at s k id n f seen taken at =
      subst (Knows first k.now k.order k.told k.holder id)
      (read-at s.views id (Pass f n seen taken) (Pass first id [] None) at) (k.views id)

  -- what a seat knows stays so if other passes do something
  still : (now now' : T) (order order' told : Named C) (holder holder' name : ℕ) (v : Known T C)
      → ((m : ℕ) → m ≡ name → ContinuesWithout m order order')
      → (name ≢ 0 → (holder ≢ name) × (holder' ≢ name))
      → Knows first now order told holder name v → Knows first now' order' told holder' name v
  still now now' order order' told holder holder' name (Keeper f made out t seen) same apart knows =
      let on = same 0 (sym knows.0) in (
        knows.0,
        knows.1,
        same-without 0 order order' on ∙ knows.2,
        knows.3,
        All-weaker (λ s. Continues s order) (λ s. Continues s order')
            (λ s was. on-more s order order' was (on.0, on.1)) seen knows.4,
      )
  still now now' order order' told holder holder' name (Pass f n seen taken) same apart knows =
      let none = apart knows.0 in (
        knows.0,
        knows.1,
        knows.2,
        on-without name seen order order' knows.3 (same name refl),
        knows.4 ∙ taken-none holder name now none.0 ∙ sym (taken-none holder' name now' none.1),
        knows.5,
        λ e. absurd (none.1 e),
      )
  still now now' order order' told holder holder' name Back same apart knows =
      let none = apart knows.0 in (knows.0, same-without name order order' (same name refl) ∙ knows.1, none.1)

  module _ (s : State T (Known T C)) (k : IsLocked does first s) (id : ℕ) (seen : Named C) (taken : Option T)
      (at : get_elem? s.views id ≡ some (Pass first id seen taken)) where
    -- the state after a step of this pass
    abbrev stepped-to : ℕ → List (Home T) → Named C → Option T → State T (Known T C)
    stepped-to w homes seen' taken' =
        let v : Known T C = Pass first id seen' taken' in
        record { words = slice_set s.words lock_word w; homes = homes; views = slice_set s.views id v }

    -- it keeps the rule with this order, which the pass has seen, this value and this holder, if nobody else has the lock
    -- before or after it
    steps : (w : ℕ) (homes : List (Home T)) (order : Named C) (now : T) (holder : ℕ) (seen' : Named C)
        (taken' : Option T)
        → HasRun does first (deeds_in order) now
        → ((m : ℕ) → m ≢ id → ContinuesWithout m k.order order)
        → order ≡ seen'
        → ((m : ℕ) → m ≢ 0 → m ≢ id → (k.holder ≢ m) × (holder ≢ m))
        → taken' ≡ taken_by holder now id
        → w ≡ word_for holder
        → (holder ≡ 0 → get_elem? homes 0 ≡ some (some now))
        → IsLocked does first (stepped-to w homes seen' taken')
    steps w homes order now holder seen' taken' run apart all others mine word home =
        let views = s.views in
        let v : Known T C = Pass first id seen' taken' in
        let it = pass-at s k id id first seen taken at in
        let there = within views id (Pass first id seen taken) at in
        record {
          order = order;
          now = now;
          run = run;
          made = k.made;
          out = k.out;
          told = k.told;
          seens = k.seens;
          keeper = set_else views id 0 v (λ z. it.0 (sym z)) ∙ k.keeper;
          all = length-set views id v ∙ k.all;
          are_out =
              let rest = set-outs views id (Pass first id seen taken) v at in
              let same = k.are_out in omega (arith, rest, same);
          holder = holder;
          views = set-view first (Knows first now order k.told holder) views id v there
              (it.0, refl, refl, none-behind id seen' order all, mine, it.5, λ _. all)
              (λ m other. still k.now now k.order order k.told k.holder holder m (view_at first views m)
              (λ n is. apart n (λ e. other (sym is ∙ e))) (λ some_one. others m some_one other) (k.views m));
          word = word-set s.words lock_word w k.sized ∙ word;
          sized = subst (λ (n : ℕ). lock_word < n) (sym (length-set s.words lock_word w)) k.sized;
          home = home;
        }

  -- a pass may try to take the lock
  abbrev pub MayTry : ℕ → ℕ → Me T (Known T C) → Type 0
  MayTry slots id me =
      Allows (IsLocked does first) slots id me lock_word (λ w. either (w == 0) 1 w)
      (λ found after. MatchBool (found == 0) (Takes does me.0 after) (after ≡ me))

  -- it may: it takes the lock if nobody has it, and else nothing changes
  pub tries : {slots : ℕ} (id : ℕ) {n : ℕ} {f : T} {seen : Named C} → MayTry slots id (Pass f n seen None, [])
  tries {slots} id {n} {f} {seen} s k long at bound =
      let word = slice_index s.words lock_word in
      let p = pass-at s k id n f seen None at in
      let me : Me T (Known T C) = (Pass f n seen None, []) in
      let is : get_elem? s.views id ≡ some (Pass first id seen None) =
      at ∙ (λ i. some (Pass (p.1 i) (p.2 i) seen None)) in
      let told : Known T C → Act T → Type 0 =
      (λ v a. MatchBool (word == 0) (Takes does me.0 (v, carried_after [] a)) ((v, carried_after [] a) ≡ me)) in
      exchanged word 0 1
      (λ w. (v : Known T C) × (a : Act T) × Valid s.homes [] a
      × IsLocked does first (stepped s lock_word w id [] v a) × told v a)
      (λ zero.
      let nobody = free k.holder (sym k.word ∙ zero) in
      let view : ◌≡◌ {A = Known T C} (Pass first id k.order (Some k.now)) (Pass f n k.order (Some k.now)) =
      (λ i. Pass (sym p.1 i) (sym p.2 i) k.order (Some k.now)) in (
        Pass f n k.order (Some k.now),
        takes 0 k.now,
        k.home nobody,
        subst (λ v. IsLocked does first (stepped s lock_word 1 id [] v (takes 0 k.now))) view
            (steps s k id seen None is 1 (set s.homes 0 none) k.order k.now id k.order (Some k.now) k.run
            (λ m other. none-behind m k.order k.order refl) refl
            (λ m some_one other. (λ e. some_one (sym e ∙ nobody), λ e. other (sym e)))
            (sym (taken-some id id k.now refl)) (sym (held id p.0)) (λ e. absurd (p.0 e))),
        match-true (word == 0) _ _ (eq-eqb word 0 zero) (
          k.now,
          k.order,
          refl,
          subst (λ m. ContinuesWithout m seen k.order) (sym p.2) p.3,
          subst (λ x. HasRun does x (deeds_in k.order) k.now) (sym p.1) k.run,
        ),
      ))
      (λ busy. (
        Pass f n seen None,
        keeps,
        tt,
        subst (λ (l : List ℕ). IsLocked does first (record { words = l; homes = s.homes; views = set s.views id me.0 }))
            (sym (set-get_or s.words lock_word 0))
            (subst (λ l. IsLocked does first (record { words = s.words; homes = s.homes; views = l }))
            (sym (set_again s.views id me.0 at)) k),
        match-false (word == 0) _ _ (ne_eqb word 0 busy) refl,
      ))

  -- a pass may give the lock back, after these deeds
  abbrev pub MayGive : List C → ℕ → ℕ → Me T (Known T C) → Type 0
  MayGive done slots id me =
      Allows (IsLocked does first) slots id me lock_word (λ _. 0) (λ _ after. after ≡ (given_back me.0 done, []))

  -- it may, if these lead from the value that it took to the one that it leaves
  pub gives-back : {slots : ℕ} (id : ℕ) {n : ℕ} {f x y : T} {seen : Named C} (done : List C) → slots ≡ 1
      → HasRun does x done y → MayGive done slots id (Pass f n seen (Some x), (0, y) ∷ [])
  gives-back {slots} id {n} {f} {x} {y} {seen} done one run s k long at bound =
      let p = pass-at s k id n f seen (Some x) at in
      let h = holder-is k.holder id x k.now p.4 in
      let is : get_elem? s.views id ≡ some (Pass first id seen (Some x)) =
      at ∙ (λ i. some (Pass (p.1 i) (p.2 i) seen (Some x))) in
      let order : Named C = k.order ++ named id done in
      let view : ◌≡◌ {A = Known T C} (Pass first id (seen ++ named id done) None) (Pass f n (seen ++ named n done) None) =
      (λ i. Pass (sym p.1 i) (sym p.2 i) (seen ++ named (sym p.2 i) done) None) in
      let there : 0 < length s.homes = omega (arith, long, one) in (
        Pass f n (seen ++ named n done) None,
        gives,
        tt,
        subst (λ v. IsLocked does first (stepped s lock_word 0 id ((0, y) ∷ []) v gives)) view
            (steps s k id seen (Some x) is 0 (set s.homes 0 (some y)) order y 0 (seen ++ named id done) None
            (run-more does first k.now y k.order id done k.run (subst (λ v. HasRun does v done y) h.1 run))
            (λ m other. (named id done, refl, by-other m id done (λ e. other (sym e))))
            (ap (λ (l : Named C). l ++ named id done) (p.6 h.0))
            (λ m some_one other. (λ e. other (sym e ∙ h.0), λ e. some_one (sym e)))
            (sym (taken-none 0 id y (λ e. p.0 (sym e)))) refl (λ z. set_here s.homes 0 (some y) there)),
        refl,
      )

  -- a pass may tell these deeds, and keep the lock
  abbrev pub MayNote : List C → ℕ → ℕ → Me T (Known T C) → Type 0
  MayNote done slots id me =
      Allows (IsLocked does first) slots id me lock_word (λ _. 1) (λ _ after. after ≡ (noted me.0 me.1 done, me.1))

  -- it may, if these lead from the value that it took to the one that it has now
  pub notes : {slots : ℕ} (id : ℕ) {n : ℕ} {f x y : T} {seen : Named C} (done : List C) → HasRun does x done y
      → MayNote done slots id (Pass f n seen (Some x), (0, y) ∷ [])
  notes {slots} id {n} {f} {x} {y} {seen} done run s k long at bound =
      let p = pass-at s k id n f seen (Some x) at in
      let h = holder-is k.holder id x k.now p.4 in
      let is : get_elem? s.views id ≡ some (Pass first id seen (Some x)) =
      at ∙ (λ i. some (Pass (p.1 i) (p.2 i) seen (Some x))) in
      let order : Named C = k.order ++ named id done in
      let view : ◌≡◌ {A = Known T C} (Pass first id (seen ++ named id done) (Some y))
      (Pass f n (seen ++ named n done) (Some y)) =
      (λ i. Pass (sym p.1 i) (sym p.2 i) (seen ++ named (sym p.2 i) done) (Some y)) in (
        Pass f n (seen ++ named n done) (Some y),
        keeps,
        tt,
        subst (λ v. IsLocked does first (stepped s lock_word 1 id ((0, y) ∷ []) v keeps)) view
            (steps s k id seen (Some x) is 1 s.homes order y id (seen ++ named id done) (Some y)
            (run-more does first k.now y k.order id done k.run (subst (λ v. HasRun does v done y) h.1 run))
            (λ m other. (named id done, refl, by-other m id done (λ e. other (sym e))))
            (ap (λ (l : Named C). l ++ named id done) (p.6 h.0))
            (λ m some_one other. (λ e. other (sym e ∙ h.0), λ e. other (sym e)))
            (sym (taken-some id id y refl)) (sym (held id p.0)) (λ e. absurd (p.0 e))),
        refl,
      )
