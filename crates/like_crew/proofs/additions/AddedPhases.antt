-- What a worker's additions are of goes by the hot pages of the phases in which it ran requests.
use Rattle.std.proofs.Common.{◌≡◌, ℕ, zero, suc, ◌+◌, ◌<◌, ◌≤◌, ◌==◌, ◌&&◌, Bool, true, false, cond, List, [], ◌∷◌, ◌++◌, All, get_or, map, filter, slice_get, Option, Some, None, refl, sym, ap, ◌∙◌, subst, inl, inr, arith, append-nil}
use Rattle.std.specs.Option.{option_to_list}
use Rattle.std.proofs.lemmas.Bool.{and_from, cases_lt, eq-eqb, ne_eqb}
use Rattle.std.proofs.lemmas.List.Elements.{All-head, All-tail}
use Rattle.std.proofs.lemmas.Option.{get_or_from_slice_get, slice_get_within}
use Rattle.like_core.specs.Phase.{IsJoined}
use Rattle.like_core.proofs.Tiled.{counts_one}
use Rattle.like_promises.specs.declared.log.Added.{Added}
use Rattle.like_promises.specs.declared.log.Ran.{Ran}
use Rattle.like_promises.specs.declared.log.Took.{Took}
use Rattle.like_promises.specs.places.Adds.{AddsItsLikes, IsOfLikes, is_add_to}
use Rattle.like_roles.specs.worker.Follows.{likes_at}
use Rattle.like_promises.specs.Likes.{likes_among, likes_within}
use Rattle.like_promises.specs.Order.{entry_of, order}
use Rattle.like_promises.specs.Workload.{Workload, is_split_in}
use Rattle.like_promises.proofs.Blocks.{order_below, block-after_joined, order-parts, order_below-phases}
use Rattle.like_roles.proofs.InBlocks.{before-next}
use Rattle.like_roles.proofs.notes.Noted.{count-none}
use Rattle.like_crew.proofs.Makings.{all-back}

-- what is taken up to a joined phase has run by then
pub ran-within : (workload : Workload) (taken : List Took) (last : ℕ)
    → IsJoined last
    → All (λ t. t.phase ≤ last) taken
    → (ran : List Ran)
    → map entry_of ran ≡ order workload taken
    → All (λ e. e.phase ≤ last) ran
ran-within workload taken last joined within ran in_order =
    let before = before-next taken last within in
    let whole : map entry_of ran ≡ order_below workload taken (last + 1) =
    in_order ∙ order-parts workload taken last before
    ∙ ap (λ xs. order_below workload taken (last + 1) ++ xs) (block-after_joined workload taken last before joined)
    ∙ append-nil (order_below workload taken (last + 1)) in
    all-back entry_of (λ e. e.phase ≤ last) ran
    (subst (All (λ e. e.phase ≤ last)) (sym whole)
    (λ i d inside. let low = order_below-phases workload taken (last + 1) i d inside in omega arith))

module _ (workload : Workload) (hot other : ℕ → ℕ) (last : ℕ) (same : (k : ℕ) → k ≤ last → hot k ≡ other k) where
  abbrev before : Workload
  before = record workload { hot = hot }

  abbrev now : Workload
  now = record workload { hot = other }

  -- a page is split in these phases by both
  split-same : (k page : ℕ) → k ≤ last → is_split_in now k page ≡ is_split_in before k page
  split-same k page low = ap (λ (m : ℕ). is_split_in (record workload { hot = λ _. m }) k page) (sym (same k low))

  -- no like is of a later phase than any entry
  none-later : (ran : List Ran) (phase page : ℕ) → All (λ e. e.phase ≤ last) ran → last < phase
      → likes_within before page ran phase ≡ 0
  none-later [] phase page all past = refl
  none-later (e ∷ ran) phase page all past =
      let low = All-head (λ (x : Ran). x.phase ≤ last) e ran all in
      ap (λ (b : Bool). likes_among before page
      (cond b (e ∷ filter (λ x. x.phase == phase) ran) (filter (λ x. x.phase == phase) ran)))
      (ne_eqb e.phase phase (λ is. absurd (omega arith)))
      ∙ none-later ran phase page (All-tail (λ (x : Ran). x.phase ≤ last) e ran all) past

  module _ (ran : List Ran) (adds : List Added) (all : All (λ e. e.phase ≤ last) ran)
      (of : AddsItsLikes before ran adds) where
    none-at : (phase page at : ℕ) → last < phase → likes_at before phase page at ran ≡ 0
    none-at phase page at past = by_entry (slice_get ran at) refl where
      by_entry : (o : Option Ran) → slice_get ran at ≡ o → likes_within before page (option_to_list o) phase ≡ 0
      by_entry None is = refl
      by_entry (Some e) is =
          none-later (e ∷ []) phase page
          (λ k d inside. elim_one k d inside)
          past
        where
          low : e.phase ≤ last
          low = subst (λ (x : Ran). x.phase ≤ last) (get_or_from_slice_get ran at e e is)
              (all at e (slice_get_within ran at e is))

          elim_one : (k : ℕ) (d : Ran) → k < 1 → (get_or (e ∷ []) k d).phase ≤ last
          elim_one zero d inside = low
          elim_one (suc k) d inside = absurd (omega arith)

    -- no addition was made later
    adds-within : All (λ a. a.phase ≤ last) adds
    adds-within k d inside = elim (cases_lt last (get_or adds k d).phase) [
      | inl past ↦ absurd (by_split (is_split_in before (get_or adds k d).phase (get_or adds k d).page) refl past)
      | inr low ↦ low
    ] where
      by_split : (b : Bool) → is_split_in before (get_or adds k d).phase (get_or adds k d).page ≡ b
          → last < (get_or adds k d).phase → ⊥
      by_split true is past =
          let a : Added = get_or adds k d in
          let some = (of.each k d inside).some in
          let many = ((of.each k d inside).split is).0 in
          let none = none-later ran a.phase a.page all past in
          omega arith
      by_split false is past =
          let a : Added = get_or adds k d in
          let one = counts_one (λ x. is_add_to a.phase a.page x && (x.at == a.at)) adds k d inside
          (and_from (is_add_to a.phase a.page a) (a.at == a.at)
          (and_from (a.phase == a.phase) (a.page == a.page) (eq-eqb a.phase a.phase refl)
          (eq-eqb a.page a.page refl)) (eq-eqb a.at a.at refl)) in
          let many = of.plain a.phase a.page a.at is in
          let none = none-at a.phase a.page a.at past in
          omega arith

    not-added : (phase page : ℕ) → last < phase → All (λ a. is_add_to phase page a ≡ false) adds
    not-added phase page past k d inside =
        let a : Added = get_or adds k d in
        let low = adds-within k d inside in
        ap (λ b. b && (a.page == page)) (ne_eqb a.phase phase (λ is. absurd (omega arith)))

    pub of-likes-same : AddsItsLikes now ran adds
    of-likes-same = record {
      each = λ k d inside.
          let a : Added = get_or adds k d in
          let o : IsOfLikes before ran a = of.each k d inside in
          let alike = split-same a.phase a.page (adds-within k d inside) in
          record {
            some = o.some;
            plain = λ is. o.plain (sym alike ∙ is);
            split = λ is. o.split (sym alike ∙ is);
          };
      rising = of.rising;
      plain = λ phase page at is. elim (cases_lt last phase) [
        | inl past ↦
            count-none (λ a. is_add_to phase page a && (a.at == at)) adds
            (λ k d inside. ap (λ b. b && ((get_or adds k d).at == at)) (not-added phase page past k d inside))
            ∙ sym (none-at phase page at past)
        | inr low ↦ of.plain phase page at (sym (split-same phase page low) ∙ is)
      ];
      split = λ phase page is. elim (cases_lt last phase) [
        | inl past ↦
            count-none (is_add_to phase page) adds (not-added phase page past)
            ∙ sym (ap (λ (n : ℕ). cond {A = ℕ} (n == 0) 0 1) (none-later ran phase page all past))
        | inr low ↦ of.split phase page (sym (split-same phase page low) ∙ is)
      ];
    }
