use Rattle.std.proofs.Common.{◌≡◌, ℕ, ◌<◌, inl, inr, List, [], length, get_or, ap, sym, ◌∙◌, subst, arith}
use Rattle.std.proofs.lemmas.Bool.{cases_lt}
use Rattle.std.proofs.lemmas.List.{length-map, length-set, get_or-set_same, get_or-set_other}
use Rattle.like_promises.specs.declared.place.Place.{Place}
use Rattle.like_promises.specs.places.Places.{AreByOld, lists_in}
use Rattle.like_collection.proofs.page_places.sort_all.Goals as goal

pub loop-page-preserved : goal.loop-page-preserved
loop-page-preserved c =
    let i = c.loop-page.invariant in
    let s = c.in_ok-sort_at.ensures in
    let page = c.loop-page.page in
    let first : List (List Place) = lists_in c.args.rows.now.items in
    let old : List (List Place) = lists_in c.loop-page.rows.items in
    let sized = i.sized in
    let there : page < length old =
    omega (
      arith,
      length-map c.loop-page.rows.items (λ row. row.items),
      length-map c.args.rows.now.items (λ row. row.items),
      c.loop-page-test.true,
    ) in
    record {
      sized = ap length s.1.1 ∙ (length-set old page s.0 ∙ i.sized);
      done = λ k below. elim (cases_lt k page) [
        | inl earlier ↦
            subst (AreByOld (get_or first k []))
            (sym (ap (λ (ls : List (List Place)). get_or ls k []) s.1.1
            ∙ get_or-set_other old page k s.0 [] (λ e. absurd (omega arith))))
            (i.done k earlier)
        | inr past ↦
            let same : page ≡ k = omega arith in
            let now : AreByOld (get_or first page []) s.0 =
            subst (λ (xs : List Place). AreByOld xs s.0) (i.rest page (omega arith)) s.1.0 in
            let placed = subst (AreByOld (get_or first page []))
            (sym (ap (λ (ls : List (List Place)). get_or ls page []) s.1.1 ∙ get_or-set_same old page s.0 [] there))
            now in
            subst (λ (j : ℕ). AreByOld (get_or first j []) (get_or (lists_in c.sort_at.new.rows.items) j [])) same
            placed
      ];
      rest = λ k above.
          ap (λ (ls : List (List Place)). get_or ls k []) s.1.1
          ∙ (get_or-set_other old page k s.0 [] (λ e. absurd (omega arith)) ∙ i.rest k (omega arith));
    }

pub returns-clause-each : goal.returns-clause-each
returns-clause-each c = λ page below.
    let sized = c.loop-page.invariant.sized in
    c.loop-page.invariant.done page
    (omega (
      arith,
      length-map c.loop-page.rows.items (λ row. row.items),
      length-map c.args.rows.now.items (λ row. row.items),
      c.loop-page-test.false,
    ))
