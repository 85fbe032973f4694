use Rattle.std.proofs.Common.{ℕ, ◌^◌, ◌<◌, ◌≤◌, List, length, get_or, ap, refl, sym, subst, ◌∙◌}
use Rattle.std.proofs.lemmas.Result.{IfOk-weaker}
use Rattle.like_roles.specs.worker.New.{IsPostOf}
use Rattle.test_parts.proofs.Playing.{counts_small}
use Rattle.test_parts.proofs.roles.play.board_of.Goals as goal

pub new-requires-clause-counts : goal.new-requires-clause-counts
new-requires-clause-counts c =
    let pages = c.args.setup.now.pages in
    let same = c.as_slice.ensures.value ∙ c.in_ok-counts.ensures.counts in
    subst (λ (xs : List ℕ). (k d : ℕ) → k < length xs → get_or xs k d ≤ 10 ^ 18) (sym same)
    (counts_small pages c.in_ok-counts.ensures.pages)

pub returns-clause-opened : goal.returns-clause-opened
returns-clause-opened c =
    IfOk-weaker c.new.result _ _
    (λ r view. ap (λ v. v.opening.counts) view ∙ (c.as_slice.ensures.value ∙ c.in_ok-counts.ensures.counts))
    c.new.ensures.coord

pub returns-clause-run : goal.returns-clause-run
returns-clause-run c =
    IfOk-weaker c.new.result _ _ (λ r view. ap (λ v. v.opening.limits) view) c.new.ensures.coord

pub returns-clause-seats : goal.returns-clause-seats
returns-clause-seats c =
    IfOk-weaker c.new.result _ _
    (λ r fresh worker seat at. let is = fresh worker seat at in (
      is.0,
      subst (IsPostOf worker c.args.setup.now.pages) (sym is.1) (record {
        is_his = refl;
        opening = record {
          marks = c.as_slice-2.ensures.value ∙ c.in_ok-marks.ensures.marks;
          limits = refl;
          factor = refl;
        };
        fresh = refl;
      }),
    ))
    c.new.ensures.views
