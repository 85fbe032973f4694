use Rattle.std.proofs.Common.{refl, ap, ◌∙◌, add-one, arith}
use Rattle.std.proofs.lemmas.List.{take_all}
use Rattle.like_requests.specs.Pages.{Page, marks_of}
use Rattle.like_requests.proofs.Fronts.{map-more}
use Rattle.like_requests.proofs.pages.Pages.marks.Goals as goal

pub loop-page-preserved : goal.loop-page-preserved
loop-page-preserved c =
    let more = map-more (λ (p : Page). p.split) c.args.self.now c.loop-page.page c.split.result c.split.ensures in
    rw (c.in_ok-push.ensures.items, add-one, more, c.loop-page.invariant) refl

pub split-requires : goal.split-requires
split-requires c = omega (arith, c.loop-page-test.true, c.len-page-end.ensures.len)

pub returns-clause-marks : goal.returns-clause-marks
returns-clause-marks c =
    c.loop-page.invariant
    ∙ ap marks_of (take_all c.loop-page.page c.args.self.now
    (omega (arith, c.loop-page-test.false, c.len-page-end.ensures.len)))

pub returns-clause-pages : goal.returns-clause-pages
returns-clause-pages c = c.len.ensures.pages
