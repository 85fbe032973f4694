-- The likes applied to a page have the labels of what the seats added: both are what the log says.
use Rattle.std.proofs.Common.{◌≡◌, ℕ, ◌+◌, ◌==◌, ◌&&◌, inl, inr, Bool, true, false, cond, List, [], ◌∷◌, get_or, replicate, subst, ap, sym, ◌∙◌, refl, arith}
use Rattle.std.proofs.lemmas.Bool.{cases_eq}
use Rattle.like_core.specs.declared.log.LogEntry.{LogEntry}
use Rattle.like_core.specs.declared.log.LogEntry.TheVariants.{Saw, Did}
use Rattle.like_core.specs.declared.log.Logged.{Logged}
use Rattle.like_core.specs.declared.page_step.PageCall.{PageCall}
use Rattle.like_core.specs.declared.page_step.PageCall.TheVariants.{Add, Read, Glance}
use Rattle.like_core.specs.declared.page_step.PageStep.{PageStep}
use Rattle.like_core.specs.declared.view.Addition.{Addition}
use Rattle.like_core.specs.declared.view.WorkerSeatView.{WorkerSeatView}
use Rattle.like_core.specs.Additions.{added_in}
use Rattle.like_core.specs.Log.{applied_of, steps_in}
use Rattle.like_core.specs.PageSteps.{additions_among, adds_to, and_addition, likes_of, steps_by}
use Rattle.like_core.specs.core.State.{Label, labelled}
use Rattle.like_core.specs.views.Order.{OrderGivesLabels}
use Rattle.like_core.specs.views.Posts.{posts_of}
use Rattle.like_core.proofs.Logs.{by_other, by_own, steps_logged, steps_of}
use Rattle.like_core.proofs.Totals.{cond_none}
use Rattle.like_core.proofs.core.Labels.{added_in-push, label, labelled-append, labels_else, labels_here}
use Rattle.like_core.proofs.views.Ordered.{made_posts}

-- one call more adds this to a page in a phase
in_one : (xs : List Addition) (k p found : ℕ) (call : PageCall) (phase page : ℕ)
    → added_in phase page (and_addition xs k p found call)
    ≡ added_in phase page xs + cond ((k == phase) && (p == page)) (likes_of call) 0
in_one xs k p found (Add n) phase page = added_in-push xs k p found n phase page
in_one xs k p found Read phase page = let none = cond_none ((k == phase) && (p == page)) in omega arith
in_one xs k p found Glance phase page = let none = cond_none ((k == phase) && (p == page)) in omega arith

-- two tests are one test of both
both : (a b : Bool) (n : ℕ) → cond a (cond b n 0) 0 ≡ cond (a && b) n 0
both true b n = refl
both false b n = refl

-- the likes of a log that have a worker's label of a phase are those that the worker's steps add then
labels_are : (i phase page : ℕ) (log : List LogEntry)
    → labelled i phase (applied_of log page) ≡ added_in phase page (additions_among (steps_by i (steps_in log)))
labels_are i phase page [] = refl
labels_are i phase page (Saw worker k ∷ log) = labels_are i phase page log
labels_are i phase page (Did s ∷ log) =
    let steps : List PageStep = steps_in log in
    let n : ℕ = adds_to page s in
    let more : List Label = replicate n (label s.worker s.phase) in
    let rest = labels_are i phase page log in
    let joined = labelled-append i phase (applied_of log page) more in
    let added : List PageStep → ℕ = λ ds. added_in phase page (additions_among ds) in
    elim (cases_eq s.worker i) [
      | inl own ↦
          let here : labelled i phase more ≡ cond (s.phase == phase) n 0 =
          subst (λ (j : ℕ). labelled j phase more ≡ cond (s.phase == phase) n 0) own
          (labels_here s.worker s.phase phase n) in
          let one = in_one (additions_among (steps_by i steps)) s.phase s.page s.found s.call phase page in
          let same = both (s.phase == phase) (s.page == page) (likes_of s.call) in
          omega (arith, joined, rest, here, one, same) ∙ sym (ap added (by_own i s steps own))
      | inr other ↦
          let none = labels_else s.worker i s.phase phase n (λ is. other (sym is)) in
          omega (arith, joined, rest, none) ∙ sym (ap added (by_other i s steps other))
    ]

pub order_gives_labels : OrderGivesLabels
order_gives_labels z s views log order =
    let labels : (i phase page : ℕ) → labelled i phase (s.applied page)
    ≡ added_in phase page (additions_among (steps_by i (steps_in log))) =
    λ i phase page. ap (labelled i phase) (order.applied page) ∙ labels_are i phase page log
    in
    record {
      each = λ k d below phase page.
          let v : WorkerSeatView = get_or (posts_of views) k d in
          labels v.worker phase page
          ∙ ap (λ (ds : List PageStep). added_in phase page (additions_among ds))
          (made_posts log views order.each k d below).done;
      others = λ i none phase page.
          labels i phase page
          ∙ ap (λ (ds : List PageStep). added_in phase page (additions_among ds))
          (steps_logged i log ∙ ap (λ (es : List Logged). steps_of es) (order.others i none));
    }
