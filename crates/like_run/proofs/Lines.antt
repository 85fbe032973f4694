-- The lines of a run, through which nothing went.
use Rattle.std.proofs.Common.{◌≡◌, ◌≤◌, ◌∙◌, List, [], ◌∷◌, length, map, refl, sym, ap, subst, arith}
use Rattle.std.specs.List.{All}
use Rattle.std.proofs.lemmas.List.{length-map}
use Rattle.like_limits.specs.Limits.{max_submitters}
use Rattle.like_requests.specs.declared.request.Request.{Request}
use Rattle.like_queue.specs.Line.{LineId, Sender, Taker, inbox_of}
use Rattle.like_crew.specs.Server.{untouched}
use Rattle.like_crew.proofs.Makings.{all-map}
use Rattle.like_queue.specs.declared.lines.Lines.{Lines}
use Rattle.like_queue.specs.Lines.{AreLines, AreNewEnds, new_sender, new_taker}

-- their ends are untouched inboxes of their plans
inboxes-new : (lines : List LineId) → map inbox_of (map new_taker lines) ≡ map untouched (map (λ line. line.plan) lines)
inboxes-new [] = refl
inboxes-new (line ∷ lines) = ap (λ xs. untouched line.plan ∷ xs) (inboxes-new lines)

pub inboxes-of : (plans : List (List Request)) (l : Lines) (ends : List Taker)
    → AreLines plans l
    → ends ≡ map new_taker l.lines.items
    → map inbox_of ends ≡ map untouched plans
inboxes-of plans l ends are is = ap (map inbox_of) is ∙ inboxes-new l.lines.items ∙ ap (map untouched) are.plans_are

-- there is an end for each plan
pub many-ends : (plans : List (List Request)) (l : Lines) (ends : List Sender)
    → AreLines plans l
    → ends ≡ map new_sender l.lines.items
    → length ends ≡ length plans
many-ends plans l ends are is =
    ap (λ (xs : List Sender). length xs) is ∙ length-map l.lines.items new_sender
    ∙ sym (length-map l.lines.items (λ (line : LineId). line.plan))
    ∙ ap (λ (xs : List (List Request)). length xs) are.plans_are

-- and those of the submitters are new
pub ends-new : (plans : List (List Request)) (l : Lines) (ends : List Sender)
    → AreLines plans l
    → length plans ≤ max_submitters
    → ends ≡ map new_sender l.lines.items
    → AreNewEnds ends
ends-new plans l ends are few is = record {
  few = omega (arith, few, many-ends plans l ends are is);
  new = subst (All (λ (end : Sender). end.sent ≡ 0)) (sym is)
      (all-map new_sender (λ end. end.sent ≡ 0) l.lines.items (λ _ _ _. refl));
}
