-- What a turn takes from the submitters, and what it leaves as it is.
use Rattle.std.proofs.Common.{◌≡◌, ℕ, ◌%◌, ◌==◌, Bool, true, false, cond, List, [], ◌∷◌, refl, ap, sym, ◌∙◌, set, subst}
use Rattle.like_requests.specs.declared.request.Numbered.{Numbered}
use Rattle.like_requests.specs.declared.request.Request.{Request}
use Rattle.like_requests.specs.declared.request.Taken.{Taken}
use Rattle.like_core.specs.PhaseMasks.{KeepsMasks}
use Rattle.like_core.specs.declared.view.PhaseMask.{PhaseMask}
use Rattle.like_core.specs.Post.{answered, number_of}
use Rattle.like_core.specs.WorkerState.{phase_of, seen}
use Rattle.like_core.proofs.PhaseMasks.{masks-both}
use Rattle.like_tables.specs.Share.{Share}
use Rattle.like_tables.specs.declared.held.Held.{Held}
use Rattle.like_promises.specs.declared.log.Took.{Took}
use Rattle.like_promises.specs.declared.reply.Reply.{Reply}
use Rattle.like_roles.specs.declared.turn.Turn.{Turn}
use Rattle.like_roles.specs.worker.Serve.{Runs, GivesReply, refuses, likes, looks, counted}
use Rattle.like_roles.specs.worker.Turns as turns
use Rattle.like_roles.specs.worker.Turns.{Gives, HasTaken, TakesAsk, TakesNothing, Turns, Works, merged}
use Rattle.like_roles.specs.worker.WorkerView.{WorkerView, phase_at}
use Rattle.like_roles.proofs.Served.{counted_by}

-- what a turn leaves as it is
abbrev kept_of : WorkerView → Share × List Bool × Bool × List Took × List ℕ × List Bool × List PhaseMask
kept_of v = (v.last.share, v.post.opening.marks, v.notes, v.taken, v.left, v.ended, v.post.masks)

-- nothing was taken where that is as it was
untaken : (v w after : WorkerView) → after ≡ w → kept_of w ≡ kept_of v → TakesNothing v after
untaken v w after is as_before = subst (TakesNothing v) (sym is) (record {
  share = ap (λ x. x.0) as_before;
  marks = ap (λ x. x.1) as_before;
  notes = ap (λ x. x.2) as_before;
  taken = ap (λ x. x.3) as_before;
  left = ap (λ x. x.4) as_before;
  ended = ap (λ x. x.5) as_before;
  masks = ([], ap (λ x. x.6) as_before);
})

-- one after the other
both : (u v w : WorkerView) → TakesNothing u v → TakesNothing v w → TakesNothing u w
both u v w a b = record {
  share = b.share ∙ a.share;
  marks = b.marks ∙ a.marks;
  notes = b.notes ∙ a.notes;
  taken = b.taken ∙ a.taken;
  left = b.left ∙ a.left;
  ended = b.ended ∙ a.ended;
  masks = masks-both u.post.masks v.post.masks w.post.masks a.masks b.masks;
}

counted-keeps : (v : WorkerView) (page old number : ℕ) → TakesNothing v (counted v page old number)
counted-keeps v page old number = counted_by (TakesNothing v) v page old number (untaken v _ _ refl refl) (untaken v _ _ refl refl)

serves-keeps : (v : WorkerView) (submitter : ℕ) (r : Request) (reply : Reply) (w : WorkerView)
    → GivesReply v submitter r reply w
    → TakesNothing v w
serves-keeps v submitter r reply w (refuses why is a e) = untaken v v w e refl
serves-keeps v submitter r reply w (likes user page is a e) =
    let c = counted-keeps v page e.0 (number_of w.post) in
    subst (TakesNothing v) (sym e.1) (record {
      share = refl;
      marks = c.marks;
      notes = c.notes;
      taken = c.taken;
      left = c.left;
      ended = c.ended;
      masks = c.masks;
    })
serves-keeps v submitter r reply w (looks user page count is a least e) = untaken v _ w e refl

-- a request that runs is not taken again
pub runs-keeps : (v : WorkerView) (h : Held) (stashed : Bool) (after : WorkerView)
    → Runs v h stashed after
    → TakesNothing v after
runs-keeps v h stashed after run =
    both v run.served after (serves-keeps v h.submitter h.ask.request run.reply run.served run.serves)
    (untaken run.served _ after run.noted refl)

-- nor does what is done after a look
pub works-keeps : (v : WorkerView) (ending : Bool) (answer : Turn) (after : WorkerView)
    → Works v ending answer after
    → TakesNothing v after
works-keeps v ending answer after (turns.runs_stashed first rest j e a run) =
    both v (turns.without_first v rest) after (untaken v _ _ refl refl)
    (runs-keeps (turns.without_first v rest) first true after run)
works-keeps v ending answer after (turns.retires j e ended a x) = untaken v _ after x refl
works-keeps v ending answer after (turns.acknowledges j e ended seen a x) = untaken v _ after x refl
works-keeps v ending answer after (turns.tries_joined rank j e next seen a x) = untaken v _ after x refl
works-keeps v ending answer after (turns.reports now s seen a m x) =
    let merges = merged v m.0 now.post.logged in
    untaken v (record merges { post = answered merges.post }) after
    (x ∙ ap {A = WorkerView} (λ w. record w { post = answered w.post }) m.1.1) refl
works-keeps v ending answer after (turns.idles s seen stuck a x) = untaken v v after x refl
works-keeps v ending answer after (turns.tries_split rank s seen room next a x) = untaken v _ after x refl

-- a turn takes nothing
pub turns-keeps : (v : WorkerView) (answer : Turn) (after : WorkerView) → Turns v answer after → TakesNothing v after
turns-keeps v answer after (turns.is_gone gone a x) = untaken v v after x refl
turns-keeps v answer after (turns.waits sight here i w a x) = untaken v _ after x refl
turns-keeps v answer after (turns.works sight mask number here i w x) =
    both v (turns.saw v sight mask number) after
    (record {
      share = refl;
      marks = refl;
      notes = refl;
      taken = refl;
      left = refl;
      ended = refl;
      masks = saw-masks (phase_of (seen v.post.state sight) == phase_at v) (phase_of (seen v.post.state sight) % 2 == 1);
    })
    (works-keeps (turns.saw v sight mask number) sight.ending answer after x)
  where
    to : ℕ
    to = phase_of (seen v.post.state sight)

    saw-masks : (same odd : Bool)
        → KeepsMasks v.post.masks
        (cond same v.post.masks (cond odd (record { phase = to; mask = mask } ∷ v.post.masks) v.post.masks))
    saw-masks true odd = ([], refl)
    saw-masks false true = (record { phase = to; mask = mask } ∷ [], refl)
    saw-masks false false = ([], refl)

takes-keeps : (v : WorkerView) (rank : ℕ) (ask : Numbered) (answer : Turn) (after : WorkerView)
    → TakesAsk v rank ask answer after
    → TakesNothing (turns.with_taken v rank ask) after
takes-keeps v rank ask answer after (turns.stashes w a x) = untaken (turns.with_taken v rank ask) _ after x refl
takes-keeps v rank ask answer after (turns.runs w a run) =
    runs-keeps (turns.with_taken v rank ask) (turns.held_from v rank ask) false after run

-- what is given is taken, and nothing else
pub gives-takes : (v : WorkerView) (took : Taken) (answer : Turn) (after : WorkerView)
    → Gives v took answer after
    → HasTaken v took after
gives-takes v took answer after (turns.nothing t a x) =
    subst (λ y. HasTaken v y after) (sym t) (untaken v _ after x refl)
gives-takes v took answer after (turns.ends rank p t a x) =
    subst (λ y. HasTaken v y after) (sym t) (λ other o.
    let here : rank ≡ other = cc (p, o) in
    subst (λ k. TakesNothing (record v { ended = set v.ended k true }) after) here
    (untaken (record v { ended = set v.ended rank true }) _ after x refl))
gives-takes v took answer after (turns.asks rank ask p t x) =
    subst (λ y. HasTaken v y after) (sym t) (λ other o.
    let here : rank ≡ other = cc (p, o) in
    let settled = turns.with_taken (turns.settled v) rank ask in
    subst (λ j. TakesNothing (turns.with_taken v j ask) after) here
    (both (turns.with_taken v rank ask) settled after (untaken _ settled settled refl refl)
    (takes-keeps (turns.settled v) rank ask answer after x)))
