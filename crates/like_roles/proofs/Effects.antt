-- What running a request leaves as it is, and what it writes.
use Rattle.std.proofs.Common.{◌≡◌, Bool, [], ◌∷◌, ◌++◌, refl, ap, ◌∙◌}
use Rattle.like_tables.specs.declared.held.Held.{Held}
use Rattle.like_promises.specs.declared.reply.Reply.{Reply}
use Rattle.like_roles.specs.worker.Serve.{Runs, ran_now}
use Rattle.like_roles.specs.worker.WorkerView.{WorkerView}
use Rattle.like_roles.proofs.Served.{GivesReply-keeps, GivesReply-state, counted_by}

-- a request that ran: its entry is the last that was run, and all else of these is as before
pub record HasRunOne (v : WorkerView) (h : Held) (stashed : Bool) (after : WorkerView) : Type 0 where
  pub reply : Reply
  pub ran : after.ran ≡ v.ran ++ ran_now v h stashed reply ∷ []
  pub state : after.post.state ≡ v.post.state
  pub stash : after.stash ≡ v.stash
  pub taken : after.taken ≡ v.taken
  pub pending : after.pending ≡ v.pending

pub Runs-effects : (v : WorkerView) (h : Held) (stashed : Bool) (after : WorkerView)
    → Runs v h stashed after
    → HasRunOne v h stashed after
Runs-effects v h stashed after run = record {
  reply = run.reply;
  ran = ap (λ x. x.ran) run.noted;
  state = ap (λ x. x.post.state) run.noted
      ∙ GivesReply-state v h.submitter h.ask.request run.reply run.served run.serves;
  stash = ap (λ x. x.stash) run.noted
      ∙ GivesReply-keeps (λ x. x.stash) v h.submitter h.ask.request run.reply run.served
      (λ user page old number. counted_by (λ x. x.stash ≡ v.stash) v page old number refl refl)
      (λ page count number. refl) run.serves;
  taken = ap (λ x. x.taken) run.noted
      ∙ GivesReply-keeps (λ x. x.taken) v h.submitter h.ask.request run.reply run.served
      (λ user page old number. counted_by (λ x. x.taken ≡ v.taken) v page old number refl refl)
      (λ page count number. refl) run.serves;
  pending = ap (λ x. x.pending) run.noted
      ∙ GivesReply-keeps (λ x. x.pending) v h.submitter h.ask.request run.reply run.served
      (λ user page old number. counted_by (λ x. x.pending ≡ v.pending) v page old number refl refl)
      (λ page count number. refl) run.serves;
}
