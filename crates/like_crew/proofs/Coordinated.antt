-- The same crew, later.
use Rattle.std.proofs.Common.{◌≡◌, ℕ, zero, suc, ◌%◌, ◌<◌, List, [], ◌∷◌, length, slice_get, Some, refl, ap, ◌∙◌, subst, arith}
use Rattle.std.specs.List.{AllZip}
use Rattle.like_tables.specs.Share.{Share, rank_of}
use Rattle.like_roles.proofs.choice.Coordinating.{coordinator-further, coordinator-same}
use Rattle.like_crew.specs.Server.{ServerGoesOn, ServerView}
use Rattle.like_crew.specs.Crew.{CrewView, GoesOn, HasInbox}
use Rattle.like_crew.proofs.servers.Later.{all-further-both, all-same}
use Rattle.like_crew.proofs.lists.Pairs.{pairs-length}

pub crew-same : (c : CrewView) → GoesOn c c
crew-same c = record { coordinator = coordinator-same c.coordinator; servers = all-same c.servers }

pub crew-further : (b c d : CrewView) → GoesOn b c → GoesOn c d → GoesOn b d
crew-further b c d e f = record {
  coordinator = coordinator-further b.coordinator c.coordinator d.coordinator e.coordinator f.coordinator;
  servers = all-further-both b.servers c.servers d.servers e.servers f.servers;
}

-- what stands at a place stood there before
was-at : (ss ts : List ServerView) (k : ℕ) (t : ServerView)
    → AllZip ServerGoesOn ss ts
    → slice_get ts k ≡ Some t
    → (s : ServerView) × ((slice_get ss k ≡ Some s) × ServerGoesOn s t)
was-at [] [] k t all e = absurd (cc e)
was-at [] (y ∷ ts) k t all e = absurd all
was-at (s ∷ ss) [] k t all e = absurd all
was-at (s ∷ ss) (y ∷ ts) zero t all e = let same : y ≡ t = cc e in (s, (refl, subst (ServerGoesOn s) same all.0))
was-at (s ∷ ss) (y ∷ ts) (suc k) t all e = was-at ss ts k t all.1 e

-- a submitter that has an inbox has it later
pub inbox-later : (ss ts : List ServerView) (submitter : ℕ)
    → AllZip ServerGoesOn ss ts
    → HasInbox ss submitter
    → HasInbox ts submitter
inbox-later ss ts submitter all has =
    let same : length ss ≡ length ts = pairs-length ServerGoesOn ss ts all in (
      omega (arith, has.0, same),
      λ t e.
          let was = was-at ss ts (submitter % length ts) t all e in
          let there : rank_of was.0.worker.last.share.workers submitter < length was.0.inboxes =
          has.1 was.0 (ap (λ n. slice_get ss (submitter % n)) same ∙ was.1.0) in
          let place : rank_of t.worker.last.share.workers submitter
          ≡ rank_of was.0.worker.last.share.workers submitter =
          ap (λ (x : Share). rank_of x.workers submitter) was.1.1.share in
          omega (arith, there, place, was.1.1.inboxes),
    )
