use Rattle.std.proofs.Common.{◌≡◌, ℕ, true, sym, subst, ◌∙◌}
use Rattle.like_requests.specs.Verdict.{verdict_of}
use Rattle.like_requests.specs.declared.verdict.Verdict.TheVariants.{Accepted}
use Rattle.like_tables.specs.UserTable.{UserTable}
use Rattle.like_live.proofs.Requests.{owned_since}
use Rattle.like_live.proofs.live_seat.LiveSeat.last.Goals as goal

pub last-requires : goal.last-requires
last-requires g c =
    let t = c.users-users.result.now in
    let user = c.args.user in
    let accepted = subst (λ (w : ℕ). verdict_of t.share.users t.share.submitters w user true ≡ Accepted)
    c.worker.ensures (sym c.judge_user.ensures ∙ c.in-Accepted.is) in
    let home = subst (λ (u : UserTable). u.share.submitters ≡ u.share.workers)
    (sym c.users-users.ensures) c.self.invariant.live.home in
    owned_since t.share user true home accepted
