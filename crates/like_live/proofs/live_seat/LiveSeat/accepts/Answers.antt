use Rattle.std.proofs.Common.{◌≡◌, ◌≢◌, ◌<◌, true, false, Some, None, sym, ap, subst, ◌∙◌, arith}
use Rattle.like_core.specs.Post.{is_split_at, pages_of}
use Rattle.like_requests.specs.declared.verdict.Verdict.TheVariants.{Accepted}
use Rattle.like_tables.specs.Ranked.{ranked_in}
use Rattle.like_tables.specs.UserTable.{UserTable}
use Rattle.like_live.specs.Calls.{IsAccepted, verdict_at}
use Rattle.like_live.specs.LiveView.{LiveView}
use Rattle.like_live.proofs.Accepting.{accepted-found, refused-none}
use Rattle.like_live.proofs.live_seat.LiveSeat.accepts.Goals as goal

pub returns-in_err-ranked-clause-refused : goal.returns-in_err-ranked-clause-refused
returns-in_err-ranked-clause-refused g c =
    let user = c.args.user in
    let s = c.self.inside.station in
    let none : None ≡ ranked_in s.last.share user =
    sym c.in_err-ranked.was ∙ c.find.ensures ∙ ap (λ (t : UserTable). ranked_in t.share user) c.users.ensures in
    rw c.from_residual.ensures
    (subst (λ (v : LiveView). verdict_at v.station user c.args.page ≢ Accepted) c.self.view_is
    (refused-none s user c.args.page c.self.invariant.live.home none))

pub returns-then-is_split-clause-accepted : goal.returns-then-is_split-clause-accepted
returns-then-is_split-clause-accepted g c =
    let user = c.args.user in
    let ranked = c.in_ok-ranked.ranked in
    let s = c.self.inside.station in
    let some : Some ranked ≡ ranked_in s.last.share user =
    sym c.in_ok-ranked.was ∙ c.find.ensures ∙ ap (λ (t : UserTable). ranked_in t.share user) c.users.ensures in
    let there : c.args.page < pages_of s.post = c.is_split.ensures.there c.if-is_split.true in
    subst (λ (v : LiveView). IsAccepted v.station user c.args.page ranked) c.self.view_is
    (accepted-found s user c.args.page ranked c.self.invariant.live.home some there)

pub returns-clause-accepted : goal.returns-clause-accepted
returns-clause-accepted g c =
    let user = c.args.user in
    let ranked = c.in_ok-ranked.ranked in
    let s = c.self.inside.station in
    let some : Some ranked ≡ ranked_in s.last.share user =
    sym c.in_ok-ranked.was ∙ c.find.ensures ∙ ap (λ (t : UserTable). ranked_in t.share user) c.users.ensures in
    let there : c.args.page < pages_of s.post = omega (arith, c.if-page-self.false, c.self.invariant.pages_are) in
    subst (λ (v : LiveView). IsAccepted v.station user c.args.page ranked) c.self.view_is
    (accepted-found s user c.args.page ranked c.self.invariant.live.home some there)

pub returns-then-is_split-clause-split : goal.returns-then-is_split-clause-split
returns-then-is_split-clause-split g c =
    let there = c.is_split.ensures.there c.if-is_split.true in
    subst (λ (v : LiveView). true ≡ is_split_at v.station.post c.args.page) c.self.view_is
    (sym c.if-is_split.true ∙ c.is_split.ensures.split there)

pub returns-clause-split : goal.returns-clause-split
returns-clause-split g c =
    let s = c.self.inside.station in
    let there : c.args.page < pages_of s.post = omega (arith, c.if-page-self.false, c.self.invariant.pages_are) in
    subst (λ (v : LiveView). false ≡ is_split_at v.station.post c.args.page) c.self.view_is
    (sym c.if-is_split.false ∙ c.is_split.ensures.split there)
