use Rattle.std.proofs.Common.{◌≡◌, ◌<◌, ℕ, None, Some, refl, ap, sym, subst, ◌∙◌}
use Rattle.like_core.specs.Post.{is_split_at}
use Rattle.like_core.specs.WorkerState.{IsRunning}
use Rattle.like_seat.specs.StationView.{StationView, likes_of}
use Rattle.like_seat.specs.Steps.{CountsLike}
use Rattle.like_live.specs.declared.answer.LikeAnswer.TheVariants.{Refused}
use Rattle.like_live.specs.declared.asked.Asked.{Asked}
use Rattle.like_live.specs.Calls.{LikesNow, liked, refused}
use Rattle.like_live.specs.LiveView.{IsLive, LiveView, live_of, with_station}
use Rattle.like_live.proofs.Requests.{accepted_in, after-counted, likes-most, not-full}
use Rattle.like_live.specs.Kept.{AreLiveSeatParts}
use Rattle.like_live.proofs.live_seat.LiveSeat.like_now.Goals as goal

pub returns-then-try_sliced_at-clause-case : goal.returns-then-try_sliced_at-clause-case
returns-then-try_sliced_at-clause-case g c =
    let s = c.self.inside.station in
    let live = c.self.invariant.live in
    let accepted = c.in-Some.ensures.accepted in
    let same : s ≡ c.args.self.now.station = ap (λ (w : LiveView). w.station) c.self.view_is in
    let few = not-full s live.station live.limits (c.try_sliced_at.ensures.few c.if-try_sliced_at.true) in
    let counts = subst (λ (u : ℕ). CountsLike s u c.args.page None c.try_sliced_at.new.self)
    accepted.user_is (c.try_sliced_at.ensures.counts c.if-try_sliced_at.true) in
    liked None c.try_sliced_at.new.self accepted.verdict
    (subst (λ (t : StationView Asked). likes_of t < t.post.opening.limits.likes) same few)
    refl
    (subst (λ (t : StationView Asked). CountsLike t c.args.user c.args.page None c.try_sliced_at.new.self)
    same counts)
    (ap (λ (w : LiveView). with_station w c.try_sliced_at.new.self) c.self.view_is)

pub returns-then-try_plain_at-clause-case : goal.returns-then-try_plain_at-clause-case
returns-then-try_plain_at-clause-case g c =
    let s = c.self.inside.station in
    let live = c.self.invariant.live in
    let accepted = c.in-Some.ensures.accepted in
    let same : s ≡ c.args.self.now.station = ap (λ (w : LiveView). w.station) c.self.view_is in
    let few = not-full s live.station live.limits (c.try_plain_at.ensures.few c.if-try_plain_at.true) in
    let counts = subst (λ (u : ℕ). CountsLike s u c.args.page (Some (c.try_plain_at.ensures.counts c.if-try_plain_at.true).0) c.try_plain_at.new.self)
    accepted.user_is (c.try_plain_at.ensures.counts c.if-try_plain_at.true).1 in
    liked (Some (c.try_plain_at.ensures.counts c.if-try_plain_at.true).0) c.try_plain_at.new.self accepted.verdict
    (subst (λ (t : StationView Asked). likes_of t < t.post.opening.limits.likes) same few)
    refl
    (subst (λ (t : StationView Asked). CountsLike t c.args.user c.args.page (Some (c.try_plain_at.ensures.counts c.if-try_plain_at.true).0) c.try_plain_at.new.self)
    same counts)
    (ap (λ (w : LiveView). with_station w c.try_plain_at.new.self) c.self.view_is)

pub returns-then-accepted-clause-case : goal.returns-then-accepted-clause-case
returns-then-accepted-clause-case g c =
    let same = ap (λ (t : StationView Asked). live_of t c.self.inside.found) (c.try_sliced_at.ensures.full c.if-try_sliced_at.false)
    ∙ c.self.view_is in
    subst (λ (w : LiveView). LikesNow w c.args.user c.args.page c.like_late.result c.like_late.new.self) same
    (subst (λ (u : ℕ). LikesNow (live_of c.try_sliced_at.new.self c.self.inside.found) u c.args.page c.like_late.result
    c.like_late.new.self) c.in-Some.ensures.accepted.user_is c.like_late.ensures.case)

pub returns-clause-case : goal.returns-clause-case
returns-clause-case g c =
    let same = ap (λ (t : StationView Asked). live_of t c.self.inside.found) (c.try_plain_at.ensures.full c.if-try_plain_at.false)
    ∙ c.self.view_is in
    subst (λ (w : LiveView). LikesNow w c.args.user c.args.page c.like_late-2.result c.like_late-2.new.self) same
    (subst (λ (u : ℕ). LikesNow (live_of c.try_plain_at.new.self c.self.inside.found) u c.args.page c.like_late-2.result
    c.like_late-2.new.self) c.in-Some.ensures.accepted.user_is c.like_late-2.ensures.case)

pub invariant_of-self : goal.invariant_of-self
invariant_of-self g c =
    let i = c.self.inside in
    after-counted i.station c.try_sliced_at.new.self i.found i.home i.pages i.room i.half c.in-Some.accepted.ranked.user
    c.args.page None c.self.invariant
    (accepted_in _ i.station i.station i.found c.args.user c.args.page _ c.self.view_is refl c.in-Some.ensures.accepted).there
    (c.try_sliced_at.ensures.counts c.if-try_sliced_at.true)
    c.try_sliced_at.ensures.station

pub returns-then-try_sliced_at-clause-keeps : goal.returns-then-try_sliced_at-clause-keeps
returns-then-try_sliced_at-clause-keeps g c = (invariant_of-self g c).live

pub invariant_of-self-then-accepted : goal.invariant_of-self-then-accepted
invariant_of-self-then-accepted g c =
    let i = c.self.inside in
    subst (λ (t : StationView Asked). AreLiveSeatParts t i.found i.home i.pages i.room i.half)
    (sym (c.try_sliced_at.ensures.full c.if-try_sliced_at.false)) c.self.invariant

pub invariant_of-self-then-try_plain_at : goal.invariant_of-self-then-try_plain_at
invariant_of-self-then-try_plain_at g c =
    let i = c.self.inside in
    let counts = c.try_plain_at.ensures.counts c.if-try_plain_at.true in
    after-counted i.station c.try_plain_at.new.self i.found i.home i.pages i.room i.half c.in-Some.accepted.ranked.user
    c.args.page (Some counts.0) c.self.invariant
    (accepted_in _ i.station i.station i.found c.args.user c.args.page _ c.self.view_is refl c.in-Some.ensures.accepted).there
    counts.1 c.try_plain_at.ensures.station

pub returns-then-try_plain_at-clause-keeps : goal.returns-then-try_plain_at-clause-keeps
returns-then-try_plain_at-clause-keeps g c = (invariant_of-self-then-try_plain_at g c).live

pub invariant_of-self-2 : goal.invariant_of-self-2
invariant_of-self-2 g c =
    let i = c.self.inside in
    subst (λ (t : StationView Asked). AreLiveSeatParts t i.found i.home i.pages i.room i.half)
    (sym (c.try_plain_at.ensures.full c.if-try_plain_at.false)) c.self.invariant

pub accepts-requires : goal.accepts-requires
accepts-requires g c = c.requires

pub returns-in_default-clause-case : goal.returns-in_default-clause-case
returns-in_default-clause-case g c = refused c.in_default.ensures.refused (ap Refused c.refusal.ensures) refl

pub returns-in_default-clause-keeps : goal.returns-in_default-clause-keeps
returns-in_default-clause-keeps g c =
    subst (λ (v : LiveView). IsLive v) c.self.view_is c.self.invariant.live

pub try_sliced_at-requires-clause-running : goal.try_sliced_at-requires-clause-running
try_sliced_at-requires-clause-running g c =
    subst (λ (v : LiveView). IsRunning v.station.post.state) (sym c.self.view_is) c.requires

pub try_sliced_at-requires-clause-there : goal.try_sliced_at-requires-clause-there
try_sliced_at-requires-clause-there g c =
    let i = c.self.inside in
    (accepted_in c.args.self.now i.station i.station i.found c.args.user c.args.page c.in-Some.accepted.ranked
    c.self.view_is refl c.in-Some.ensures.accepted).there

pub try_sliced_at-requires-clause-ranked : goal.try_sliced_at-requires-clause-ranked
try_sliced_at-requires-clause-ranked g c =
    let i = c.self.inside in
    (accepted_in c.args.self.now i.station i.station i.found c.args.user c.args.page c.in-Some.accepted.ranked
    c.self.view_is refl c.in-Some.ensures.accepted).rank_is

pub try_sliced_at-requires-clause-split : goal.try_sliced_at-requires-clause-split
try_sliced_at-requires-clause-split g c =
    ap (λ (v : LiveView). is_split_at v.station.post c.args.page) c.self.view_is
    ∙ sym c.in-Some.ensures.split ∙ c.if-accepted.true

pub try_sliced_at-requires-clause-most : goal.try_sliced_at-requires-clause-most
try_sliced_at-requires-clause-most g c =
    likes-most c.self.inside.station c.self.invariant.live.limits

pub like_late-requires-clause-running : goal.like_late-requires-clause-running
like_late-requires-clause-running g c =
    subst (λ (t : StationView Asked). IsRunning t.post.state) (sym (c.try_sliced_at.ensures.full c.if-try_sliced_at.false))
    (subst (λ (v : LiveView). IsRunning v.station.post.state) (sym c.self.view_is) c.requires)

pub like_late-requires-clause-accepted : goal.like_late-requires-clause-accepted
like_late-requires-clause-accepted g c =
    let i = c.self.inside in
    accepted_in c.args.self.now i.station c.try_sliced_at.new.self i.found c.args.user c.args.page c.in-Some.accepted.ranked
    c.self.view_is (c.try_sliced_at.ensures.full c.if-try_sliced_at.false) c.in-Some.ensures.accepted

pub returns-then-accepted-clause-keeps : goal.returns-then-accepted-clause-keeps
returns-then-accepted-clause-keeps g c = c.like_late.ensures.keeps

pub try_plain_at-requires-clause-running : goal.try_plain_at-requires-clause-running
try_plain_at-requires-clause-running g c =
    subst (λ (v : LiveView). IsRunning v.station.post.state) (sym c.self.view_is) c.requires

pub try_plain_at-requires-clause-there : goal.try_plain_at-requires-clause-there
try_plain_at-requires-clause-there g c =
    let i = c.self.inside in
    (accepted_in c.args.self.now i.station i.station i.found c.args.user c.args.page c.in-Some.accepted.ranked
    c.self.view_is refl c.in-Some.ensures.accepted).there

pub try_plain_at-requires-clause-ranked : goal.try_plain_at-requires-clause-ranked
try_plain_at-requires-clause-ranked g c =
    let i = c.self.inside in
    (accepted_in c.args.self.now i.station i.station i.found c.args.user c.args.page c.in-Some.accepted.ranked
    c.self.view_is refl c.in-Some.ensures.accepted).rank_is

pub try_plain_at-requires-clause-plain : goal.try_plain_at-requires-clause-plain
try_plain_at-requires-clause-plain g c =
    ap (λ (v : LiveView). is_split_at v.station.post c.args.page) c.self.view_is
    ∙ sym c.in-Some.ensures.split ∙ c.if-accepted.false

pub try_plain_at-requires-clause-most : goal.try_plain_at-requires-clause-most
try_plain_at-requires-clause-most g c =
    likes-most c.self.inside.station c.self.invariant.live.limits

pub like_late-requires-2-clause-running : goal.like_late-requires-2-clause-running
like_late-requires-2-clause-running g c =
    subst (λ (t : StationView Asked). IsRunning t.post.state) (sym (c.try_plain_at.ensures.full c.if-try_plain_at.false))
    (subst (λ (v : LiveView). IsRunning v.station.post.state) (sym c.self.view_is) c.requires)

pub like_late-requires-2-clause-accepted : goal.like_late-requires-2-clause-accepted
like_late-requires-2-clause-accepted g c =
    let i = c.self.inside in
    accepted_in c.args.self.now i.station c.try_plain_at.new.self i.found c.args.user c.args.page c.in-Some.accepted.ranked
    c.self.view_is (c.try_plain_at.ensures.full c.if-try_plain_at.false) c.in-Some.ensures.accepted

pub returns-clause-keeps : goal.returns-clause-keeps
returns-clause-keeps g c = c.like_late-2.ensures.keeps
