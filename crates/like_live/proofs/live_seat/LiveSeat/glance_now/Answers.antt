use Rattle.std.proofs.Common.{◌≡◌, ℕ, refl, ap, sym, subst, ◌∙◌}
use Rattle.like_core.specs.Post.{is_split_at}
use Rattle.like_core.specs.WorkerState.{IsRunning}
use Rattle.like_seat.specs.StationView.{StationView}
use Rattle.like_seat.specs.Steps.{Glances, Reads}
use Rattle.like_live.specs.declared.answer.GlanceAnswer.TheVariants.{Refused}
use Rattle.like_live.specs.declared.asked.Asked.{Asked}
use Rattle.like_live.specs.Calls.{plain, refused, split}
use Rattle.like_live.specs.LiveView.{IsLive, LiveView, with_station}
use Rattle.like_live.proofs.Requests.{accepted_in, after-glanced, after-read}
use Rattle.like_live.proofs.live_seat.LiveSeat.glance_now.Goals as goal

pub returns-then-accepted-clause-case : goal.returns-then-accepted-clause-case
returns-then-accepted-clause-case g c =
    let s = c.self.inside.station in
    let same : s ≡ c.args.self.now.station = ap (λ (w : LiveView). w.station) c.self.view_is in
    split c.glance.result c.glance.new.self c.in-Some.ensures.accepted.verdict
    (sym c.in-Some.ensures.split ∙ c.if-accepted.true)
    refl
    (subst (λ (t : StationView Asked). Glances t c.args.user c.args.page c.glance.result c.glance.new.self) same
    (subst (λ (u : ℕ). Glances s u c.args.page c.glance.result c.glance.new.self) c.in-Some.ensures.accepted.user_is
    c.glance.ensures.glances))
    (ap (λ (w : LiveView). with_station w c.glance.new.self) c.self.view_is)

pub returns-clause-case : goal.returns-clause-case
returns-clause-case g c =
    let s = c.self.inside.station in
    let same : s ≡ c.args.self.now.station = ap (λ (w : LiveView). w.station) c.self.view_is in
    plain c.read_at.result c.read_at.new.self c.in-Some.ensures.accepted.verdict
    (sym c.in-Some.ensures.split ∙ c.if-accepted.false)
    refl
    (subst (λ (t : StationView Asked). Reads t c.args.user c.args.page c.read_at.result c.read_at.new.self) same
    (subst (λ (u : ℕ). Reads s u c.args.page c.read_at.result c.read_at.new.self) c.in-Some.ensures.accepted.user_is
    c.read_at.ensures.reads))
    (ap (λ (w : LiveView). with_station w c.read_at.new.self) c.self.view_is)

pub invariant_of-self : goal.invariant_of-self
invariant_of-self g c =
    let i = c.self.inside in
    after-glanced i.station c.glance.new.self i.found i.home i.pages i.room i.half c.in-Some.accepted.ranked.user
    c.args.page c.glance.result c.self.invariant c.glance.ensures.glances c.glance.ensures.station

pub returns-then-accepted-clause-keeps : goal.returns-then-accepted-clause-keeps
returns-then-accepted-clause-keeps g c = (invariant_of-self g c).live

pub invariant_of-self-2 : goal.invariant_of-self-2
invariant_of-self-2 g c =
    let i = c.self.inside in
    after-read i.station c.read_at.new.self i.found i.home i.pages i.room i.half c.in-Some.accepted.ranked.user
    c.args.page c.read_at.result c.self.invariant c.read_at.ensures.reads c.read_at.ensures.station

pub returns-clause-keeps : goal.returns-clause-keeps
returns-clause-keeps g c = (invariant_of-self-2 g c).live

pub accepts-requires : goal.accepts-requires
accepts-requires g c = c.requires

pub returns-in_default-clause-case : goal.returns-in_default-clause-case
returns-in_default-clause-case g c = refused c.in_default.ensures.refused (ap Refused c.refusal.ensures) refl

pub returns-in_default-clause-keeps : goal.returns-in_default-clause-keeps
returns-in_default-clause-keeps g c =
    subst (λ (v : LiveView). IsLive v) c.self.view_is c.self.invariant.live

pub glance-requires-clause-running : goal.glance-requires-clause-running
glance-requires-clause-running g c =
    subst (λ (v : LiveView). IsRunning v.station.post.state) (sym c.self.view_is) c.requires

pub glance-requires-clause-there : goal.glance-requires-clause-there
glance-requires-clause-there g c =
    let i = c.self.inside in
    (accepted_in c.args.self.now i.station i.station i.found c.args.user c.args.page c.in-Some.accepted.ranked
    c.self.view_is refl c.in-Some.ensures.accepted).there

pub glance-requires-clause-ranked : goal.glance-requires-clause-ranked
glance-requires-clause-ranked g c =
    let i = c.self.inside in
    (accepted_in c.args.self.now i.station i.station i.found c.args.user c.args.page c.in-Some.accepted.ranked
    c.self.view_is refl c.in-Some.ensures.accepted).rank_is

pub glance-requires-clause-split : goal.glance-requires-clause-split
glance-requires-clause-split g c =
    ap (λ (v : LiveView). is_split_at v.station.post c.args.page) c.self.view_is
    ∙ sym c.in-Some.ensures.split ∙ c.if-accepted.true

pub read_at-requires-clause-running : goal.read_at-requires-clause-running
read_at-requires-clause-running g c =
    subst (λ (v : LiveView). IsRunning v.station.post.state) (sym c.self.view_is) c.requires

pub read_at-requires-clause-there : goal.read_at-requires-clause-there
read_at-requires-clause-there g c =
    let i = c.self.inside in
    (accepted_in c.args.self.now i.station i.station i.found c.args.user c.args.page c.in-Some.accepted.ranked
    c.self.view_is refl c.in-Some.ensures.accepted).there

pub read_at-requires-clause-ranked : goal.read_at-requires-clause-ranked
read_at-requires-clause-ranked g c =
    let i = c.self.inside in
    (accepted_in c.args.self.now i.station i.station i.found c.args.user c.args.page c.in-Some.accepted.ranked
    c.self.view_is refl c.in-Some.ensures.accepted).rank_is

pub read_at-requires-clause-plain : goal.read_at-requires-clause-plain
read_at-requires-clause-plain g c =
    ap (λ (v : LiveView). is_split_at v.station.post c.args.page) c.self.view_is
    ∙ sym c.in-Some.ensures.split ∙ c.if-accepted.false
