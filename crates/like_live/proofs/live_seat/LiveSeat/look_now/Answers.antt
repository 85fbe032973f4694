use Rattle.std.proofs.Common.{◌≡◌, ◌+◌, ℕ, true, length, refl, ap, sym, subst, ◌∙◌, arith, IsTrue}
use Rattle.std.proofs.lemmas.Bool.{not-false, not-true}
use Rattle.like_core.specs.Post.{is_split_at}
use Rattle.like_core.specs.WorkerState.{IsRunning, RunsSplit, phase_of}
use Rattle.like_requests.specs.declared.verdict.Verdict.TheVariants.{Accepted}
use Rattle.like_seat.specs.StationView.{StationView, phase_at}
use Rattle.like_seat.specs.Steps.{Reads, stashing}
use Rattle.like_tables.specs.Share.{owns}
use Rattle.like_tables.specs.declared.ranked.Ranked.{Ranked}
use Rattle.like_live.specs.declared.answer.LookAnswer.TheVariants.{Refused, Waits}
use Rattle.like_live.specs.declared.asked.Asked.{Asked}
use Rattle.like_live.specs.Calls.{IsAccepted, LooksNow, Stashes, asked_in, no_room, refused, seen, verdict_at, waits}
use Rattle.like_live.specs.LiveView.{IsLive, IsOwn, LiveView, room_of, waiting, with_station}
use Rattle.like_live.proofs.Finding.{split_since}
use Rattle.like_live.proofs.Requests.{accepted_in, after-read}
use Rattle.like_live.proofs.Showing.{split_phase}
use Rattle.like_live.proofs.live_seat.LiveSeat.look_now.Goals as goal
use Rattle.like_live.proofs.live_seat.LiveSeat.look_now.Goals.{then-wait-via-then-wait, then-wait-via-else-wait+then-wait_late}

-- a look that is accepted is one that the seat can answer
own : (s : StationView Asked) (user page tag phase : ℕ) (ranked : Ranked)
    → IsAccepted s user page ranked
    → IsOwn s (asked_in phase user page tag)
own s user page tag phase ranked a = record {
  there = a.there;
  owned = subst (λ u. IsTrue (owns s.last.share u)) a.user_is a.rank_is.owned;
}

-- a seat that runs a phase in which some page is split runs a split one
runs-split : (s : StationView Asked) (page : ℕ)
    → IsRunning s.post.state
    → is_split_at s.post page ≡ true
    → RunsSplit s.post.state
runs-split s page running split =
    split_since s.post.state (phase_of s.post.state) running refl
    (λ even. absurd (omega (arith, split_phase s.post page split, even)))

-- a look that was put by waits
put-by : (v after : LiveView) (user page tag phase : ℕ)
    → verdict_at v.station user page ≡ Accepted
    → is_split_at v.station.post page ≡ true
    → phase ≡ phase_at v.station
    → Stashes v (asked_in phase user page tag) after
    → LooksNow v user page tag Waits after
put-by v after user page tag phase accepted split is puts =
    waits accepted split puts.room refl
    (subst (λ p. after ≡ with_station v (stashing v.station (asked_in p user page tag))) is puts.is)

pub returns-then-not-accepted-clause-case : goal.returns-then-not-accepted-clause-case
returns-then-not-accepted-clause-case g c =
    let s = c.self.inside.station in
    let same : s ≡ c.args.self.now.station = ap (λ (w : LiveView). w.station) c.self.view_is in
    seen c.read_at.result c.read_at.new.self c.in-Some.ensures.accepted.verdict
    (sym c.in-Some.ensures.split ∙ not-true c.in-Some.accepted.split c.if-not-accepted.true)
    refl
    (subst (λ (t : StationView Asked). Reads t c.args.user c.args.page c.read_at.result c.read_at.new.self) same
    (subst (λ (u : ℕ). Reads s u c.args.page c.read_at.result c.read_at.new.self) c.in-Some.ensures.accepted.user_is
    (subst (λ (t : StationView Asked). Reads t c.in-Some.accepted.ranked.user c.args.page c.read_at.result c.read_at.new.self)
    c.count_look.ensures c.read_at.ensures.reads)))
    (ap (λ (w : LiveView). with_station w c.read_at.new.self) c.self.view_is)

pub invariant_of-self : goal.invariant_of-self
invariant_of-self g c =
    let i = c.self.inside in
    let user = c.in-Some.accepted.ranked.user in
    after-read i.station c.read_at.new.self i.found i.home i.pages i.room i.half user c.args.page c.read_at.result
    c.self.invariant
    (subst (λ (t : StationView Asked). Reads t user c.args.page c.read_at.result c.read_at.new.self)
    c.count_look.ensures c.read_at.ensures.reads)
    c.read_at.ensures.station

pub returns-then-not-accepted-clause-keeps : goal.returns-then-not-accepted-clause-keeps
returns-then-not-accepted-clause-keeps g c = (invariant_of-self g c).live

pub wait-requires-clause-own : goal.wait-requires-clause-own
wait-requires-clause-own g c =
    own c.args.self.now.station c.args.user c.args.page c.args.tag c.args.phase c.in-Some.accepted.ranked
    c.in-Some.ensures.accepted

pub wait-requires-clause-split : goal.wait-requires-clause-split
wait-requires-clause-split g c =
    runs-split c.args.self.now.station c.args.page c.requires.runs
    (sym c.in-Some.ensures.split ∙ not-false _ c.if-not-accepted.false)

pub wait_late-requires-clause-own : goal.wait_late-requires-clause-own
wait_late-requires-clause-own g c =
    subst (λ (v : LiveView). IsOwn v.station (asked_in c.args.phase c.args.user c.args.page c.args.tag))
    (sym (c.wait.ensures.none c.if-wait.false))
    (own c.args.self.now.station c.args.user c.args.page c.args.tag c.args.phase c.in-Some.accepted.ranked
    c.in-Some.ensures.accepted)

pub wait_late-requires-clause-split : goal.wait_late-requires-clause-split
wait_late-requires-clause-split g c =
    subst (λ (v : LiveView). RunsSplit v.station.post.state) (sym (c.wait.ensures.none c.if-wait.false))
    (runs-split c.args.self.now.station c.args.page c.requires.runs
    (sym c.in-Some.ensures.split ∙ not-false _ c.if-not-accepted.false))

pub wait_late-requires-clause-phase : goal.wait_late-requires-clause-phase
wait_late-requires-clause-phase g c =
    c.requires.phase ∙ ap (λ (v : LiveView). phase_at v.station) (sym (c.wait.ensures.none c.if-wait.false))

pub returns-then-wait-clause-case : goal.returns-then-wait-clause-case
returns-then-wait-clause-case g c =
    let v = c.args.self.now in
    let asked = asked_in c.args.phase c.args.user c.args.page c.args.tag in
    put-by v c.then-wait.self c.args.user c.args.page c.args.tag c.args.phase c.in-Some.ensures.accepted.verdict
    (sym c.in-Some.ensures.split ∙ not-false _ c.if-not-accepted.false) c.requires.phase
    (elim c.then-wait.branch [
      | then-wait-via-then-wait w ↦
          subst (λ (u : LiveView). Stashes v asked u) (sym w.self-is) (c.wait.ensures.waits w.if-wait.true)
      | then-wait-via-else-wait+then-wait_late w ↦
          subst (λ (u : LiveView). Stashes v asked u) (sym w.self-is)
          (subst (λ (u : LiveView). Stashes u asked w.wait_late.new.self) (c.wait.ensures.none w.if-wait.false)
          (w.wait_late.ensures.waits w.if-wait_late.true))
    ])

pub returns-clause-case : goal.returns-clause-case
returns-clause-case g c =
    let same = c.wait.ensures.none c.if-wait.false in
    no_room c.in-Some.ensures.accepted.verdict
    (sym c.in-Some.ensures.split ∙ not-false _ c.if-not-accepted.false)
    (subst (λ (v : LiveView). length (waiting v) + length v.found ≡ room_of v) same
    (c.wait_late.ensures.full c.if-wait_late.false))
    refl
    (c.wait_late.ensures.none c.if-wait_late.false ∙ same)

pub accepts-requires : goal.accepts-requires
accepts-requires g c = c.requires.runs

pub returns-in_default-clause-case : goal.returns-in_default-clause-case
returns-in_default-clause-case g c = refused c.in_default.ensures.refused (ap Refused c.refusal.ensures) refl

pub returns-in_default-clause-keeps : goal.returns-in_default-clause-keeps
returns-in_default-clause-keeps g c =
    subst (λ (v : LiveView). IsLive v) c.self.view_is c.self.invariant.live

pub read_at-requires-clause-running : goal.read_at-requires-clause-running
read_at-requires-clause-running g c =
    subst (λ (t : StationView Asked). IsRunning t.post.state) (sym c.count_look.ensures)
    (subst (λ (v : LiveView). IsRunning v.station.post.state) (sym c.self.view_is) c.requires.runs)

pub read_at-requires-clause-there : goal.read_at-requires-clause-there
read_at-requires-clause-there g c =
    let i = c.self.inside in
    (accepted_in c.args.self.now i.station c.count_look.new.station i.found c.args.user c.args.page c.in-Some.accepted.ranked
    c.self.view_is c.count_look.ensures c.in-Some.ensures.accepted).there

pub read_at-requires-clause-ranked : goal.read_at-requires-clause-ranked
read_at-requires-clause-ranked g c =
    let i = c.self.inside in
    (accepted_in c.args.self.now i.station c.count_look.new.station i.found c.args.user c.args.page c.in-Some.accepted.ranked
    c.self.view_is c.count_look.ensures c.in-Some.ensures.accepted).rank_is

pub read_at-requires-clause-plain : goal.read_at-requires-clause-plain
read_at-requires-clause-plain g c =
    ap (λ (t : StationView Asked). is_split_at t.post c.args.page) c.count_look.ensures
    ∙ ap (λ (v : LiveView). is_split_at v.station.post c.args.page) c.self.view_is
    ∙ sym c.in-Some.ensures.split ∙ not-true _ c.if-not-accepted.true

pub wait-requires-clause-phase : goal.wait-requires-clause-phase
wait-requires-clause-phase g c = c.requires.phase

pub returns-then-wait-clause-keeps : goal.returns-then-wait-clause-keeps
returns-then-wait-clause-keeps g c =
    elim c.then-wait.branch [
      | then-wait-via-then-wait w ↦ subst (λ (v : LiveView). IsLive v) (sym w.self-is) c.wait.ensures.keeps
      | then-wait-via-else-wait+then-wait_late w ↦
          subst (λ (v : LiveView). IsLive v) (sym w.self-is) w.wait_late.ensures.keeps
    ]

pub returns-clause-keeps : goal.returns-clause-keeps
returns-clause-keeps g c = c.wait_late.ensures.keeps
