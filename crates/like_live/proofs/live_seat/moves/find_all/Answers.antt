use Rattle.std.proofs.Common.{◌≡◌, List, drop, length, ap, refl, sym, subst, ◌∙◌, arith}
use Rattle.like_tables.specs.StashView.{StashView}
use Rattle.like_live.specs.declared.asked.Found.{Found}
use Rattle.like_live.specs.LiveView.{live_of}
use Rattle.like_core.proofs.Lists.{first_of, none_first}
use Rattle.like_live.proofs.Finding.{Finding-first, Finding-next, Finding-ran, Finding-start, joined_phase, Finding-end, Finding-joined, Finding-room, plain, running}
use Rattle.like_seat.specs.StationView.{StationView}
use Rattle.like_live.specs.declared.asked.Asked.{Asked}
use Rattle.like_live.specs.Moves.{FindsAll}
use Rattle.like_live.proofs.live_seat.moves.find_all.Goals as goal

pub read_for-seen-requires-clause-there : goal.read_for-seen-requires-clause-there
read_for-seen-requires-clause-there g c =
    let v = live_of c.args.station.now c.args.found.now in
    let now = live_of c.loop-asked.station c.loop-asked.found in
    (Finding-first v now c.next_stashed.new.self c.in-Some.asked c.loop-asked.invariant.finding c.requires.looked.own
    (sym c.in-Some.ensures.first) c.in-Some.ensures.rest).there

pub read_for-seen-requires-clause-owned : goal.read_for-seen-requires-clause-owned
read_for-seen-requires-clause-owned g c =
    let v = live_of c.args.station.now c.args.found.now in
    let now = live_of c.loop-asked.station c.loop-asked.found in
    (Finding-first v now c.next_stashed.new.self c.in-Some.asked c.loop-asked.invariant.finding c.requires.looked.own
    (sym c.in-Some.ensures.first) c.in-Some.ensures.rest).owned

pub loop-asked-init : goal.loop-asked-init
loop-asked-init g c = record {
  finding = Finding-start (live_of c.args.station.now c.args.found.now);
  station = c.phase-phase.ensures.station;
  capacity = refl;
}

pub loop-asked-preserved : goal.loop-asked-preserved
loop-asked-preserved g c =
    let v = live_of c.args.station.now c.args.found.now in
    let now = live_of c.loop-asked.station c.loop-asked.found in
    record {
      finding = Finding-next v now c.next_stashed.new.self c.read_for-seen.new.self c.push.new.self.looks c.in-Some.asked
          c.read_for-seen.result c.phase-phase.result c.loop-asked.invariant.finding
          (sym c.in-Some.ensures.first) c.in-Some.ensures.rest c.read_for-seen.ensures.reads c.phase-phase.ensures.phase
          (ap (λ (w : StashView Found). w.looks) c.push.ensures);
      station = c.read_for-seen.ensures.station;
      capacity = ap (λ (w : StashView Found). w.capacity) c.push.ensures ∙ c.loop-asked.invariant.capacity;
    }

pub returns-clause-next : goal.returns-clause-next
returns-clause-next g c =
    let v = live_of c.args.station.now c.args.found.now in
    let now = live_of c.loop-asked.station c.loop-asked.found in
    let looked = c.requires.looked in
    Finding-ran v now c.loop-asked.invariant.finding
    (looked.before (joined_phase c.args.station.now.post.state c.requires.joined)) looked.next

pub returns-clause-finds : goal.returns-clause-finds
returns-clause-finds g c =
    let v = live_of c.args.station.now c.args.found.now in
    let s = c.loop-asked.station in
    let none = none_first s.stash.looks (sym c.next_stashed.ensures.first ∙ c.in_default.is) in
    let rest = ap (λ (xs : List Asked). drop 1 xs) none ∙ sym none in
    let same : c.next_stashed.new.self ≡ s =
    c.next_stashed.ensures.rest ∙ (λ m. record s { stash = record s.stash { looks = rest m } }) in
    subst (λ (t : StationView Asked). FindsAll v (live_of t c.loop-asked.found)) (sym same)
    (Finding-end v (live_of s c.loop-asked.found) c.loop-asked.invariant.finding none)

pub read_for-seen-requires-clause-plain : goal.read_for-seen-requires-clause-plain
read_for-seen-requires-clause-plain g c =
    plain c.next_stashed.new.self.post c.in-Some.asked.page
    (Finding-joined (live_of c.args.station.now c.args.found.now) (live_of c.loop-asked.station c.loop-asked.found)
    c.next_stashed.new.self c.loop-asked.invariant.finding c.requires.joined c.in-Some.ensures.rest)

pub read_for-seen-requires-clause-running : goal.read_for-seen-requires-clause-running
read_for-seen-requires-clause-running g c =
    running c.next_stashed.new.self.post.state
    (Finding-joined (live_of c.args.station.now c.args.found.now) (live_of c.loop-asked.station c.loop-asked.found)
    c.next_stashed.new.self c.loop-asked.invariant.finding c.requires.joined c.in-Some.ensures.rest)

pub push-requires : goal.push-requires
push-requires g c =
    let l = c.loop-asked in
    let looked = c.requires.looked in
    let first = first_of l.station.stash.looks c.in-Some.asked (sym c.in-Some.ensures.first) in
    let same = Finding-room (live_of c.args.station.now c.args.found.now) (live_of l.station l.found) l.invariant.finding in
    omega (arith, ap (λ (xs : List Asked). length xs) first, same, looked.room, looked.capacity, l.invariant.capacity)

pub loop-asked-smaller : goal.loop-asked-smaller
loop-asked-smaller g c =
    let first = first_of c.loop-asked.station.stash.looks c.in-Some.asked (sym c.in-Some.ensures.first) in
    let rest =
    ap (λ (t : StationView Asked). length t.stash.looks) (c.read_for-seen.ensures.reads.read)
    ∙ ap (λ (t : StationView Asked). length t.stash.looks) c.in-Some.ensures.rest in
    omega (arith, ap (λ (xs : List Asked). length xs) first, rest)
