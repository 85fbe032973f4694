-- The counts that a driver has read stay among those that it knows.
use Rattle.std.proofs.Common.{◌≡◌, ℕ, zero, suc, ◌+◌, ◌<◌, Bool, true, false, List, [], ◌∷◌, length, Option, Some, sym, ap, ◌∙◌, subst, arith}
use Rattle.std.specs.Prelude.{All, Contains, slice_index, ⊤}
use Rattle.std.proofs.lemmas.List.Elements.{All-cons, All-contains_itself, All-head, All-nil, All-tail}
use Rattle.told_lock.specs.Deeds.{HasRun}
use Rattle.like_core.specs.declared.view.PageCount.{PageCount}
use Rattle.like_core.specs.declared.view.CoordSeatView.{CoordSeatView}
use Rattle.like_core.specs.declared.sight.CoordSight.{CoordSight}
use Rattle.like_core.specs.views.Views.{counted_coord}
use Rattle.like_seat.specs.Lead.{LeadView, Sees, announced, counted_from}
use Rattle.like_live.specs.declared.driver_answer.DriverAnswer.{DriverAnswer}
use Rattle.like_live.specs.declared.driver_end.End.{End}
use Rattle.like_live.specs.Driver.{Decides, DriverCase, DriverTurns, DriverView, LooksForEnd, ReadsBoundary, ReadsLast, ReleasesNext, SnapshotCase, TakesSnapshot, acts, announces, ended, ends, ends_joined, ends_split, goes_on, is_ending, is_last, must_go_on, none_once_over, not_ended, not_now, over, reads, releases, releases_joined, releases_split, running, taken, waiting}
use Rattle.like_live.specs.Driver.{counted as counts_last}
use Rattle.like_shared.specs.declared.deed.DriverDeed.{DriverDeed}
use Rattle.like_shared.specs.declared.deed.DriverDeed.TheVariants as driver
use Rattle.like_shared.specs.Deeds.{DriverDoes, DriverMakes}
use Rattle.like_shared.specs.Staying.{CountsStay, counted}

-- a look reads no count
seen-alike : (v w : LeadView) (sight : CoordSight) → Sees v sight w → w.seat.counted ≡ v.seat.counted
seen-alike v w sight sees = ap (λ (l : LeadView). l.seat.counted) sees.saw

releases-alike : (v w : DriverView) → ReleasesNext v w → counted w ≡ counted v
releases-alike v w (releases_joined split same) = ap counted same
releases-alike v w (releases_split joined chosen publishes same) =
    ap counted same ∙ ap (λ (l : LeadView). l.seat.counted) publishes.publishes

decides-alike : (v w : DriverView) (sight : CoordSight) (end : End) (is_due : Bool) → Decides v sight end is_due w
    → counted w ≡ counted v
decides-alike v w sight end is_due (must_go_on may due same) = ap counted same
decides-alike v w sight end is_due (ends_joined may joined how same) = ap counted same
decides-alike v w sight end is_due (ends_split may split how same) = ap counted same

case-alike : (v w : DriverView) (sight : CoordSight) (end : End) (answer : DriverAnswer)
    → DriverCase v sight end answer w → counted w ≡ counted v
case-alike v w sight end answer (waiting ending out is same) = ap counted same
case-alike v w sight end answer (releases ending all is next) = releases-alike (record v { hinted = false }) w next
case-alike v w sight end answer (announces now going decides is same) =
    ap counted same ∙ decides-alike v now sight end true decides
case-alike v w sight end answer (running going some decides is) = decides-alike v w sight end false decides
case-alike v w sight end answer (ended going gone decides is) = decides-alike v w sight end false decides

turn-alike : (v w : DriverView) (end : End) (answer : DriverAnswer) → DriverTurns v end answer w → counted w ≡ counted v
turn-alike v w end answer (acts on a) =
    case-alike (record v { lead = a.seen }) w a.sight end answer a.case ∙ seen-alike v.lead a.seen a.sight a.sees
turn-alike v w end answer (over is_over is same) = ap counted same

-- to look whether all seats are gone reads no count
end-alike : (v w : LeadView) (is_end : Bool) → LooksForEnd v is_end w → w.seat.counted ≡ v.seat.counted
end-alike v w is_end (goes_on sight sees some is) = seen-alike v w sight sees
end-alike v w is_end (is_last sight sees left runs last is) = seen-alike v w sight sees
end-alike v w is_end (is_ending sight sees left ending is) = seen-alike v w sight sees
end-alike v w is_end (ends sight again seen sees left runs more looks is) =
    seen-alike (announced seen) w again looks ∙ seen-alike v seen sight sees

module _ (P : PageCount → Type 0) where
  -- what is so of all counts that a snapshot leaves is so of those before it, and of those that it read
  all-before : (c : CoordSeatView) (from : ℕ) (counts : List ℕ) → All P (counted_from c from counts).counted
      → All P c.counted
  all-before c from [] all = all
  all-before c from (count ∷ counts) all =
      All-tail P _ c.counted (all-before (counted_coord c from count) (from + 1) counts all)

  -- these counts were read in the phase
  abbrev pub AreRead : (phase from : ℕ) → List ℕ → Type 0
  AreRead phase from counts =
      (i : ℕ) → i < length counts → P (record { phase = phase; page = from + i; count = slice_index counts i })

  all-read : (c : CoordSeatView) (from : ℕ) (counts : List ℕ) → All P (counted_from c from counts).counted
      → AreRead c.phase from counts
  all-read c from [] all i less = absurd (omega arith)
  all-read c from (count ∷ counts) all zero less =
      let is : from ≡ from + 0 = omega arith in
      subst (λ page. P (record { phase = c.phase; page = page; count = count })) is
      (All-head P _ c.counted (all-before (counted_coord c from count) (from + 1) counts all))
  all-read c from (count ∷ counts) all (suc i) less =
      let is : from + 1 + i ≡ from + suc i = omega arith in
      subst (λ page. P (record { phase = c.phase; page = page; count = slice_index counts i })) is
      (all-read (counted_coord c from count) (from + 1) counts all i (omega arith))

  -- what a call wrote, if it did
  abbrev pub Written : DriverDeed → Type 0
  Written (driver.Snapshot from counts (Some phase)) = AreRead phase from counts
  Written (driver.LastCounts from counts true) = (phase : ℕ) × AreRead phase from counts
  Written d = ⊤

  boundary-alike : (v w : LeadView) (from : ℕ) (old counts : List ℕ) (phase : Option ℕ)
      → ReadsBoundary v from old phase w counts → All P w.seat.counted
      → All P v.seat.counted × Written (driver.Snapshot from counts phase)
  boundary-alike v w from old counts phase r all = case-of r.case where
    seen : r.seen.seat.counted ≡ v.seat.counted
    seen = seen-alike v r.seen r.sight r.sees

    case-of : SnapshotCase r.seen r.sight from old phase w counts
        → All P v.seat.counted × Written (driver.Snapshot from counts phase)
    case-of (taken boundary is len same) =
        let left : All P (counted_from r.seen.seat from counts).counted =
        subst (λ (l : LeadView). All P l.seat.counted) same all in (
          subst (All P) seen (all-before r.seen.seat from counts left),
          subst (λ p. Written (driver.Snapshot from counts p)) (sym is) (all-read r.seen.seat from counts left),
        )
    case-of (not_now boundary is none same) = (
      subst (All P) seen (subst (λ (l : LeadView). All P l.seat.counted) same all),
      subst (λ p. Written (driver.Snapshot from counts p)) (sym is) tt,
    )

  last-alike : (v w : LeadView) (from : ℕ) (old counts : List ℕ) (is_done : Bool)
      → ReadsLast v from old is_done w counts → All P w.seat.counted
      → All P v.seat.counted × Written (driver.LastCounts from counts is_done)
  last-alike v w from old counts is_done (not_ended looks is none) all = (
    subst (All P) (end-alike v w false looks) all,
    subst (λ b. Written (driver.LastCounts from counts b)) (sym is) tt,
  )
  last-alike v w from old counts is_done (counts_last now looks len same last is) all =
      let left : All P (counted_from now.seat from counts).counted =
      subst (λ (l : LeadView). All P l.seat.counted) same all in (
        subst (All P) (end-alike v now true looks) (all-before now.seat from counts left),
        subst (λ b. Written (driver.LastCounts from counts b)) (sym is) (now.seat.phase, all-read now.seat from counts left),
      )

  deed-alike : (v w : DriverView) (d : DriverDeed) → DriverMakes v d w → All P (counted w)
      → All P (counted v) × Written d
  deed-alike v w (driver.Turn end answer) made all = (subst (All P) (turn-alike v w end answer made) all, tt)
  deed-alike v w (driver.Propose pages) made all = (subst (All P) (ap counted made) all, tt)
  deed-alike v w (driver.SplitPages pages many) made all = (subst (All P) (ap counted made.2) all, tt)
  deed-alike v w (driver.LastCounts from counts is_done) made all =
      last-alike v.lead w.lead from made.0 counts is_done made.1.case all
  deed-alike v w (driver.Snapshot from counts phase) made all = case-of made.1 where
    case-of : TakesSnapshot v from made.0 phase w counts
        → All P (counted v) × Written (driver.Snapshot from counts phase)
    case-of (reads on boundary same) = boundary-alike v.lead w.lead from made.0 counts phase boundary all
    case-of (none_once_over is_over is none same) = (
      subst (All P) (ap counted same) all,
      subst (λ p. Written (driver.Snapshot from counts p)) (sym is) tt,
    )

  -- what is so of all counts at the end is so of each that was written
  pub all-written : (v w : DriverView) (ds : List DriverDeed) → HasRun DriverDoes v ds w → All P (counted w)
      → All P (counted v) × All Written ds
  all-written v w [] run all = (subst (λ u. All P (counted u)) run all, All-nil Written)
  all-written v w (d ∷ ds) run all =
      let rest = all-written run.0 w ds run.2 all in
      let one = deed-alike v run.0 d run.1.0 rest.0 in
      (one.0, All-cons Written d ds one.1 rest.1)

-- so the counts that a driver has read, and those that were written, stay among those that it knows
module _ (v w : DriverView) (ds : List DriverDeed) (run : HasRun DriverDoes v ds w) where
  abbrev IsKnown : PageCount → Type 0
  IsKnown = Contains (counted w)

  stays : All IsKnown (counted v) × All (Written IsKnown) ds
  stays = all-written IsKnown v w ds run (All-contains_itself (counted w))

  written : (d : DriverDeed) → Contains ds d → Written IsKnown d
  written d has = subst (Written IsKnown) has.2 (stays.1 has.0 d has.1)

pub counts-stay : CountsStay
counts-stay = record {
  kept = λ v w ds run. (stays v w ds run).0;
  snapshots = λ v w ds from phase counts run has. written v w ds run (driver.Snapshot from counts (Some phase)) has;
  lasts = λ v w ds from counts run has. written v w ds run (driver.LastCounts from counts true) has;
}
