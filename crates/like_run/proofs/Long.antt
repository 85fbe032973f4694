-- A replay that is unfinished is long.
use Rattle.std.proofs.Common.{◌≡◌, ◌<◌, ℕ, zero, suc, false, true≢false, List, [], ◌∷◌, length, map, option_map, sym, ap, ◌∙◌, subst}
use Rattle.std.specs.List.{All}
use Rattle.std.proofs.lemmas.List.{length-map, map-set}
use Rattle.std.proofs.lemmas.Option.{slice_get-map}
use Rattle.like_requests.specs.declared.request.Request.{Request}
use Rattle.like_requests.specs.declared.script.Turned.{Turned}
use Rattle.like_requests.specs.declared.script.Turned.TheVariants.{OpenOne, Worker, Coordinator}
use Rattle.like_requests.specs.declared.setup.Setup.{Setup}
use Rattle.like_ending.specs.Laws.{MayLast}
use Rattle.like_ending.specs.Progress.{WorkerProgress, items_in}
use Rattle.like_ending.specs.Schedules.{IsFreshRound, Participant, TakeTurns, Unended, coordinator, worker}
use Rattle.like_ending.proofs.Ends.{rounds_end}
use Rattle.like_ending.proofs.Sums.{set_same}
use Rattle.like_crew.specs.Crew.{CrewView, IsNewCrew}
use Rattle.like_crew.specs.Fresh.{AllOpen}
use Rattle.like_crew.specs.Progress.{items_of, progress_of}
use Rattle.like_crew.specs.Steps.{Makes, MakesAll}
use Rattle.like_crew.proofs.Progress.{progress_in, progress_with}
use Rattle.like_crew.proofs.Rounds.{leads-modelled, round-goes-on, round-modelled}
use Rattle.like_crew.proofs.Starting.{new-items, new-start, new-turns, new-workers}
use Rattle.like_crew.proofs.servers.Turning.{all-opened, opened-one}
use Rattle.like_run.specs.declared.rounds.fault.ReplayFault.{ReplayFault}
use Rattle.like_run.specs.declared.rounds.fault.ReplayFault.TheVariants.{Settings, Memory, Unfinished}
use Rattle.like_run.specs.Rounds.{HasNotEnded, IsReplayFaultUnderWay, IsUnfinished}
use Rattle.like_run.specs.Script.{MakesRounds, Plays}

-- who has a turn by a script: opening a list is nobody's
abbrev participants : List Turned → List Participant
participants [] = []
participants (OpenOne submitter ∷ script) = participants script
participants (Worker w ∷ script) = worker w ∷ participants script
participants (Coordinator ∷ script) = coordinator ∷ participants script

-- opening a list changes nothing that counts
open-same : (submitter : ℕ) (c d : CrewView)
    → Makes (OpenOne submitter) c d
    → progress_in d ≡ progress_in c
open-same submitter c d made =
    let at = made.0 in
    let same : map progress_of d.servers ≡ map progress_of c.servers =
    ap (map progress_of) at.rest
    ∙ map-set progress_of c.servers _ at.after
    ∙ set_same (map progress_of c.servers) _ (progress_of at.before) (progress_of at.after)
    (slice_get-map progress_of c.servers _ ∙ ap (option_map progress_of) at.here)
    (opened-one submitter at.before at.after at.step) in
    λ m. record (progress_with (made.1 m) c.servers) { workers = same m }

-- entries are turns of the model
entries-modelled : (script : List Turned) (c d : CrewView)
    → MakesAll script c d
    → TakeTurns false (participants script) (progress_in c) (progress_in d)
entries-modelled [] c d made = ap progress_in made
entries-modelled (OpenOne submitter ∷ script) c d made =
    subst (λ p. TakeTurns false (participants script) p (progress_in d)) (open-same submitter c made.0 made.1.0)
    (entries-modelled script made.0 d made.1.1)
entries-modelled (Worker w ∷ script) c d made =
    let at = made.1.0.0 in
    let turn = at.step.1 in
    let seat = c.coordinator.seat in (
      progress_in made.0,
      (
        record {
          before = progress_of at.before;
          after = progress_of at.after;
          here = slice_get-map progress_of c.servers w ∙ ap (option_map progress_of) at.here;
          turn = turn.turn.modelled false seat.phase seat.ending (λ e. absurd (true≢false (sym e))) turn.fresh;
          rest = (λ m. progress_with (made.1.0.1 m) (at.rest m))
              ∙ ap (λ (ws : List WorkerProgress). record (progress_in c) { workers = ws })
              (map-set progress_of c.servers w at.after);
        },
        entries-modelled script made.0 d made.1.1,
      ),
    )
entries-modelled (Coordinator ∷ script) c d made =
    (progress_in made.0, (leads-modelled made.1.0.0 c made.0 made.1.0.1, entries-modelled script made.0 d made.1.1))

-- and so are rounds, with all lists open
rounds-modelled : (n : ℕ) (c d : CrewView)
    → MakesRounds n c d
    → All AllOpen c.servers
    → Unended IsFreshRound n (progress_in c) (progress_in d)
rounds-modelled zero c d made lists = ap progress_in made
rounds-modelled (suc n) c d made lists =
    let round = round-modelled false c made.0 made.1.0 lists in (
      round-goes-on c made.0 made.1.0,
      (progress_in made.0, (round.0, rounds-modelled n made.0 d made.1.1 round.1)),
    )

-- all lists are opened
open-all : (script : List Turned) (c d : CrewView) (p : Plays script c d)
    → (progress_in d ≡ progress_in p.made) × All AllOpen d.servers
open-all script c d p =
    let opened = all-opened p.made.servers d.servers p.opens in
    (λ m. record (progress_with (p.waits m) p.made.servers) { workers = opened.0 m }, opened.1)

is-long : (setup : Setup) (plans : List (List Request)) (script : List Turned) (n : ℕ) (c b d : CrewView)
    (p : Plays script c b)
    → MakesRounds n b d
    → 0 < setup.workers
    → IsNewCrew setup plans c
    → MayLast setup.turns (items_of plans) setup.workers n
is-long setup plans script n c b d p made some new =
    let opened = open-all script c b p in
    let rounds : Unended IsFreshRound n (progress_in p.made) (progress_in d) =
    subst (λ at. Unended IsFreshRound n at (progress_in d)) opened.0 (rounds-modelled n b d made opened.1) in
    let most : MayLast c.coordinator.turns (items_in (progress_in c)) (length (map progress_of c.servers)) n =
    rounds_end (participants script) n (progress_in c) (progress_in p.made) (progress_in d) (new-start setup plans c new)
    (entries-modelled script c p.made p.entries) rounds in
    subst (λ t. MayLast t (items_of plans) setup.workers n) (new-turns setup plans c new)
    (subst (λ i. MayLast c.coordinator.turns i setup.workers n) (new-items setup plans c some new)
    (subst (λ w. MayLast c.coordinator.turns (items_in (progress_in c)) w n)
    (length-map c.servers progress_of ∙ new-workers setup plans c new) most))

-- why a new crew that plays a script leaves nothing is why its replay gives no report
pub under-way : (setup : Setup) (plans : List (List Request)) (script : List Turned) (c : CrewView)
    (fault : ReplayFault)
    → 0 < setup.workers
    → IsNewCrew setup plans c
    → IsReplayFaultUnderWay (HasNotEnded script c) fault
    → IsReplayFaultUnderWay (IsUnfinished setup plans script) fault
under-way setup plans script c (Settings why) some new h = absurd h
under-way setup plans script c Memory some new h = tt
under-way setup plans script c Unfinished some new h = record {
  start = c;
  new = new;
  not_ended = h;
  long = subst (λ n. MayLast setup.turns (items_of plans) setup.workers n) h.most.all
      (is-long setup plans script h.most.rounds c h.opened h.last h.plays h.most.goes_round some new);
}
