use Rattle.std.proofs.Common.{◌≡◌, ℕ, Bool, List, length, ap, sym, subst, ◌∙◌, arith}
use Rattle.std.specs.Arc.{arc_value}
use Rattle.like_board.specs.Rule.{opened_coord}
use Rattle.like_board.specs.Seats.{AreFresh, BoardId, board_id}
use Rattle.like_core.specs.OpeningLimits.{service_limits}
use Rattle.like_core.specs.core.State.{opening_by}
use Rattle.like_core.specs.declared.limits.Limits.{Limits}
use Rattle.like_core.specs.declared.opening.Opening.{Opening as CoreOpening}
use Rattle.like_tables.specs.Factors.{IsFirstApart}
use Rattle.like_live.specs.declared.opening.Opening.{Opening}
use Rattle.like_live.specs.Driver.{DriverView, new_driver}
use Rattle.like_live.specs.LiveView.{LiveView}
use Rattle.like_live.specs.Opening.{IsWithinLimits, board_opening}
use Rattle.like_live.specs.Service.{AreOpened, AreOpenedSeats}
use Rattle.like_live.proofs.service.parts.new_service.Goals as goal

-- the opening of a board with a service's limits
as-opened : (o : Opening) (factor : ℕ) (limits : Limits) (counts : List ℕ)
    → limits ≡ service_limits → counts ≡ o.counts.items
    → opening_by factor limits o.seats counts ≡ board_opening o factor
as-opened o factor limits counts same are = λ m. opening_by factor (same m) o.seats (are m)

-- a new driver and new seats of its board are an opened service
opened : (o : Opening) (factor : ℕ) (board : BoardId) (told : List ℕ) (finds : Bool) (driver : DriverView)
    (seats : List LiveView)
    → IsWithinLimits o → IsFirstApart o.marks.items factor
    → driver ≡ new_driver o factor board told finds → AreOpenedSeats o factor board seats
    → AreOpened o driver seats
opened o factor board told finds driver seats within first is new =
    let here : driver.lead.board ≡ board = ap (λ (d : DriverView). d.lead.board) is in
    let said : driver.splits.told ≡ told = ap (λ (d : DriverView). d.splits.told) is in
    let may : driver.splits.finds ≡ finds = ap (λ (d : DriverView). d.splits.finds) is in
    record {
      within = within;
      factor = factor;
      first = first;
      new = is ∙ (λ m. new_driver o factor (sym here m) (sym said m) (sym may m));
      fresh = subst (λ (b : BoardId). AreOpenedSeats o factor b seats) (sym here) new;
    }

pub for_service-requires-clause-few_pages : goal.for_service-requires-clause-few_pages
for_service-requires-clause-few_pages g c =
    omega (
      arith,
      c.requires.within.0.1,
      ap (λ (xs : List ℕ). length xs) c.deref.ensures.value,
      ap (λ (l : Limits). l.pages) c.of_service.ensures.limits,
    )

pub for_service-requires-clause-limits : goal.for_service-requires-clause-limits
for_service-requires-clause-limits g c = c.of_service.ensures.lawful

pub new_seats-requires-clause-least : goal.new_seats-requires-clause-least
new_seats-requires-clause-least g c = c.factor-factor.ensures.least

pub new_seats-requires-clause-workers : goal.new_seats-requires-clause-workers
new_seats-requires-clause-workers g c =
    let workers = c.in_ok-board.workers.items in
    let z = board_opening c.args.opening.now c.factor-factor.result in
    subst (λ b. AreFresh (board_id b) z workers) (sym c.in_ok-board-2.ensures.ok)
    (subst (λ (y : CoreOpening). AreFresh (board_id c.in_ok-board.board) y workers)
    (as-opened c.args.opening.now c.factor-factor.result c.of_service.result c.deref.result.now
    c.of_service.ensures.limits c.deref.ensures.value)
    c.in_ok-board.ensures.views)

pub new-requires-3-clause-factor : goal.new-requires-3-clause-factor
new-requires-3-clause-factor g c = c.factor-factor.ensures.apart

pub new-requires-3-clause-here : goal.new-requires-3-clause-here
new-requires-3-clause-here g c = c.in_ok-board.ensures.coord_here ∙ ap board_id (sym c.in_ok-board-2.ensures.ok)

pub new-requires-3-clause-new : goal.new-requires-3-clause-new
new-requires-3-clause-new g c =
    c.in_ok-board.ensures.coord
    ∙ ap opened_coord (as-opened c.args.opening.now c.factor-factor.result c.of_service.result c.deref.result.now
    c.of_service.ensures.limits c.deref.ensures.value)

pub returns-clause-opened : goal.returns-clause-opened
returns-clause-opened g c =
    opened c.args.opening.now c.factor-factor.result (board_id (arc_value c.in_ok-board-2.board)) _ _
    c.in_ok-driver.driver c.in_ok-seats.seats.items c.requires.within c.factor-factor.ensures c.in_ok-driver.ensures
    c.in_ok-seats.ensures

pub returns-clause-told : goal.returns-clause-told
returns-clause-told g c = ap (λ (d : DriverView). d.splits.told) c.in_ok-driver.ensures

pub returns-clause-finds : goal.returns-clause-finds
returns-clause-finds g c = ap (λ (d : DriverView). d.splits.finds) c.in_ok-driver.ensures
