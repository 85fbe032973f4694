-- What a call does by a handle of its own: of a seat, or of a driver.
use Rattle.std.specs.Prelude.{◌≡◌, ℕ, ◌≤◌, length, slice_get, List, [], ◌∷◌, ◌++◌, Bool, true, false, Option, Some, None, Result, Ok, Err, Box}
use Rattle.std.specs.Global.{Global}
use Rattle.like_live.specs.{Batch.RunCase, LiveView.IsSameSeat, LiveView.RanNext, Types.Found}
use Rattle.like_shared.specs.Deeds.{DriverDoes, SeatDoes, pages_at}
use Rattle.like_shared.specs.declared.deed.{DriverDeed.DriverDeed, SeatDeed.SeatDeed}
use Rattle.like_c.specs.Rows.{call_of, found_row, row_of, status_row}
use Rattle.like_c.specs.declared.{opened.BoxedPhase.BoxedPhase, opened.BoxedSeat.BoxedSeat, opened.Opened.Opened}
use Rattle.like_c.specs.declared.{rows.AnswerRow.AnswerRow, rows.FoundRow.FoundRow, rows.RequestRow.RequestRow}
use Rattle.like_c.specs.{Asks.At, Status.all_taken, Status.empty, Status.status}

-- a call of a seat: with its answer it is this deed, and nothing but the seat has changed
abbrev pub CallsSeat : {A : Type 0} → (A → SeatDeed) → Result A ℕ → BoxedSeat → BoxedSeat → Type 0
CallsSeat deed (Ok answer) s t = SeatDoes s.live (deed answer) t.live × (t ≡ record s { live = t.live })
CallsSeat deed (Err why) s t = ⊥

-- a call of a driver, in the same way
abbrev pub CallsOpened : {A : Type 0} → (A → DriverDeed) → Result A ℕ → Opened → Opened → Type 0
CallsOpened deed (Ok answer) o p = DriverDoes o.driver (deed answer) p.driver × (p ≡ record o { driver = p.driver })
CallsOpened deed (Err why) o p = ⊥

-- how many pages a driver has
abbrev pub pages_in : Opened → ℕ
pages_in o = pages_at o.driver

-- a found look is told, which ran in the phase after the one in which it was asked. If there is none, the row stays
abbrev pub TellsIfFound : FoundRow → Bool → FoundRow → Result (Option Found) ℕ → Type 0
TellsIfFound old is_found row (Ok (Some it)) = RanNext it × (is_found ≡ true) × (row ≡ found_row it)
TellsIfFound old is_found row told = (is_found ≡ false) × (row ≡ old)

-- the first answer, if there is one, tells this status
abbrev pub with_first : ℕ → List AnswerRow → List AnswerRow
with_first why [] = []
with_first why (row ∷ rows) = status_row why ∷ rows

-- rows are run at a handle, and the answers that have no request stay. An empty one does none, and the first is told so
abbrev pub RunsAt :
    Option BoxedSeat → List RequestRow → List AnswerRow → List AnswerRow → ℕ → Option BoxedSeat → Type 0
RunsAt at requests old rows done after =
    At ((done ≡ 0) × (rows ≡ with_first (status empty) old)) (λ s t. RunCase call_of row_of s.live requests rows done t.live
    × ((i : ℕ) → length requests ≤ i → slice_get rows i ≡ slice_get old i) × IsSameSeat s.live t.live) at after

-- the next seat leaves those that were not taken yet, or there is none
abbrev pub TakesSeat : Result BoxedSeat ℕ → Opened → Opened → Type 0
TakesSeat (Ok seat) o p =
    ((b : Box BoxedSeat Global) × (seat ≡ b.value) × (o.seats.items ≡ p.seats.items ++ b ∷ []))
    × (p ≡ record o { seats = p.seats })
TakesSeat (Err why) o p =
    (why ≡ status all_taken) × (o.seats.items ≡ []) × (p.seats.items ≡ []) × (p ≡ record o { seats = p.seats })

-- the phase is taken, or it was taken before
abbrev pub TakesPhase : Result BoxedPhase ℕ → Option (Box BoxedPhase Global) → Option (Box BoxedPhase Global) → Type 0
TakesPhase (Ok phase) before after = ((b : Box BoxedPhase Global) × (phase ≡ b.value) × (before ≡ Some b)) × (after ≡ None)
TakesPhase (Err why) before after = (why ≡ status all_taken) × (before ≡ None) × (after ≡ None)
