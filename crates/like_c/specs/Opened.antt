-- What a service is opened with from C.
use Rattle.std.specs.Prelude.{◌≡◌, ◌==◌, ◌⊎◌, if◌then◌else◌, ℕ, List, [], length, map, replicate, reverse, IsSome, Option, Some, None, Result, Ok, Err, vec_capacity, ⊤, Box}
use Rattle.std.specs.{Global.Global, Option.is_some}
use Rattle.like_live.specs.Opening.{Asking, IsRefusedFor, asking}
use Rattle.like_live.specs.{LiveView.LiveView, Service.AreOpened, Types.OpenError, Types.Opening}
use Rattle.like_c.specs.declared.{opened.BoxedSeat.BoxedSeat, opened.Opened.Opened, rows.Options.Options}
use Rattle.like_c.specs.{Asks.Fills, Status.open_status, Status.status, Status.wrong_reserved}

-- how many likes make a page hot; 0: no page gets hot
abbrev pub hot_of : ℕ → Option ℕ
hot_of hot = if hot == 0 then None else Some hot

-- what is asked for
abbrev pub asked_of : Options → List ℕ → List ℕ → List ℕ → Asking
asked_of options counts marks lasts = record {
  counts = counts;
  marks = marks;
  seats = options.seats;
  users = options.users;
  lasts = lasts;
  room = options.room;
  hot = hot_of options.hot;
}

-- the seat in a box
abbrev pub seat_in : Box BoxedSeat Global → LiveView
seat_in b = b.value.live

-- a service was opened as is asked for, and these are its driver, its seats, the first one last, room for them at the
-- end, and its phase
pub record IsOpenedAs (asked : Asking) (it : Opened) : Type 0 where
  pub opening : Opening
  pub asks : asking opening ≡ asked
  pub opened : AreOpened opening it.driver (reverse (map seat_in it.seats.items))
  pub told : it.driver.splits.told ≡ []
  pub finds : it.driver.splits.finds ≡ is_some opening.hot
  pub room : vec_capacity it.back ≡ length it.seats.items
  pub phase : IsSome it.phase

-- no reserved field is in use
abbrev pub IsUnreserved : Options → Type 0
IsUnreserved options = options.reserved ≡ replicate 6 0

-- a service is opened as is asked for; or it is told what is wrong first, or that there is no memory
abbrev pub Opens : {A : Type 0} → (Asking → A → Type 0) → Options → Asking → Result A ℕ → Type 0
Opens is options asked (Ok x) = IsUnreserved options × is asked x
Opens is options asked (Err why) =
    ((¬ IsUnreserved options) × (why ≡ status wrong_reserved))
    ⊎ (IsUnreserved options × ((error : OpenError) × IsRefusedFor asked error × (why ≡ open_status error)))

abbrev pub OpensAt : {A : Type 0} → (Asking → A → Type 0) → Options → List ℕ → List ℕ → List ℕ → Option A → ℕ
    → Option A → Type 0
OpensAt is options counts marks lasts at result after =
    Fills (Opens is options (asked_of options counts marks lasts)) ⊤ at result after
