-- Calls of what a handle holds, and what likes.h tells of them: an answer, or the status that came in its place.
use Rattle.std.specs.Prelude.{◌≡◌, ◌≢◌, ℕ, ◌+◌, ◌≤◌, ◌==◌, if◌then◌else◌, drop, length, List, Option, Some, None, Result, Ok, Err}
use Rattle.like_requests.specs.Types.{Verdict}
use Rattle.like_tables.specs.LastLike.{page_or_none}
use Rattle.like_live.specs.Types.{DriverAnswer, End, Found, LikePair, RowAnswer}
use Rattle.like_live.specs.declared.driver_end.End.TheVariants.{Always, IfItServes, No}
use Rattle.like_shared.specs.Rows.{IsToldOf}
use Rattle.like_shared.specs.declared.deed.DriverDeed.{DriverDeed, TheVariants.Turn}
use Rattle.like_c.specs.Status.{HasStatus, Status, counted, empty, in_use, like_status, no_found, ok, status}
use Rattle.like_c.specs.Status.{unknown_end, verdict_status, wrong_range}
use Rattle.like_c.specs.{Rows.found_row, declared.rows.FoundRow.FoundRow}

-- a call of a handle: for an empty one this is so, and it stays empty; to what any other holds the call does this
pub data At {A : Type 0} (empty : Type 0) (does : A → A → Type 0) (at after : Option A) : Type 0 where
  at_none : at ≡ None → empty → after ≡ None → At empty does at after
  at_some : (x y : A) → at ≡ Some x → does x y → after ≡ Some y → At empty does at after

-- a call that does this and is told this. An empty handle is told that it is empty
abbrev pub Asks : {A B : Type 0} → (Result A ℕ → B → B → Type 0) → (Result A ℕ → Type 0) → Option B → Option B → Type 0
Asks {A} does tells at after =
    At (tells (Err (status empty))) (λ b c. (told : Result A ℕ) × does told b c × tells told) at after

-- an empty handle is filled with what is made, or told why there is none; if it is in use, this stays as it is
pub data Fills {A : Type 0} (makes : Result A ℕ → Type 0) (stays : Type 0) (at : Option A) (result : ℕ) (after : Option A)
    : Type 0 where
  fills_none : at ≢ None → stays → result ≡ status in_use → after ≡ at → Fills makes stays at result after
  fills : (x : A) → at ≡ None → makes (Ok x) → result ≡ status ok → after ≡ Some x → Fills makes stays at result after
  makes_none : at ≡ None → makes (Err result) → after ≡ None → Fills makes stays at result after

-- something is taken like this from what a handle holds, and handed out into an empty one
abbrev pub HandsOut : {A B : Type 0} → (Result A ℕ → B → B → Type 0) → Option B → Option A → ℕ → Option B → Option A → Type 0
HandsOut takes from to result left after =
    Fills (λ taken. Asks takes (λ told. told ≡ taken) from left) (left ≡ from) to result after

-- if this is so, the call does that; else nothing, and it is told why
pub data If {A B : Type 0} (so : Type 0) (why : Status) (does : Result A ℕ → B → B → Type 0) (told : Result A ℕ) (b c : B)
    : Type 0 where
  is_so : so → does told b c → If so why does told b c
  is_not : ¬ so → told ≡ Err (status why) → c ≡ b → If so why does told b c

-- whether a turn may end the phase, if the number says it
abbrev pub end_of : ℕ → Option End
end_of end =
    if end == 0 then Some No else if end == 1 then Some IfItServes else if end == 2 then Some Always else None

-- the driver takes a turn, if the end is known
abbrev pub Turns : {B : Type 0} → ((DriverAnswer → DriverDeed) → Result DriverAnswer ℕ → B → B → Type 0) → Option End
    → Result DriverAnswer ℕ → B → B → Type 0
Turns calls (Some end) told b c = calls (Turn end) told b c
Turns calls None told b c = (told ≡ Err (status unknown_end)) × (c ≡ b)

-- a list is written, if the status is this one
abbrev pub TellsList : {A : Type 0} → (A → ℕ) → Status → List ℕ → ℕ → List ℕ → Result A ℕ → Type 0
TellsList status_of done old result new told = HasStatus status_of result told × (result ≢ status done → new ≡ old)

-- counts of the pages from this one on are asked for, as many as there is room for, if there are so many
abbrev pub AsksCounts : {A B : Type 0} → (B → ℕ) → ((A → DriverDeed) → Result A ℕ → B → B → Type 0)
    → (ℕ → List ℕ → A → DriverDeed) → (A → ℕ) → Option B → ℕ → List ℕ → ℕ → List ℕ → Option B → Type 0
AsksCounts pages calls deed status_of at from old result new after =
    Asks (λ told b c. If (from + length old ≤ pages b) wrong_range (calls (deed from new)) told b c)
    (TellsList status_of counted old result new) at after

-- a number is told
abbrev pub TellsNumber : ℕ → ℕ → ℕ → Result ℕ ℕ → Type 0
TellsNumber old result number (Ok told) = (result ≡ status ok) × (number ≡ told)
TellsNumber old result number (Err why) = (result ≡ why) × (number ≡ old)

-- a user's last like is told: the page, or `no_page`; of a user who is refused, nothing
abbrev pub TellsLastLike : ℕ → ℕ → ℕ → Result (Result (Option ℕ) Verdict) ℕ → Type 0
TellsLastLike old result page (Ok (Ok last)) = (result ≡ status ok) × (page ≡ page_or_none last)
TellsLastLike old result page (Ok (Err verdict)) = (result ≡ verdict_status verdict) × (page ≡ old)
TellsLastLike old result page (Err why) = (result ≡ why) × (page ≡ old)

-- a found look is told
abbrev pub TellsFound : FoundRow → ℕ → FoundRow → Result (Option Found) ℕ → Type 0
TellsFound old result row (Ok (Some it)) = (result ≡ status ok) × (row ≡ found_row it)
TellsFound old result row (Ok None) = (result ≡ status no_found) × (row ≡ old)
TellsFound old result row (Err why) = (result ≡ why) × (row ≡ old)

-- what is told of a row of likes: how many were counted, and what the next one is told
abbrev pub TellsLikes : List LikePair → ℕ → ℕ → Result RowAnswer ℕ → Type 0
TellsLikes likes result many (Ok told) = IsToldOf likes told × (result ≡ like_status told.answer) × (many ≡ told.counted)
TellsLikes likes result many (Err why) = (result ≡ why) × (many ≡ 0)

-- what is told of split pages: how many were written, and no others
abbrev pub TellsSplit : List ℕ → List ℕ → ℕ → Result ℕ ℕ → Type 0
TellsSplit old pages written (Ok many) = (written ≡ many) × (drop many pages ≡ drop many old)
TellsSplit old pages written (Err why) = (written ≡ 0) × (pages ≡ old)
