-- How a batch is run, row by row.
use Rattle.std.proofs.Common.{◌≡◌, ℕ, zero, suc, ◌+◌, ◌<◌, Bool, true, false, List, [], ◌∷◌, length, get_or, set, take, Result, Ok, Some, refl, ap, sym, ◌∙◌, subst, arith}
use Rattle.std.proofs.lemmas.Option.{slice_get-get_or}
use Rattle.std.specs.List.{slice_get}
use Rattle.like_live.specs.declared.call.Answer.{Answer}
use Rattle.like_live.specs.declared.call.Call.{Call}
use Rattle.like_live.specs.LiveView.{LiveView}
use Rattle.like_live.specs.Batch.{AnswersRow, AnswersRows, RunCase, has_no_call, makes_call, stops_at}

-- one row more
rows-push : {R T : Type 0} (asks : R → Result Call T) (tells : Answer → T) (i : ℕ) (rows : List R) (answers : List T)
    (v now after : LiveView) (row : R) (told : T)
    → slice_get rows i ≡ Some row
    → i < length answers
    → AnswersRows asks tells v (take i rows) (take i answers) now
    → AnswersRow asks tells now row told false after
    → AnswersRows asks tells v (take (suc i) rows) (take (suc i) (set answers i told)) after
rows-push asks tells i [] answers v now after row told at there done d = cc
rows-push asks tells i (x ∷ rows) [] v now after row told at there done d = absurd (omega arith)
rows-push asks tells zero (x ∷ rows) (y ∷ answers) v now after row told at there done d =
    let is : x ≡ row = cc in (
      after,
      (
        subst (λ k. AnswersRow asks tells v k told false after) (sym is)
            (subst (λ u. AnswersRow asks tells u row told false after) done d),
        refl,
      ),
    )
rows-push asks tells (suc i) (x ∷ rows) (y ∷ answers) v now after row told at there done d =
    (done.0, (done.1.0, rows-push asks tells i rows answers done.0 now after row told at (omega arith) done.1.1 d))

-- a row whose call is made is answered
pub row-answered : {R T : Type 0} (asks : R → Result Call T) (tells : Answer → T) (v after : LiveView) (row : R)
    (call : Call) (told : T) (put_off : Bool)
    → asks row ≡ Ok call
    → AnswersRow Ok tells v call told put_off after
    → AnswersRow asks tells v row told put_off after
row-answered asks tells v after row call told put_off asked (makes_call c a is made page written again) =
    makes_call c a (asked ∙ is) made page written again
row-answered asks tells v after row call told put_off asked (has_no_call none no_more same) = cc none

-- an element that was written is there
set-there : {T : Type 0} → (xs : List T) (i : ℕ) (x : T) → i < length xs → slice_get (set xs i x) i ≡ Some x
set-there [] i x there = absurd (omega arith)
set-there (y ∷ xs) zero x there = refl
set-there (y ∷ xs) (suc i) x there = set-there xs i x (omega arith)

-- those before it stay
take-before : {T : Type 0} → (xs : List T) (i : ℕ) (x : T) → take i (set xs i x) ≡ take i xs
take-before [] i x = refl
take-before (y ∷ xs) zero x = refl
take-before (y ∷ xs) (suc i) x = ap (λ ys. y ∷ ys) (take-before xs i x)

-- and so do those behind it
pub set-behind : {T : Type 0}
    → (xs : List T) (i k : ℕ) (x : T)
    → i < k
    → slice_get (set xs i x) k ≡ slice_get xs k
set-behind [] i k x below = refl
set-behind (y ∷ xs) zero zero x below = absurd (omega arith)
set-behind (y ∷ xs) (suc i) zero x below = absurd (omega arith)
set-behind (y ∷ xs) zero (suc k) x below = refl
set-behind (y ∷ xs) (suc i) (suc k) x below = set-behind xs i k x (omega arith)

-- a row that is read by its number is there
row-there : {R : Type 0} (rows : List R) (i : ℕ) (row : R) → row ≡ get_or rows i row → i < length rows
    → slice_get rows i ≡ Some row
row-there rows i row is there = slice_get-get_or rows i row there ∙ ap Some (sym is)

-- a batch goes on past a row whose call was made
pub batch-more : {R T : Type 0} (asks : R → Result Call T) (tells : Answer → T) (v now after : LiveView) (rows : List R)
    (answers : List T) (i : ℕ) (row : R) (told : T) (put_off : Bool)
    → row ≡ get_or rows i row
    → i < length rows
    → i < length answers
    → AnswersRows asks tells v (take i rows) (take i answers) now
    → AnswersRow asks tells now row told put_off after
    → put_off ≡ false
    → AnswersRows asks tells v (take (i + 1) rows) (take (i + 1) (set answers i told)) after
batch-more asks tells v now after rows answers i row told put_off is row_there there done d no_more =
    let next : suc i ≡ i + 1 = omega arith in
    subst (λ n. AnswersRows asks tells v (take n rows) (take n (set answers i told)) after) next
    (rows-push asks tells i rows answers v now after row told (row-there rows i row is row_there) there done
    (subst (λ b. AnswersRow asks tells now row told b after) no_more d))

-- and stops at one whose call must be made again
pub batch-stops : {R T : Type 0} (asks : R → Result Call T) (tells : Answer → T) (v now after : LiveView) (rows : List R)
    (answers : List T) (i : ℕ) (row : R) (told : T) (put_off : Bool)
    → row ≡ get_or rows i row
    → i < length rows
    → i < length answers
    → AnswersRows asks tells v (take i rows) (take i answers) now
    → AnswersRow asks tells now row told put_off after
    → put_off ≡ true
    → RunCase asks tells v rows (set answers i told) i after
batch-stops asks tells v now after rows answers i row told put_off is row_there there done d again =
    stops_at now row told
    (subst (λ xs. AnswersRows asks tells v (take i rows) xs now) (sym (take-before answers i told)) done)
    (row-there rows i row is row_there)
    (set-there answers i told there)
    (subst (λ b. AnswersRow asks tells now row told b after) again d)
