-- A batch of rows is a list of calls.
use Rattle.std.proofs.Common.{◌≡◌, ℕ, zero, suc, Bool, true, false, List, [], ◌∷◌, ◌++◌, take, Result, Some, refl, sym, ap, ◌∙◌, subst, arith, append-nil}
use Rattle.std.specs.List.{slice_get}
use Rattle.std.specs.Prelude.{flat_map}
use Rattle.std.proofs.lemmas.Option.{same_Some}
use Rattle.like_live.specs.declared.call.Answer.{Answer}
use Rattle.like_live.specs.declared.call.Answer.TheVariants as answer
use Rattle.like_live.specs.declared.call.Call.{Call}
use Rattle.like_live.specs.declared.call.Call.TheVariants as call
use Rattle.like_live.specs.Batch.{AnswersRow, AnswersRows, Makes, all_rows, has_no_call, makes_call, stops_at}
use Rattle.like_live.specs.History.{HasDone, Told}
use Rattle.like_live.specs.LiveView.{LiveView}
use Rattle.like_shared.specs.Batches.{AreTold, BatchesAreCalls, IsToldOne, told_none, told_one}
use Rattle.like_shared.specs.Deeds.{calls_of}
use Rattle.like_shared.specs.Rows.{deeds_of_call}
use Rattle.like_shared.proofs.Rows.{call-told}

-- calls, and then others
pub done-append : (v w z : LiveView) (xs ys : List Told) → HasDone v xs w → HasDone w ys z → HasDone v (xs ++ ys) z
done-append v w z [] ys done more = subst (λ u. HasDone u ys z) done more
done-append v w z (x ∷ xs) ys done more = (done.0, (done.1.0, done-append done.0 w z xs ys done.1.1 more))

-- a call of a batch is one of a history
made-one : (v now : LiveView) (c : Call) (a : Answer) → Makes v c a now
    → HasDone v (flat_map calls_of (deeds_of_call c a)) now
made-one v now (call.Like user page) (answer.Like a) m = (now, (m, refl))
made-one v now (call.Like user page) (answer.Look a) m = absurd m
made-one v now (call.Like user page) (answer.Glance a) m = absurd m
made-one v now (call.Look user page tag) (answer.Like a) m = absurd m
made-one v now (call.Look user page tag) (answer.Look a) m = (now, (m, refl))
made-one v now (call.Look user page tag) (answer.Glance a) m = absurd m
made-one v now (call.Glance user page) (answer.Like a) m = absurd m
made-one v now (call.Glance user page) (answer.Look a) m = absurd m
made-one v now (call.Glance user page) (answer.Glance a) m = (now, (m, refl))

-- a row is a call, or none
one-row : {R T : Type 0} (asks : R → Result Call T) (tells : Answer → T) (v now : LiveView) (row : R) (x : T)
    (put_off : Bool) → AnswersRow asks tells v row x put_off now
    → (one : List Told) × HasDone v one now × IsToldOne asks tells row x one
one-row asks tells v now row x put_off (makes_call c a asked made page written again) =
    (_, made-one v now c a made, told_one c a asked (call-told v now c a made) written refl)
one-row asks tells v now row x put_off (has_no_call none no_more same) = ([], same, told_none none refl)

-- and rows are calls
all-told : {R T : Type 0} (asks : R → Result Call T) (tells : Answer → T) (v after : LiveView) (rows : List R) (answers : List T)
    → AnswersRows asks tells v rows answers after → (told : List Told) × HasDone v told after × AreTold asks tells rows answers told
all-told asks tells v after [] [] done = ([], done, refl)
all-told asks tells v after [] (x ∷ answers) done = absurd done
all-told asks tells v after (row ∷ rows) [] done = absurd done
all-told asks tells v after (row ∷ rows) (x ∷ answers) done =
    let one = one-row asks tells v done.0 row x false done.1.0 in
    let rest = all-told asks tells done.0 after rows answers done.1.1 in
    (one.0 ++ rest.0, done-append v done.0 after one.0 rest.0 one.1 rest.1, (one.0, rest.0, refl, one.2, rest.2))

-- one row more
told-more : {R T : Type 0} (asks : R → Result Call T) (tells : Answer → T) (rows : List R) (answers : List T) (n : ℕ)
    (row : R) (x : T) (told one : List Told)
    → slice_get rows n ≡ Some row → slice_get answers n ≡ Some x
    → AreTold asks tells (take n rows) (take n answers) told → IsToldOne asks tells row x one
    → AreTold asks tells (take (suc n) rows) (take (suc n) answers) (told ++ one)
told-more asks tells [] answers n row x told one at there are is = absurd (cc at)
told-more asks tells (r ∷ rows) [] n row x told one at there are is = absurd (cc there)
told-more asks tells (r ∷ rows) (y ∷ answers) zero row x told one at there are is =
    let r_is : row ≡ r = sym (same_Some r row at) in
    let y_is : x ≡ y = sym (same_Some y x there) in (
      one,
      [],
      ap (λ (l : List Told). l ++ one) are ∙ sym (append-nil one),
      subst (λ z. IsToldOne asks tells r z one) y_is
          (subst (λ z. IsToldOne asks tells z x one) r_is is),
      refl,
    )
told-more asks tells (r ∷ rows) (y ∷ answers) (suc n) row x told one at there are is = (
  are.0,
  are.1 ++ one,
  ap (λ (l : List Told). l ++ one) are.2 ∙ append-three are.0 are.1 one,
  are.3,
  told-more asks tells rows answers n row x are.1 one at there are.4 is,
)
  where
    append-three : (xs ys zs : List Told) → (xs ++ ys) ++ zs ≡ xs ++ (ys ++ zs)
    append-three [] ys zs = refl
    append-three (t ∷ xs) ys zs = ap (λ (l : List Told). t ∷ l) (append-three xs ys zs)

-- so is a batch, whether all rows are answered or one stops it
pub batches-are-calls : {R T : Type 0} (asks : R → Result Call T) (tells : Answer → T) → BatchesAreCalls asks tells
batches-are-calls asks tells v after rows answers done (all_rows many rows_are) =
    let all = all-told asks tells v after _ _ rows_are in
    (done, all.0, all.1, all.2, omega arith, omega arith)
batches-are-calls asks tells v after rows answers done (stops_at now row told rows_are at there last) =
    let all = all-told asks tells v now _ _ rows_are in
    let one = one-row asks tells now after row told true last in (
      suc done,
      all.0 ++ one.0,
      done-append v now after all.0 one.0 all.1 one.1,
      told-more asks tells rows answers done row told all.0 one.0 at there all.2 one.2,
      omega arith,
      omega arith,
    )
