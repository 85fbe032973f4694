-- Rows of calls at a seat are deeds.
use Rattle.std.proofs.Common.{◌≡◌, ℕ, zero, suc, ◌+◌, ◌<◌, ◌≤◌, Bool, false, true, List, [], ◌∷◌, ◌++◌, length, take, Result, Ok, Err, Some, refl, sym, ap, ◌∙◌, subst, arith, add-one}
use Rattle.std.specs.List.{slice_get, zip}
use Rattle.std.specs.Prelude.{flat_map}
use Rattle.std.proofs.lemmas.Bool.{false≢true}
use Rattle.std.proofs.lemmas.Option.{same_Some, slice_get_within}
use Rattle.std.proofs.lemmas.List.{flat_map_more, take_all}
use Rattle.std.proofs.lemmas.List.Concat.{flat_map-cons}
use Rattle.std.proofs.lemmas.Slice.Zip.{length-zip}
use Rattle.told_lock.proofs.Logs.{run-append}
use Rattle.told_lock.specs.Deeds.{HasRun}
use Rattle.like_core.specs.declared.log.Logged.{Logged}
use Rattle.like_core.specs.Post.{answered as answered_post, number_of}
use Rattle.like_seat.specs.Merge.{merged}
use Rattle.like_seat.specs.StationView.{StationView}
use Rattle.like_live.specs.declared.answer.TurnAnswer.{TurnAnswer}
use Rattle.like_live.specs.declared.asked.Asked.{Asked}
use Rattle.like_live.specs.declared.call.Answer.{Answer}
use Rattle.like_live.specs.declared.call.Answer.TheVariants as answer
use Rattle.like_live.specs.declared.call.Call.{Call}
use Rattle.like_live.specs.declared.call.Call.TheVariants as call
use Rattle.like_live.specs.Batch.{AnswersRow, AnswersRows, Makes, RunCase, TellsPage, all_rows, has_no_call, makes_call, stops_at}
use Rattle.like_live.specs.Calls as calls
use Rattle.like_live.specs.LiveView.{IsSameSeat, LiveView, with_station}
use Rattle.like_live.specs.Moves.{FindsAll, Moves, Works, acknowledged, acknowledges, is_gone, looked, reports, runs_joined, runs_split, waits, works}
use Rattle.like_live.proofs.Calling.{GlancesNow-leaves, LeavesLikes, LikesNow-same, LooksNow-leaves}
use Rattle.like_live.proofs.Moving.{Leaves-looked, same_seat, same_seat_both}
use Rattle.like_shared.specs.declared.deed.SeatDeed.{SeatDeed}
use Rattle.like_shared.specs.Deeds.{SeatDoes}
use Rattle.like_shared.specs.Rows.{IsAnswerTo, IsRowDone, IsRowPutOff, deeds_of_call, row_deeds}

-- phase work leaves the same seat
found-same : (v after : LiveView) → FindsAll v after → IsSameSeat v after
found-same v after found =
    subst (IsSameSeat v) (sym found.rest) (record { board = refl; worker = refl; marks = refl; share = refl })

works-same : (v after : LiveView) (ending : Bool) (told : TurnAnswer) → Works v ending told after → IsSameSeat v after
works-same v after ending told (runs_joined joined e a found) = found-same v after found
works-same v after ending told (acknowledges now joined e a found is) =
    subst (IsSameSeat v) (sym is)
    (same_seat_both v now (acknowledged now) (found-same v now found)
    (record { board = refl; worker = refl; marks = refl; share = refl }))
works-same v after ending told (runs_split split e a is) = subst (IsSameSeat v) (sym is) (same_seat v)
works-same v after ending told (reports s split e a m is) =
    let adds = m.1.0.0 in
    let logged : List Logged = m.0.post.logged in
    let end : s ≡ record (merged v.station adds logged) { post = answered_post (merged v.station adds logged).post } =
    m.1.1 ∙ ap (λ (t : StationView Asked). record t { post = answered_post t.post }) m.1.0.1.1 in
    subst (IsSameSeat v) (sym (is ∙ ap (with_station v) end))
    (record { board = refl; worker = refl; marks = refl; share = refl })

pub moves-same : (v after : LiveView) (told : TurnAnswer) → Moves v told after → IsSameSeat v after
moves-same v after told (is_gone gone a is) = subst (IsSameSeat v) (sym is) (same_seat v)
moves-same v after told (waits sight mask can w a is) =
    subst (IsSameSeat v) (sym is) (Leaves-looked v sight mask (number_of after.station.post)).same
moves-same v after told (works sight mask number can w does) =
    let now = looked v sight mask number in
    same_seat_both v now after (Leaves-looked v sight mask number).same (works-same now after sight.ending told does)

-- no like is counted yet
leaves-all : (v : LiveView) → LeavesLikes v v
leaves-all v = record { same = same_seat v; tallies = λ page. refl; last = refl }

-- so does a call of a row
call-same : (v after : LiveView) (c : Call) (a : Answer) → Makes v c a after → IsSameSeat v after
call-same v after (call.Like user page) (answer.Like a) (calls.gone moves is) = moves-same v after _ moves
call-same v after (call.Like user page) (answer.Like a) (calls.between moves is) = moves-same v after _ moves
call-same v after (call.Like user page) (answer.Like a) (calls.runs now moves does) =
    same_seat_both v now after (moves-same v now _ moves) (LikesNow-same now after user page a does)
call-same v after (call.Look user page tag) (answer.Look a) (calls.gone moves is) = moves-same v after _ moves
call-same v after (call.Look user page tag) (answer.Look a) (calls.between moves is) = moves-same v after _ moves
call-same v after (call.Look user page tag) (answer.Look a) (calls.runs now moves does) =
    same_seat_both v now after (moves-same v now _ moves)
    (LooksNow-leaves now now after user page tag a (leaves-all now) does).same
call-same v after (call.Glance user page) (answer.Glance a) (calls.gone moves is) = moves-same v after _ moves
call-same v after (call.Glance user page) (answer.Glance a) (calls.between moves is) = moves-same v after _ moves
call-same v after (call.Glance user page) (answer.Glance a) (calls.runs now moves does) =
    same_seat_both v now after (moves-same v now _ moves)
    (GlancesNow-leaves now now after user page a (leaves-all now) does).same
call-same v after (call.Like user page) (answer.Look a) wrong = absurd wrong
call-same v after (call.Like user page) (answer.Glance a) wrong = absurd wrong
call-same v after (call.Look user page tag) (answer.Like a) wrong = absurd wrong
call-same v after (call.Look user page tag) (answer.Glance a) wrong = absurd wrong
call-same v after (call.Glance user page) (answer.Like a) wrong = absurd wrong
call-same v after (call.Glance user page) (answer.Look a) wrong = absurd wrong

-- a call of a row is a deed
call-run : (v now : LiveView) (c : Call) (a : Answer) → Makes v c a now → HasRun SeatDoes v (deeds_of_call c a) now
call-run v now (call.Like user page) (answer.Like a) m = (now, (m, call-same v now (call.Like user page) (answer.Like a) m), refl)
call-run v now (call.Look user page tag) (answer.Look a) m =
    (now, (m, call-same v now (call.Look user page tag) (answer.Look a) m), refl)
call-run v now (call.Glance user page) (answer.Glance a) m =
    (now, (m, call-same v now (call.Glance user page) (answer.Glance a) m), refl)
call-run v now (call.Like user page) (answer.Look a) wrong = absurd wrong
call-run v now (call.Like user page) (answer.Glance a) wrong = absurd wrong
call-run v now (call.Look user page tag) (answer.Like a) wrong = absurd wrong
call-run v now (call.Look user page tag) (answer.Glance a) wrong = absurd wrong
call-run v now (call.Glance user page) (answer.Like a) wrong = absurd wrong
call-run v now (call.Glance user page) (answer.Look a) wrong = absurd wrong

-- and is told an answer to it
pub call-told : (v after : LiveView) (c : Call) (a : Answer) → Makes v c a after → IsAnswerTo c a
call-told v after (call.Like user page) (answer.Like a) made = λ none. cc none
call-told v after (call.Look user page tag) (answer.Look a) made = λ none. cc none
call-told v after (call.Glance user page) (answer.Glance a) made = λ none. cc none
call-told v after (call.Like user page) (answer.Look a) wrong = absurd wrong
call-told v after (call.Like user page) (answer.Glance a) wrong = absurd wrong
call-told v after (call.Look user page tag) (answer.Like a) wrong = absurd wrong
call-told v after (call.Look user page tag) (answer.Glance a) wrong = absurd wrong
call-told v after (call.Glance user page) (answer.Like a) wrong = absurd wrong
call-told v after (call.Glance user page) (answer.Look a) wrong = absurd wrong

-- rows and answers, so many of them
zip-take : {R T : Type 0} (n : ℕ) (rows : List R) (answers : List T)
    → take n (zip rows answers) ≡ zip (take n rows) (take n answers)
zip-take zero rows answers = refl
zip-take (suc n) [] answers = refl
zip-take (suc n) (row ∷ rows) [] = refl
zip-take (suc n) (row ∷ rows) (x ∷ answers) = ap (λ l. (row, x) ∷ l) (zip-take n rows answers)

-- and one more
zip-next : {R T : Type 0} (n : ℕ) (rows : List R) (answers : List T) (row : R) (x : T)
    → slice_get rows n ≡ Some row → slice_get answers n ≡ Some x
    → take (suc n) (zip rows answers) ≡ zip (take n rows) (take n answers) ++ (row, x) ∷ []
zip-next n [] answers row x at there = absurd (cc at)
zip-next n (r ∷ rows) [] row x at there = absurd (cc there)
zip-next zero (r ∷ rows) (y ∷ answers) row x at there = λ i. (same_Some r row at i, same_Some y x there i) ∷ []
zip-next (suc n) (r ∷ rows) (y ∷ answers) row x at there = ap (λ l. (r, y) ∷ l) (zip-next n rows answers row x at there)

module _ {R T : Type 0} (asks : R → Result Call T) (tells : Answer → T) where
  -- a row that is answered, and needn't be made again, is done
  row-done : (v now : LiveView) (row : R) (told : T) → AnswersRow asks tells v row told false now
      → IsRowDone tells (asks row) told
  row-done v now row told (makes_call c a asked made page is again) =
      subst (λ x. IsRowDone tells x told) (sym asked)
      (a, call-told v now c a made, (λ off. absurd (false≢true (again.1 off))), is)
  row-done v now row told (has_no_call none no_more same) = subst (λ x. IsRowDone tells x told) (sym none) refl

  -- and one that must be is put off
  row-put-off : (v now : LiveView) (row : R) (told : T) → AnswersRow asks tells v row told true now
      → IsRowPutOff tells (asks row) told
  row-put-off v now row told (makes_call c a asked made page is again) =
      subst (λ x. IsRowPutOff tells x told) (sym asked) (a, call-told v now c a made, again.0 refl, is)
  row-put-off v now row told (has_no_call none no_more same) = absurd (false≢true (sym no_more))

  -- rows that are answered one by one are done
  rows-done : (n : ℕ) (rows : List R) (answers : List T) (v after : LiveView)
      → AnswersRows asks tells v (take n rows) (take n answers) after → (i : ℕ) (row : R) (told : T) → i < n
      → slice_get rows i ≡ Some row → slice_get answers i ≡ Some told → IsRowDone tells (asks row) told
  rows-done zero rows answers v after answered i row told less at there = absurd (omega arith)
  rows-done (suc n) rows [] v after answered i row told less at there = absurd (cc there)
  rows-done (suc n) [] (x ∷ answers) v after answered i row told less at there = absurd (cc at)
  rows-done (suc n) (r ∷ rows) (x ∷ answers) v after answered zero row told less at there =
      subst (λ y. IsRowDone tells (asks row) y) (same_Some x told there)
      (subst (λ k. IsRowDone tells (asks k) x) (same_Some r row at) (row-done v answered.0 r x answered.1.0))
  rows-done (suc n) (r ∷ rows) (x ∷ answers) v after answered (suc i) row told less at there =
      rows-done n rows answers answered.0 after answered.1.1 i row told (omega arith) at there

  -- what was done of a batch
  pub batch-made : (v after : LiveView) (rows : List R) (answers : List T) (done : ℕ)
      → RunCase asks tells v rows answers done after
      → ((i : ℕ) (row : R) (told : T) → i < done → slice_get rows i ≡ Some row → slice_get answers i ≡ Some told
      → IsRowDone tells (asks row) told)
      × ((row : R) (told : T) → slice_get rows done ≡ Some row → slice_get answers done ≡ Some told
      → IsRowPutOff tells (asks row) told)
  batch-made v after rows answers done (all_rows is answered) = (
    rows-done done rows answers v after answered,
    λ row told at there.
        absurd (omega (arith, is, slice_get_within rows done row at, slice_get_within answers done told there)),
  )
  batch-made v after rows answers done (stops_at now r x answered at there last) = (
    rows-done done rows answers v now answered,
    λ row told here is.
        subst (λ y. IsRowPutOff tells (asks row) y) (same_Some x told (sym there ∙ is))
        (subst (λ k. IsRowPutOff tells (asks k) x) (same_Some r row (sym at ∙ here)) (row-put-off now after r x last)),
  )

  -- rows with what they were told are deeds, if a row that asks for a call has the deed of that call with its answer, and
  -- one that asks for none has none
  module _ (deeds_of : R → T → List SeatDeed)
      (of_call : (row : R) (c : Call) (a : Answer) → asks row ≡ Ok c → IsAnswerTo c a → TellsPage a
      → deeds_of row (tells a) ≡ deeds_of_call c a)
      (of_none : (row : R) (told : T) → asks row ≡ Err told → deeds_of row told ≡ []) where
    -- the deeds of a row with what it was told
    abbrev deeds_at : R × T → List SeatDeed
    deeds_at r = deeds_of r.0 r.1

    -- a row that is answered is its deeds
    row-run : (v now : LiveView) (row : R) (told : T) (put_off : Bool) → AnswersRow asks tells v row told put_off now
        → HasRun SeatDoes v (deeds_of row told) now
    row-run v now row told put_off (makes_call c a asked made page is again) =
        subst (λ l. HasRun SeatDoes v l now)
        (sym (ap (deeds_of row) is ∙ of_call row c a asked (call-told v now c a made) page)) (call-run v now c a made)
    row-run v now row told put_off (has_no_call none no_more same) =
        subst (λ l. HasRun SeatDoes v l now) (sym (of_none row told none)) same

    -- so are rows that are answered one by one
    rows-run : (v after : LiveView) (rows : List R) (answers : List T) → AnswersRows asks tells v rows answers after
        → HasRun SeatDoes v (flat_map deeds_at (zip rows answers)) after
    rows-run v after [] [] answered = answered
    rows-run v after [] (x ∷ answers) answered = absurd answered
    rows-run v after (row ∷ rows) [] answered = absurd answered
    rows-run v after (row ∷ rows) (x ∷ answers) answered =
        let rest = flat_map deeds_at (zip rows answers) in
        subst (λ l. HasRun SeatDoes v l after) (sym (flat_map-cons deeds_at (row, x) (zip rows answers)))
        (run-append SeatDoes v answered.0 after (deeds_of row x) rest
        (row-run v answered.0 row x false answered.1.0) (rows-run answered.0 after rows answers answered.1.1))

    -- a batch is the deeds of its rows
    pub batch-run : (v after : LiveView) (rows : List R) (answers : List T) (done : ℕ)
        → RunCase asks tells v rows answers done after → HasRun SeatDoes v (row_deeds deeds_of rows answers done) after
    batch-run v after rows answers done (all_rows is answered) =
        let pairs = zip rows answers in
        let all : length pairs ≤ done = omega (arith, is, length-zip rows answers) in
        let few : take (done + 1) pairs ≡ take done pairs =
        take_all (done + 1) pairs (omega arith) ∙ sym (take_all done pairs all) in
        subst (λ l. HasRun SeatDoes v (flat_map deeds_at l) after) (sym (few ∙ zip-take done rows answers))
        (rows-run v after (take done rows) (take done answers) answered)
    batch-run v after rows answers done (stops_at now row told answered at there last) =
        let pairs = zip (take done rows) (take done answers) in
        let more : take (done + 1) (zip rows answers) ≡ pairs ++ (row, told) ∷ [] =
        ap (λ n. take n (zip rows answers)) (add-one done) ∙ zip-next done rows answers row told at there in
        subst (λ l. HasRun SeatDoes v l after)
        (flat_map_more deeds_at [] pairs (row, told) ∙ sym (ap (flat_map deeds_at) more))
        (run-append SeatDoes v now after (flat_map deeds_at pairs) (deeds_of row told)
        (rows-run v now (take done rows) (take done answers) answered) (row-run now after row told true last))

-- so is a batch of calls
pub calls-run : (v after : LiveView) (rows : List Call) (answers : List Answer) (done : ℕ)
    → RunCase (λ c. Ok c) (λ a. a) v rows answers done after → HasRun SeatDoes v (row_deeds deeds_of_call rows answers done) after
calls-run =
    batch-run (λ c. Ok c) (λ a. a) deeds_of_call
    (λ row c a asks told page. (let same : row ≡ c = cc asks in ap (λ r. deeds_of_call r a) same))
    (λ row told asks. absurd (cc asks))
