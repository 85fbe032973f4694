-- Two looks that cross have no order.
use Rattle.std.proofs.Common.{◌≡◌, ℕ, zero, suc, ◌≤◌, ◌==◌, All, inl, inr, List, [], ◌∷◌, length, take, slice_get, Some, None, subst, ap, sym, ◌∙◌, refl, arith}
use Rattle.std.proofs.lemmas.Bool.{cases_lt}
use Rattle.like_promises.specs.declared.log.Ran.{Ran}
use Rattle.like_promises.specs.declared.reply.Reply.TheVariants.{Liked, Seen}
use Rattle.like_promises.specs.Likes.{count_in, likes_within, look_ran}
use Rattle.like_promises.specs.Replies.{HasRightAnswers, HasRightCounts, IsRightAnswer}
use Rattle.like_promises.specs.RunStore.{Between}
use Rattle.like_promises.specs.Workload.{Workload}
use Rattle.like_serial.specs.Example.{CrossedLooksHaveNoOrder, crossed, crossed_all, crossed_runs, ran}
use Rattle.like_promises.specs.Serial.{AreRising, IsSerial, run_of}
use Rattle.like_serial.specs.RunLists.{AreRunLists}
use Rattle.like_serial.proofs.OneThread.{one_thread_is_serial}
use Rattle.like_serial.proofs.Counts.{likes-weigh, likes_by}
use Rattle.like_serial.proofs.Follows.{weigh-filter_less}
use Rattle.like_serial.proofs.Interleaved.{with_key}
use Rattle.like_serial.proofs.Parts.{passed, place_of_part, take_part}
use Rattle.like_serial.proofs.Phases.{pairs_of, rec_all}
use Rattle.like_serial.proofs.Seen.{not_some, some_is}
use Rattle.like_serial.proofs.Serial.{phase_of, runs_are_serial, server_of}
use Rattle.like_serial.proofs.Weigh.{weigh}

-- the answers of a list of two
pub right_two : (workload : Workload) (a b : Ran)
    → IsRightAnswer workload [] a
    → IsRightAnswer workload (a ∷ []) b
    → HasRightAnswers workload (a ∷ b ∷ [])
right_two workload a b first second zero e at =
    subst (λ (x : Ran). IsRightAnswer workload [] x) (some_is a e at) first
right_two workload a b first second (suc zero) e at =
    subst (λ (x : Ran). IsRightAnswer workload (a ∷ []) x) (some_is b e at) second
right_two workload a b first second (suc (suc i)) e at = absurd (not_some e at)

answers : (worker : ℕ) → HasRightAnswers crossed (run_of crossed_runs worker)
answers zero = right_two crossed (ran 0 1 Liked) (ran 0 2 (Seen (Some 0) 0)) refl refl
answers (suc zero) = right_two crossed (ran 1 1 Liked) (ran 1 2 (Seen (Some 1) 0)) refl refl
answers (suc (suc worker)) = λ i e at. absurd (not_some e at)

lists : AreRunLists crossed 2 crossed_runs
lists = record {
  own = λ w. own w;
  rising = λ w. rising w;
  answers = λ w. answers w;
} where
  own : (w : ℕ) → All (λ e. server_of 2 e ≡ w) (run_of crossed_runs w)
  own zero = rec_all (λ e. server_of 2 e ≡ 0) (run_of crossed_runs 0) (refl, (refl, tt))
  own (suc zero) = rec_all (λ e. server_of 2 e ≡ 1) (run_of crossed_runs 1) (refl, (refl, tt))
  own (suc (suc w)) = rec_all (λ e. server_of 2 e ≡ suc (suc w)) [] tt

  rising : (w : ℕ) → AreRising (run_of crossed_runs w)
  rising zero = pairs_of phase_of (run_of crossed_runs 0) ((omega arith, tt), (tt, tt))
  rising (suc zero) = pairs_of phase_of (run_of crossed_runs 1) ((omega arith, tt), (tt, tt))
  rising (suc (suc w)) = pairs_of phase_of [] tt

-- the count of a list of two, whose first entry is no look
bounded_two : (a b : Ran) (page : ℕ)
    → look_ran crossed a ≡ None
    → look_ran crossed b ≡ Some page
    → Between crossed crossed_all b.phase page (count_in b.reply) (likes_within crossed page (a ∷ []) b.phase)
    (likes_within crossed page [] b.phase)
    → HasRightCounts crossed crossed_all (a ∷ b ∷ [])
bounded_two a b page none look bounds zero q e at is =
    absurd
    (not_some q (sym none ∙ ap (λ (x : Ran). look_ran crossed x) (some_is a e at) ∙ is))
bounded_two a b page none look bounds (suc zero) q e at is =
    let same = some_is b e at in
    let pages : page ≡ q =
    some_is page q (sym look ∙ ap (λ (x : Ran). look_ran crossed x) same ∙ is)
    in
    subst
    (λ (x : Ran). Between crossed crossed_all x.phase q (count_in x.reply) (likes_within crossed q (a ∷ []) x.phase)
    (likes_within crossed q [] x.phase))
    same
    (subst
    (λ p. Between crossed crossed_all b.phase p (count_in b.reply) (likes_within crossed p (a ∷ []) b.phase)
    (likes_within crossed p [] b.phase)) pages bounds)
bounded_two a b page none look bounds (suc (suc i)) q e at is = absurd (not_some e at)

between : (worker : ℕ) → HasRightCounts crossed crossed_all (run_of crossed_runs worker)
between zero =
    bounded_two (ran 0 1 Liked) (ran 0 2 (Seen (Some 0) 0)) 1 refl refl
    (record { lower = omega arith; upper = omega arith })
between (suc zero) =
    bounded_two (ran 1 1 Liked) (ran 1 2 (Seen (Some 1) 0)) 0 refl refl
    (record { lower = omega arith; upper = omega arith })
between (suc (suc worker)) = λ i page e at look. absurd (not_some e at)

-- the longer beginning of a list counts no less
pub take_most : {X : Type 0} (f : X → ℕ) (xs : List X) (i j : ℕ) → i ≤ j → weigh f (take i xs) ≤ weigh f (take j xs)
take_most f [] zero zero less = omega arith
take_most f [] zero (suc j) less = omega arith
take_most f [] (suc i) zero less = omega arith
take_most f [] (suc i) (suc j) less = omega arith
take_most f (x ∷ xs) zero j less = omega arith
take_most f (x ∷ xs) (suc i) zero less = absurd (omega (arith, less))
take_most f (x ∷ xs) (suc i) (suc j) less =
    let more = take_most f xs i j (omega (arith, less)) in omega arith

-- a worker's like comes before its look, and that shows no like of its own page
pub record Stands (serial : List Ran) (liked looked : ℕ) : Type 0 where
  pub place : ℕ
  pub some : 1 ≤ weigh (likes_by crossed liked) (take place serial)
  pub none : weigh (likes_by crossed looked) (take place serial) ≡ 0

stands : (serial : List Ran) (worker liked looked : ℕ) (a b : Ran)
    → IsSerial crossed 2 crossed_runs serial
    → run_of crossed_runs worker ≡ a ∷ b ∷ []
    → weigh (likes_by crossed liked) (a ∷ []) ≡ 1
    → look_ran crossed b ≡ Some looked
    → count_in b.reply ≡ 0
    → Stands serial liked looked
stands serial worker liked looked a b is run likes look shows =
    let p = passed (λ (e : Ran). server_of 2 e == worker) serial (a ∷ []) b [] (is.own worker ∙ run) in
    let place = length p.front in
    let front : take place serial ≡ p.front = ap (take place) p.is ∙ take_part p.front b p.rest in
    let less = weigh-filter_less (λ (e : Ran). server_of 2 e == worker) (likes_by crossed liked) p.front in
    let own : weigh (likes_by crossed liked) (with_key (server_of 2) worker p.front) ≡ 1 =
    ap (weigh (likes_by crossed liked)) p.fronts ∙ likes
    in
    let shown = (one_thread_is_serial crossed serial is.replies).1 place looked b
    (subst (λ xs. slice_get xs place ≡ Some b) (sym p.is) (place_of_part p.front b p.rest)) look
    in
    let among = likes-weigh crossed looked (take place serial) in
    record {
      place = place;
      some = subst (λ xs. 1 ≤ weigh (likes_by crossed liked) xs) (sym front) (omega arith);
      none = omega arith;
    }

apart : (serial : List Ran) → ¬ IsSerial crossed 2 crossed_runs serial
apart serial is =
    let a = stands serial 0 0 1 (ran 0 1 Liked) (ran 0 2 (Seen (Some 0) 0)) is refl refl refl refl in
    let b = stands serial 1 1 0 (ran 1 1 Liked) (ran 1 2 (Seen (Some 1) 0)) is refl refl refl refl in
    elim (cases_lt a.place b.place) [
      | inl less ↦
          let most = take_most (likes_by crossed 0) serial a.place b.place (omega arith) in
          let some = a.some in
          let none = b.none in
          omega (arith, most, some, none)
      | inr least ↦
          let most = take_most (likes_by crossed 1) serial b.place a.place (omega arith) in
          let some = b.some in
          let none = a.none in
          omega (arith, most, some, none)
    ]

pub crossed_looks_have_no_order : CrossedLooksHaveNoOrder
crossed_looks_have_no_order = record {
  lists = lists;
  between = between;
  apart = apart;
  unordered = λ last steps fits.
      let serial = runs_are_serial crossed 2 last crossed_runs steps lists fits in apart serial.0 serial.1;
}
