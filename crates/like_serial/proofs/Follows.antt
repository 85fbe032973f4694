-- What follows from a serial list.
use Rattle.std.proofs.Common.{◌≡◌, ℕ, zero, suc, ◌+◌, ◌<◌, ◌≤◌, Bool, true, false, nat_lt, ◌==◌, List, [], ◌∷◌, ◌++◌, length, take, drop, map, filter, slice_get, Some, subst, ap, ap₂, sym, ◌∙◌, refl, arith, add-one}
use Rattle.std.specs.List.{AllByRecursion}
use Rattle.like_promises.specs.declared.log.Ran.{Ran}
use Rattle.like_promises.specs.Likes.{count_in, initial_count, likes, likes_among, likes_within, look_ran}
use Rattle.like_promises.specs.RunStore.{Between, count_at}
use Rattle.like_promises.specs.Workload.{Workload}
use Rattle.like_serial.specs.Laws.{SerialIsBetween}
use Rattle.like_promises.specs.Serial.{IsSerial, run_of}
use Rattle.like_serial.proofs.OneThread.{one_thread_is_serial}
use Rattle.like_serial.proofs.Counts.{likes-weigh, likes_by}
use Rattle.like_serial.proofs.Growth.{count_at_is, within-weigh}
use Rattle.like_serial.proofs.Interleaved.{with_key}
use Rattle.like_serial.proofs.Parts.{at_place, passed, place_of_part, take_part}
use Rattle.like_serial.proofs.Phases.{Rises, above, all_above, all_then, not_below, rises_of}
use Rattle.like_serial.proofs.Serial.{no_run, phase_of, server_of}
use Rattle.like_serial.proofs.Totals.{weigh-all_below, weigh-all_none, weigh-suc, weigh-zero}
use Rattle.like_serial.proofs.Weigh.{only, sum-weigh, weigh, weigh-alike, weigh-append, weigh-filter}

-- the sum of the first values of a function
abbrev pub upto : (ℕ → ℕ) → ℕ → ℕ
upto g zero = 0
upto g (suc n) = upto g n + g n

upto-shift : (g : ℕ → ℕ) (n : ℕ) → upto g (suc n) ≡ g 0 + upto (λ k. g (suc k)) n
upto-shift g zero = omega arith
upto-shift g (suc n) = let same = upto-shift g n in omega arith

upto-past : (g : ℕ → ℕ) (n more : ℕ) → ((k : ℕ) → n ≤ k → g k ≡ 0) → upto g (more + n) ≡ upto g n
upto-past g n zero none = ap (upto g) (omega arith)
upto-past g n (suc more) none =
    let next : suc more + n ≡ suc (more + n) = omega arith in
    ap (upto g) next
    ∙ (let same = upto-past g n more none in
    let here = none (more + n) (omega arith) in
    omega arith)

runs-upto : (f : List Ran → ℕ) (runs : List (List Ran)) → weigh f runs ≡ upto (λ w. f (run_of runs w)) (length runs)
runs-upto f [] = refl
runs-upto f (run ∷ runs) =
    ap (λ n. f run + n) (runs-upto f runs) ∙ sym (upto-shift (λ w. f (run_of (run ∷ runs) w)) (length runs))

-- what entries count in a serial list, they count in the run lists
module _ (workload : Workload) (workers : ℕ) (runs : List (List Ran)) (serial : List Ran)
    (is : IsSerial workload workers runs serial) (f : Ran → ℕ) where
  serial_upto : (n : ℕ)
      → weigh (λ e. only (nat_lt (server_of workers e) n) (f e)) serial ≡ upto (λ w. weigh f (run_of runs w)) n
  serial_upto zero = weigh-zero (server_of workers) f serial
  serial_upto (suc n) =
      weigh-suc (server_of workers) f n serial
      ∙ ap₂ (λ a b. a + b) (serial_upto n)
      (sym (weigh-filter (λ (e : Ran). server_of workers e == n) f serial) ∙ ap (weigh f) (is.own n))

  pub same_counts : weigh f serial ≡ weigh (weigh f) runs
  same_counts =
      let n = above (server_of workers) serial + length runs in
      sym (weigh-all_below (server_of workers) f n serial (all_above (server_of workers) (length runs) serial))
      ∙ serial_upto n
      ∙ upto-past (λ w. weigh f (run_of runs w)) (length runs) (above (server_of workers) serial)
      (λ w past. ap (weigh f) (no_run runs w past))
      ∙ sym (runs-upto (weigh f) runs)

pub map-alike : {X Y : Type 0} (f g : X → Y) (xs : List X) → ((x : X) → f x ≡ g x) → map f xs ≡ map g xs
map-alike f g [] each = refl
map-alike f g (x ∷ xs) each = ap₂ (λ y ys. y ∷ ys) (each x) (map-alike f g xs each)

-- likes of a page in all run lists
pub likes-serial : (workload : Workload) (workers : ℕ) (runs : List (List Ran)) (serial : List Ran) (page : ℕ)
    → IsSerial workload workers runs serial
    → likes workload page runs ≡ likes_among workload page serial
likes-serial workload workers runs serial page is =
    sum-weigh (likes_among workload page) runs
    ∙ weigh-alike (likes_among workload page) (weigh (likes_by workload page)) runs (likes-weigh workload page)
    ∙ sym (same_counts workload workers runs serial is (likes_by workload page))
    ∙ sym (likes-weigh workload page serial)

-- what counts less
weigh-less : {X : Type 0} (f g : X → ℕ) (xs : List X) → ((x : X) → f x ≤ g x) → weigh f xs ≤ weigh g xs
weigh-less f g [] each = omega arith
weigh-less f g (x ∷ xs) each = let first = each x in let more = weigh-less f g xs each in omega arith

only-less : (b : Bool) (n : ℕ) → only b n ≤ n
only-less true n = omega arith
only-less false n = omega arith

pub weigh-filter_less : {X : Type 0} (t : X → Bool) (f : X → ℕ) (xs : List X) → weigh f (filter t xs) ≤ weigh f xs
weigh-filter_less t f xs =
    let same = weigh-filter t f xs in
    let less = weigh-less (λ x. only (t x) (f x)) f xs (λ x. only-less (t x) (f x)) in
    omega arith

-- the elements before one that rise are no more, and those after it no less
pub record Around {X : Type 0} (phase : X → ℕ) (before : List X) (x : X) (after : List X) : Type 0 where
  pub earlier : AllByRecursion (λ y. phase y < suc (phase x)) before
  pub later : AllByRecursion (λ y. phase x ≤ phase y) after

all_at : {X : Type 0} (P : X → Type 0) (before : List X) (x : X) (after : List X)
    → AllByRecursion P (before ++ x ∷ after)
    → P x
all_at P [] x after all = all.0
all_at P (y ∷ before) x after all = all_at P before x after all.1

around : {X : Type 0} (phase : X → ℕ) (before : List X) (x : X) (after : List X)
    → Rises phase (before ++ x ∷ after)
    → Around phase before x after
around phase [] x after rises = record { earlier = tt; later = rises.0 }
around phase (y ∷ before) x after rises =
    let a = around phase before x after rises.1 in
    let most = all_at (λ z. phase y ≤ phase z) before x after rises.0 in
    record { earlier = (omega arith, a.earlier); later = a.later }

-- the bounds of a count
module _ (workload : Workload) (workers : ℕ) (runs : List (List Ran)) (serial : List Ran)
    (is : IsSerial workload workers runs serial) (page : ℕ) where
  abbrev counted : Ran → ℕ
  counted = likes_by workload page

  -- in earlier phases, and in this one
  abbrev early : ℕ → Ran → ℕ
  early phase e = only (nat_lt e.phase phase) (counted e)

  abbrev now : ℕ → Ran → ℕ
  now phase e = only (e.phase == phase) (counted e)

  before-serial : (phase : ℕ)
      → count_at workload serial page phase ≡ initial_count workload.pages page + weigh (early phase) serial
  before-serial phase = count_at_is workload serial page phase

  bounds : (before : List Ran) (e : Ran) (after mine yours : List Ran) (w : ℕ)
      → serial ≡ before ++ e ∷ after
      → with_key (server_of workers) w before ≡ mine
      → with_key (server_of workers) w after ≡ yours
      → look_ran workload e ≡ Some page
      → Between workload serial e.phase page (count_in e.reply) (likes_within workload page mine e.phase)
      (likes_within workload page yours e.phase)
  bounds before e after mine yours w parts fronts rests look =
      let k = e.phase in
      let shown : count_in e.reply ≡ initial_count workload.pages page + weigh counted before =
      (one_thread_is_serial workload serial is.replies).1 (length before) page e
      (subst (λ xs. slice_get xs (length before) ≡ Some e) (sym parts) (place_of_part before e after)) look
      ∙ ap (λ xs. initial_count workload.pages page + likes_among workload page xs)
      (ap (take (length before)) parts ∙ take_part before e after)
      ∙ ap (λ n. initial_count workload.pages page + n) (likes-weigh workload page before)
      in
      let a = around phase_of before e after
      (subst (Rises phase_of) parts (rises_of phase_of serial is.rising))
      in
      let next : weigh (early (suc k)) before ≡ weigh counted before =
      weigh-all_below phase_of counted (suc k) before a.earlier
      in
      let split = weigh-suc phase_of counted k before in
      let more = weigh-suc phase_of counted k after in
      let none : weigh (early k) after ≡ 0 =
      weigh-all_none (early k) after
      (all_then (λ (d : Ran). k ≤ d.phase) (λ d. early k d ≡ 0) after
      (λ d least. ap (λ b. only b (counted d)) (not_below d.phase k least)) a.later)
      in
      let here : early k e ≡ 0 = ap (λ b. only b (counted e)) (not_below k k (omega arith)) in
      let all : weigh (early k) serial ≡ weigh (early k) before + (early k e + weigh (early k) after) =
      ap (weigh (early k)) parts ∙ weigh-append (early k) before (e ∷ after)
      in
      let after_all : weigh (early (suc k)) serial
      ≡ weigh (early (suc k)) before + (early (suc k) e + weigh (early (suc k)) after) =
      ap (weigh (early (suc k))) parts ∙ weigh-append (early (suc k)) before (e ∷ after)
      in
      let first = before-serial k in
      let second : count_at workload serial page (k + 1)
      ≡ initial_count workload.pages page + weigh (early (suc k)) serial =
      ap (count_at workload serial page) (add-one k) ∙ before-serial (suc k)
      in
      let own : likes_within workload page mine k ≤ weigh (now k) before =
      subst (λ n. n ≤ weigh (now k) before) (ap (weigh (now k)) fronts ∙ sym (within-weigh workload page mine k))
      (weigh-filter_less (λ (d : Ran). server_of workers d == w) (now k) before)
      in
      let rest : likes_within workload page yours k ≤ weigh (now k) after =
      subst (λ n. n ≤ weigh (now k) after) (ap (weigh (now k)) rests ∙ sym (within-weigh workload page yours k))
      (weigh-filter_less (λ (d : Ran). server_of workers d == w) (now k) after)
      in
      record { lower = omega arith; upper = omega arith }

pub serial_is_between : SerialIsBetween
serial_is_between workload workers worker runs serial is i page e at look =
    let run = run_of runs worker in
    let p = passed (λ (d : Ran). server_of workers d == worker) serial (take i run) e (drop (suc i) run)
    (is.own worker ∙ at_place run i e at)
    in
    bounds workload workers runs serial is page p.front e p.rest (take i run) (drop (suc i) run) worker p.is p.fronts
    p.rests look
