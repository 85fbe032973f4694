-- The seats of a new service, one by one, and that they stay all its seats.
use Rattle.std.proofs.Common.{◌≡◌, ℕ, zero, suc, ◌<◌, ◌==◌, cond, List, [], ◌∷◌, length, map, get_or, slice_get, Some, refl, ap, sym, ◌∙◌, subst, arith}
use Rattle.std.specs.List.{All, AllZip, count_by}
use Rattle.std.proofs.lemmas.Bool.{cond-false, cond-true, eq-eqb, ne_eqb}
use Rattle.std.proofs.lemmas.Option.{slice_get-get_or}
use mathlib.Core.Option.{some, some-injective, some-ne-none}
use lib.ListN.{get_elem?}
use Rattle.like_board.specs.Seats.{BoardId, board_numbers}
use Rattle.like_core.specs.declared.opening.Opening.{Opening as CoreOpening}
use Rattle.like_core.proofs.views.ViewLists.{sum_lone}
use Rattle.like_core.specs.declared.view.WorkerSeatView.{WorkerSeatView}
use Rattle.like_live.specs.Driver.{DriverView}
use Rattle.like_live.specs.declared.opening.Opening.{Opening}
use Rattle.like_live.specs.LiveView.{IsSameSeat, LiveView}
use Rattle.like_live.specs.Service.{AreItsSeats, AreOpened, CallsKeepSeats}
use Rattle.like_live.proofs.Closing.{all-alike, sum-alike}

-- a list has an element at each place within it
element : {A : Type 0} (xs : List A) (i : ℕ) → i < length xs → ((x : A) × (get_elem? xs i ≡ some x))
element [] i below = absurd (omega arith)
element (x ∷ xs) zero below = (x, refl)
element (x ∷ xs) (suc i) below = element xs i (omega arith)

-- an element at a place, in std's words
std-element : {A : Type 0} (xs : List A) (i : ℕ) (x : A) → get_elem? xs i ≡ some x → slice_get xs i ≡ Some x
std-element [] i x at = absurd (some-ne-none x (sym at))
std-element (y ∷ ys) zero x at = λ m. Some (some-injective y x at m)
std-element (y ∷ ys) (suc i) x at = std-element ys i x at

-- seats that stand in order of their numbers have each number once
pub once-in-order : (seats : List LiveView) (n : ℕ)
    → length seats ≡ n
    → ((k : ℕ) (s : LiveView) → slice_get seats k ≡ Some s → s.station.post.worker ≡ k)
    → (i : ℕ) → i < n → count_by (λ s. s.station.post.worker == i) seats ≡ 1
once-in-order seats n sized each i below =
    let here = element seats i (omega arith) in
    let f : LiveView → ℕ = λ s. cond (s.station.post.worker == i) 1 0 in
    let own : here.0.station.post.worker ≡ i = each i here.0 (std-element seats i here.0 here.1) in
    let one : f here.0 ≡ 1 = cond-true (here.0.station.post.worker == i) 1 0 (eq-eqb here.0.station.post.worker i own) in
    sum_lone f seats i here.0 here.1
    (λ j s other at.
    cond-false (s.station.post.worker == i) 1 0
    (ne_eqb s.station.post.worker i (λ same. other (sym (each j s (std-element seats j s at)) ∙ same)))) ∙
    one

-- a driver and seats that were opened are all of one service
pub opened-whole : (o : Opening) (driver : DriverView) (seats : List LiveView)
    → AreOpened o driver seats
    → AreItsSeats driver seats
opened-whole o driver seats is =
    let workers : driver.lead.seat.opening.workers ≡ o.seats =
    ap (λ (d : DriverView). d.lead.seat.opening.workers) is.new in
    record {
      len = is.fresh.len ∙ sym workers;
      here = λ k d below. (is.fresh.each k (get_or seats k d) (slice_get-get_or seats k d below)).at_board;
      all = λ i below.
          once-in-order seats o.seats is.fresh.len
          (λ k v at. ap (λ (p : WorkerSeatView). p.worker) (is.fresh.each k v at).at_post) i
          (subst (λ n. i < n) workers below);
    }

-- what is the same of each of two lists' elements makes equal lists
zip-map : {A B : Type 0} (R : A → A → Type 0) (f : A → B) (xs ys : List A)
    → ((x y : A) → R x y → f y ≡ f x)
    → AllZip R xs ys
    → map f ys ≡ map f xs
zip-map R f [] [] same all = refl
zip-map R f [] (y ∷ ys) same all = absurd all
zip-map R f (x ∷ xs) [] same all = absurd all
zip-map R f (x ∷ xs) (y ∷ ys) same all = λ i. same x y all.0 i ∷ zip-map R f xs ys same all.1 i

zip-length : {A : Type 0} (R : A → A → Type 0) (xs ys : List A) → AllZip R xs ys → length ys ≡ length xs
zip-length R [] [] all = refl
zip-length R [] (y ∷ ys) all = absurd all
zip-length R (x ∷ xs) [] all = absurd all
zip-length R (x ∷ xs) (y ∷ ys) all = ap (λ n. suc n) (zip-length R xs ys all.1)

-- the seats stay the driver's, whatever calls are made of them
pub calls-keep-whole : CallsKeepSeats
calls-keep-whole v w seats after its driver same =
    let board_at : LiveView → List ℕ = λ s. s.station.board in
    let worker_at : LiveView → ℕ = λ s. s.station.post.worker in
    record {
      len = zip-length IsSameSeat seats after same ∙ its.len ∙ sym (ap (λ (z : CoreOpening). z.workers) driver.opening);
      here = subst (λ (b : BoardId). All (λ s. s.station.board ≡ board_numbers b) after) (sym driver.board)
          (all-alike (λ (b : List ℕ). b ≡ board_numbers v.lead.board) board_at board_at after seats
          (zip-map IsSameSeat board_at seats after (λ x y s. s.board) same) its.here);
      all = λ i below.
          let one : ℕ → ℕ = λ n. cond (n == i) 1 0 in
          sum-alike one worker_at worker_at after seats
          (zip-map IsSameSeat worker_at seats after (λ x y s. s.worker) same)
          ∙ its.all i (subst (λ n. i < n) (ap (λ (z : CoreOpening). z.workers) driver.opening) below);
    }
