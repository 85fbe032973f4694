-- What the seats of a service tell of the workers' seats that they give back.
use Rattle.std.proofs.Common.{◌≡◌, ℕ, ◌+◌, ◌==◌, ◌<◌, cond, List, [], ◌∷◌, map, slice_index, ap, sym, ◌∙◌, subst, refl, arith}
use Rattle.std.specs.List.{All, sum_by}
use Rattle.std.proofs.lemmas.List.{get_or-map, length-map}
use Rattle.std.proofs.lemmas.List.Elements.{All-map, All-tail}
use Rattle.std.proofs.lemmas.List.Sums.{sum_by-cons}
use Rattle.like_board.specs.declared.worker_seat.WorkerSeat.{WorkerSeat}
use Rattle.like_board.specs.Closed.{count_with}
use Rattle.like_board.specs.Seats.{AreAll, board_numbers, seat_board, seat_view}
use Rattle.like_core.specs.Post.{additions_of}
use Rattle.like_core.specs.declared.view.WorkerSeatView.{WorkerSeatView}
use Rattle.like_core.specs.views.Posts.{last_count}
use Rattle.like_board.proofs.BoardNumbers.{same_board}
use Rattle.like_live.specs.Driver.{DriverView}
use Rattle.like_live.specs.LiveView.{LiveView, tally}
use Rattle.like_live.specs.Service.{AreBackFrom, AreGone, AreItsSeats, HasMergedOnceGone}
use Rattle.like_core.proofs.Lists.{sum-of-map}

-- two lists that stand for the same have equal sums
pub sum-alike : {A B C : Type 0} (f : C → ℕ) (p : A → C) (q : B → C) (xs : List A) (ys : List B)
    → map p xs ≡ map q ys
    → sum_by (λ x. f (p x)) xs ≡ sum_by (λ y. f (q y)) ys
sum-alike f p q xs ys same = sym (sum-of-map f p xs) ∙ ap (sum_by f) same ∙ sum-of-map f q ys

-- equal numbers have equal sums
pub sum-equal : {A : Type 0} (f g : A → ℕ) (xs : List A) → All (λ x. f x ≡ g x) xs → sum_by f xs ≡ sum_by g xs
sum-equal f g [] all = refl
sum-equal f g (x ∷ xs) all =
    sum_by-cons f x xs ∙ (λ i. all 0 x (omega arith) i + sum-equal f g xs (All-tail (λ y. f y ≡ g y) x xs all) i)
    ∙ sym (sum_by-cons g x xs)

-- what is true of all that a list stands for is true of what each element does
pub all-of-map : {A B : Type 0} (P : B → Type 0) (f : A → B) (xs : List A) → All P (map f xs) → All (λ x. P (f x)) xs
all-of-map P f xs all = λ k d below.
    subst P (get_or-map f xs k d (f d) below) (all k (f d) (subst (λ n. k < n) (sym (length-map xs f)) below))

-- what is true of all that one list stands for is true of all that the other does
pub all-alike : {A B C : Type 0} (P : C → Type 0) (p : A → C) (q : B → C) (xs : List A) (ys : List B)
    → map p xs ≡ map q ys
    → All (λ y. P (q y)) ys
    → All (λ x. P (p x)) xs
all-alike P p q xs ys same all = all-of-map P p xs (subst (All P) (sym same) (All-map P q ys all))

abbrev pub post_at : LiveView → WorkerSeatView
post_at s = s.station.post

-- the seats that were given back are those of the driver's board
pub back-here : (v : DriverView) (seats : List LiveView) (back : List WorkerSeat)
    → AreBackFrom seats back
    → AreItsSeats v seats
    → All (λ seat. seat_board seat ≡ v.lead.board) back
back-here v seats back same its = λ k d below.
    same_board _ _
    (all-alike (λ (numbers : List ℕ). numbers ≡ board_numbers v.lead.board) (λ seat. board_numbers (seat_board seat))
    (λ s. s.station.board) back seats same.boards its.here k d below)

-- each of them once
pub back-all : (v : DriverView) (seats : List LiveView) (back : List WorkerSeat)
    → AreBackFrom seats back
    → AreItsSeats v seats
    → AreAll v.lead.seat.opening.workers back
back-all v seats back same its i there =
    let one : WorkerSeatView → ℕ = λ post. cond (post.worker == i) 1 0 in
    sum-alike one seat_view post_at back seats same.views ∙ its.all i there

-- of seats that are gone, each page's last count is its first count and the tallies
pub last-total : (v : DriverView) (seats : List LiveView) (back : List WorkerSeat) (page : ℕ)
    → AreBackFrom seats back
    → All HasMergedOnceGone seats
    → AreGone seats
    → count_with v.lead.seat back page ≡ slice_index v.lead.seat.opening.counts page + sum_by (λ s. tally s page) seats
last-total v seats back page same merged gone =
    ap (λ (posts : List WorkerSeatView). last_count (slice_index v.lead.seat.opening.counts) posts page) same.views
    ∙ ap (λ n. slice_index v.lead.seat.opening.counts page + n)
    (sum-of-map (λ (post : WorkerSeatView). additions_of post page) post_at seats
    ∙ sym (sum-equal (λ s. tally s page) (λ (s : LiveView). additions_of s.station.post page) seats
    (λ k d below. merged k d below (gone k d below) page)))
