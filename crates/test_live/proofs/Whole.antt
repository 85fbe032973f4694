-- All seats of a service, in the other order.
use Rattle.std.proofs.Common.{◌≡◌, ℕ, ◌==◌, cond, List, [], ◌∷◌, ◌++◌, length, Option, Some, ◌∙◌, arith}
use Rattle.std.specs.Option.{option_to_list}
use Rattle.std.proofs.lemmas.List.{nil_from_length}
use Rattle.std.proofs.lemmas.List.Elements.{All-cons, All-head, All-nil, All-tail}
use Rattle.std.proofs.lemmas.List.Sums.{sum_by-cons}
use Rattle.like_board.specs.Seats.{board_numbers}
use Rattle.like_live.specs.Driver.{DriverView, IsSameDriver}
use Rattle.like_live.specs.LiveView.{IsSameSeat, LiveView}
use Rattle.like_live.specs.Service.{AreItsSeats}
use Rattle.like_live.proofs.Newly.{calls-keep-whole}

turned : (v : DriverView) (a b : LiveView) → AreItsSeats v (a ∷ b ∷ []) → AreItsSeats v (b ∷ a ∷ [])
turned v a b its =
    let Here : LiveView → Type 0 = λ s. s.station.board ≡ board_numbers v.lead.board in
    record {
      len = its.len;
      here = All-cons Here b (a ∷ []) (All-head Here b [] (All-tail Here a (b ∷ []) its.here))
          (All-cons Here a [] (All-head Here a (b ∷ []) its.here) (All-nil Here));
      all = λ i below.
          let f : LiveView → ℕ = λ s. cond (s.station.post.worker == i) 1 0 in
          let one = its.all i below in
          omega (arith, sum_by-cons f a (b ∷ []), sum_by-cons f b [], sum_by-cons f b (a ∷ []), sum_by-cons f a []);
    }

-- a driver and its two seats, after calls of each, in the other order
pub turned-after : (v w : DriverView) (a b c d : LiveView)
    → AreItsSeats v (a ∷ b ∷ [])
    → IsSameDriver v w
    → IsSameSeat a c
    → IsSameSeat b d
    → AreItsSeats w (d ∷ c ∷ [])
turned-after v w a b c d its driver first second =
    turned w c d (calls-keep-whole v w (a ∷ b ∷ []) (c ∷ d ∷ []) its driver (first, (second, tt)))

-- two that were taken off the end of a list were all of it
pub two-of : (all one none : List LiveView) (p q : Option LiveView) (first second : LiveView)
    → all ≡ one ++ option_to_list p
    → one ≡ none ++ option_to_list q
    → p ≡ Some second → q ≡ Some first → length none ≡ 0 → all ≡ first ∷ second ∷ []
two-of all one none p q first second a b is-p is-q empty =
    a ∙ (λ i. b i ++ option_to_list (is-p i))
    ∙ (λ i. (nil_from_length none empty i ++ option_to_list (is-q i)) ++ second ∷ [])

-- two that were put at the end of an empty list are all of it
pub back-of : (none one all : List LiveView) (first second : LiveView)
    → length none ≡ 0 → one ≡ none ++ second ∷ [] → all ≡ one ++ first ∷ [] → all ≡ second ∷ first ∷ []
back-of none one all first second empty a b =
    b ∙ (λ i. a i ++ first ∷ []) ∙ (λ i. (nil_from_length none empty i ++ second ∷ []) ++ first ∷ [])
