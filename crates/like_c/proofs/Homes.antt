-- Handles whose homes are alike.
use Rattle.std.proofs.Common.{◌≡◌, ℕ, ◌<◌, List, get_or, length, map, take, ap, sym, subst, ◌∙◌}
use Rattle.std.specs.List.{All}
use Rattle.std.specs.Option.{option_map}
use Rattle.std.proofs.lemmas.List.{get_or-map, length-map}
use Rattle.std.proofs.lemmas.Option.{slice_get-get_or}
use Rattle.std.proofs.lemmas.Simd.{map-map}
use Rattle.like_c.specs.Closes.{HoldsGone, PreventEnd, PreventsEnd, home_of, is_empty, is_other, is_there, live_in, one_prevents}
use Rattle.like_c.specs.declared.opened.BoxedSeat.{BoxedSeat}
use Rattle.like_c.specs.declared.opened.Opened.{Opened}
use Rattle.like_c.specs.declared.seat_handle.SeatHandle.{SeatHandle}

-- they are as many
pub as-many : (xs ys : List SeatHandle) → map home_of xs ≡ map home_of ys → length xs ≡ length ys
as-many xs ys same = sym (length-map xs home_of) ∙ ap length same ∙ length-map ys home_of

-- each holds the same
home-at : (xs ys : List SeatHandle) (i : ℕ) (d e : SeatHandle) → map home_of xs ≡ map home_of ys → i < length xs
    → (get_or xs i d).home ≡ (get_or ys i e).home
home-at xs ys i d e same below =
    sym (get_or-map home_of xs i d d.home below)
    ∙ ap (λ homes. get_or homes i d.home) same
    ∙ get_or-map home_of ys i e d.home (subst (λ n. i < n) (as-many xs ys same) below)

-- they hold the same seats
pub lives-on : (xs ys : List SeatHandle) → map home_of xs ≡ map home_of ys → map live_in xs ≡ map live_in ys
lives-on xs ys same =
    let live = option_map (λ (s : BoxedSeat). s.live) in
    sym (map-map live home_of xs) ∙ ap (map live) same ∙ map-map live home_of ys

-- a seat that is gone is gone in the other's handle
pub gone-at : (xs ys : List SeatHandle) (i : ℕ) (d e : SeatHandle) → map home_of xs ≡ map home_of ys → i < length xs
    → HoldsGone (get_or ys i e) → HoldsGone (get_or xs i d)
gone-at xs ys i d e same below gone = record {
  boxed = gone.boxed;
  held = home-at xs ys i d e same below ∙ gone.held;
  gone = gone.gone;
}

prevents-too : (h like : SeatHandle) (why : ℕ) → like.home ≡ h.home → PreventsEnd h why → PreventsEnd like why
prevents-too h like why same (is_empty none is) = is_empty (same ∙ none) is
prevents-too h like why same (is_there b held there is) = is_there b (same ∙ held) there is
prevents-too h like why same (is_other is) = is_other is

-- what prevents the end in one's handle prevents it in the other's
pub prevents-at : (o : Opened) (xs ys : List SeatHandle) (i : ℕ) (d e : SeatHandle) (why : ℕ)
    → map home_of xs ≡ map home_of ys → i < length xs → All HoldsGone (take i xs) → PreventsEnd (get_or ys i e) why
    → PreventEnd o xs why
prevents-at o xs ys i d e why same below gone prevents =
    one_prevents i (get_or xs i d) gone (slice_get-get_or xs i d below)
    (prevents-too (get_or ys i e) (get_or xs i d) why (home-at xs ys i d e same below) prevents)
