-- Seats and their deeds by their places in a list.
use Rattle.std.proofs.Common.{◌≡◌, ℕ, zero, suc, ◌+◌, ◌≤◌, ◌<◌, ◌⊎◌, inl, inr, cond, ◌==◌, List, [], ◌∷◌, map, length, get_or, slice_get, Some, None, refl, ap, ap₂, ◌∙◌, subst, arith, ne_eqb}
use Rattle.std.specs.List.{All, count_by}
use Rattle.std.proofs.lemmas.List.Elements.{All-cons, All-head, All-nil, All-tail}
use Rattle.std.proofs.lemmas.List.Sums.{sum_by-cons}
use Rattle.like_core.specs.declared.view.WorkerSeatView.{WorkerSeatView}
use Rattle.like_serial.proofs.Seen.{not_some, some_is}
use Rattle.like_serial.proofs.Weigh.{weigh}
use Rattle.like_live.specs.Service.{posts_at}
use Rattle.like_live.specs.Deeds.{Deed}
use Rattle.like_live.specs.StrictService.{SeatHistory, deeds_in}

-- what is true of all that a list stands for is true of what its element at a place does
pub at_all : {A B : Type 0} (P : B → Type 0) (f : A → B) (xs : List A) (i : ℕ) (x : A) → All P (map f xs)
    → slice_get xs i ≡ Some x → P (f x)
at_all P f [] i x all at = absurd (not_some x at)
at_all P f (y ∷ xs) zero x all at = subst (λ z. P (f z)) (some_is y x at) (All-head P (f y) (map f xs) all)
at_all P f (y ∷ xs) (suc i) x all at = at_all P f xs i x (All-tail P (f y) (map f xs) all) at

pub at_map : {A B : Type 0} (f : A → B) (xs : List A) (i : ℕ) (x : A) → slice_get xs i ≡ Some x
    → slice_get (map f xs) i ≡ Some (f x)
at_map f [] i x at = absurd (not_some x at)
at_map f (y ∷ xs) zero x at = ap (λ z. Some (f z)) (some_is y x at)
at_map f (y ∷ xs) (suc i) x at = at_map f xs i x at

-- a sum over a list, place by place
pub alike_at : {A : Type 0} (f g : A → ℕ) (xs : List A) → ((k : ℕ) (x : A) → slice_get xs k ≡ Some x → f x ≡ g x)
    → weigh f xs ≡ weigh g xs
alike_at f g [] each = refl
alike_at f g (x ∷ xs) each =
    ap₂ (λ a b. a + b) (each 0 x refl) (alike_at f g xs (λ k y at. each (suc k) y at))

-- a list's element at a place, if it has one
pub place : {A : Type 0} (xs : List A) (i : ℕ) → ((x : A) × (slice_get xs i ≡ Some x)) ⊎ (length xs ≤ i)
place [] i = inr (omega arith)
place (x ∷ xs) zero = inl (x, refl)
place (x ∷ xs) (suc i) = elim (place xs i) [ inl there ↦ inl there | inr past ↦ inr (omega (arith, past)) ]

-- the deeds at a place
abbrev pub deeds_at : List SeatHistory → ℕ → List Deed
deeds_at hs i = get_or (map deeds_in hs) i []

pub deeds_there : (hs : List SeatHistory) (i : ℕ) (h : SeatHistory) → slice_get hs i ≡ Some h → deeds_at hs i ≡ deeds_in h
deeds_there [] i h at = absurd (not_some h at)
deeds_there (g ∷ hs) zero h at = ap deeds_in (some_is g h at)
deeds_there (g ∷ hs) (suc i) h at = deeds_there hs i h at

pub deeds_past : (hs : List SeatHistory) (i : ℕ) → length hs ≤ i → deeds_at hs i ≡ []
deeds_past [] i past = refl
deeds_past (g ∷ hs) zero past = absurd (omega (arith, past))
deeds_past (g ∷ hs) (suc i) past = deeds_past hs i (omega (arith, past))

-- none of the seats has a number past them all
pub none_past : (hs : List SeatHistory) (from i : ℕ)
    → ((k : ℕ) (h : SeatHistory) → slice_get hs k ≡ Some h → h.last.station.post.worker ≡ from + k)
    → from + length hs ≤ i
    → count_by (λ p. p.worker == i) (posts_at (map (λ (h : SeatHistory). h.last) hs)) ≡ 0
none_past [] from i each past = refl
none_past (h ∷ hs) from i each past =
    let here = each 0 h refl in
    let rest = none_past hs (suc from) i
    (λ k g at. let e = each (suc k) g at in omega (arith, e)) (omega (arith, past)) in
    let first : cond {A = ℕ} (h.last.station.post.worker == i) 1 0 ≡ 0 =
    ap (λ b. cond b 1 0) (ne_eqb h.last.station.post.worker i (λ e. absurd (omega (arith, e, here, past)))) in
    sum_by-cons (λ (p : WorkerSeatView). cond (p.worker == i) 1 0) h.last.station.post
    (posts_at (map (λ (g : SeatHistory). g.last) hs))
    ∙ omega (arith, first, rest)

-- past the end of a list there is no element
pub none_at : {A : Type 0} (xs : List A) (k : ℕ) → length xs ≤ k → slice_get xs k ≡ None
none_at [] k past = refl
none_at (x ∷ xs) zero past = absurd (omega (arith, past))
none_at (x ∷ xs) (suc k) past = none_at xs k (omega (arith, past))

-- and there is one only before it
pub within : {A : Type 0} (xs : List A) (k : ℕ) (x : A) → slice_get xs k ≡ Some x → k < length xs
within [] k x at = absurd (not_some x at)
within (y ∷ xs) zero x at = omega arith
within (y ∷ xs) (suc k) x at = let more = within xs k x at in omega arith

-- what is true of the element at each place is true of all
pub all_of_places : {A : Type 0} (P : A → Type 0) (xs : List A) → ((k : ℕ) (x : A) → slice_get xs k ≡ Some x → P x)
    → All P xs
all_of_places P [] each = All-nil P
all_of_places P (x ∷ xs) each = All-cons P x xs (each 0 x refl) (all_of_places P xs (λ k y at. each (suc k) y at))
