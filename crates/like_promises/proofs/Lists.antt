-- Elements of lists by their places.
use Rattle.std.proofs.Common.{◌≡◌, ℕ, zero, suc, ◌-◌, ◌<◌, List, [], ◌∷◌, ◌++◌, All, length, Some, refl, arith}
use Rattle.std.proofs.lemmas.List.{length-append}
use Rattle.std.proofs.lemmas.List.Elements.{All-append}
use Rattle.std.proofs.lemmas.List.Kept.{AllPairs-cons}
use Rattle.std.specs.List.{AllPairs, AllZip, slice_get}
use Rattle.like_promises.specs.Likes.{last_in}

-- an element of the first list keeps its place where another list follows
pub slice_get-before : {X : Type 0} (xs ys : List X) (i : ℕ) → i < length xs → slice_get (xs ++ ys) i ≡ slice_get xs i
slice_get-before [] ys i h = absurd (omega arith)
slice_get-before (x ∷ xs) ys zero h = refl
slice_get-before (x ∷ xs) ys (suc i) h = slice_get-before xs ys i (omega arith)

-- an element that is put at the end stands at the place that was the length
pub slice_get-at_end : {X : Type 0} (xs : List X) (x : X) → slice_get (xs ++ x ∷ []) (length xs) ≡ Some x
slice_get-at_end [] x = refl
slice_get-at_end (y ∷ xs) x = slice_get-at_end xs x

-- an element that is put at the end is the last one
pub last_in-push : {X : Type 0} (xs : List X) (x : X) → last_in (xs ++ x ∷ []) ≡ Some x
last_in-push xs x =
    let n : length (xs ++ x ∷ []) - 1 ≡ length xs = simp length-append (omega arith) in
    rw n (slice_get-at_end xs x)

-- what holds of all pairs of each of two lists, and across, holds of all pairs of one put after the other
pub pairs-append : {X : Type 0} (R : X → X → Type 0) (xs ys : List X)
    → AllPairs R xs
    → AllPairs R ys
    → All (λ x. All (R x) ys) xs
    → AllPairs R (xs ++ ys)
pairs-append R [] ys first second across = second
pairs-append R (x ∷ xs) ys first second across =
    AllPairs-cons R x (xs ++ ys)
    (All-append (R x) xs ys (λ j d inside. first zero (suc j) d (omega arith) (omega arith)) (across zero x (omega arith)))
    (pairs-append R xs ys (λ i j d lt inside. first (suc i) (suc j) d (omega arith) (omega arith)) second
    (λ k d inside. across (suc k) d (omega arith)))

-- one more pair of lists that match place by place
pub AllZip-more : {A B : Type 0} (R : A → B → Type 0) (xs : List A) (ys : List B) (x : A) (y : B)
    → AllZip R xs ys
    → R x y
    → AllZip R (xs ++ x ∷ []) (ys ++ y ∷ [])
AllZip-more R [] [] x y h last = (last, tt)
AllZip-more R [] (b ∷ bs) x y h last = absurd h
AllZip-more R (a ∷ more) [] x y h last = absurd h
AllZip-more R (a ∷ more) (b ∷ bs) x y h last = (h.0, AllZip-more R more bs x y h.1 last)
