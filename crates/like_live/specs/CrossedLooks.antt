-- An example: two seats like a page each, and then each looks at the page that the other liked.
use Rattle.std.specs.Prelude.{◌≡◌, ℕ, ◌+◌, List, [], ◌∷◌, ◌++◌, Some}
use Rattle.like_live.specs.Deeds.{Deed, counted, deed, showed}
use Rattle.like_live.specs.{StrictService.IsStrictService, Types.Opening}

-- two seats, and two pages that nobody has liked
pub record IsForTwo (o : Opening) : Type 0 where
  pub seats : o.seats ≡ 2
  pub counts : o.counts.items ≡ 0 ∷ 0 ∷ []
  pub lasts : o.lasts.items ≡ []

-- a user likes a page, and then looks at the other, which shows this count. The two have this number and the next
abbrev pub like_and_look : (number user liked other count : ℕ) → List Deed
like_and_look number user liked other count =
    deed number 0 user liked counted
    ∷ deed (number + 1) 0 user other (showed (record { last = Some liked; count = count })) ∷ []

-- if both looks show 0, no one thread has done this, whatever their numbers. If the second shows 1, one has: user 0
-- comes first. And if user 0 comes first by the numbers, none has done it the other way round
pub record CrossedLooksAreNotSerial : Type 0 where
  pub crossed : (o : Opening) (n m : ℕ) (serial : List Deed) → IsForTwo o
      → ¬ IsStrictService o (like_and_look n 0 0 1 0 ∷ like_and_look m 1 1 0 0 ∷ []) serial
  pub ordered : (o : Opening) → IsForTwo o
      → IsStrictService o (like_and_look 0 0 0 1 0 ∷ like_and_look 2 1 1 0 1 ∷ [])
      (like_and_look 0 0 0 1 0 ++ like_and_look 2 1 1 0 1)
  pub in_time : (o : Opening) (serial : List Deed) → IsForTwo o
      → ¬ IsStrictService o (like_and_look 0 0 0 1 1 ∷ like_and_look 2 1 1 0 0 ∷ []) serial
