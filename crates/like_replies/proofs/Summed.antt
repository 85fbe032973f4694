-- How many replies a report has of one answer, or of refused requests: no more than there are.
use Rattle.std.proofs.Common.{ℕ, ◌+◌, ◌<◌, ◌≤◌, ◌^◌, Bool, true, false, cond, List, [], ◌∷◌, length, arith}
use Rattle.std.specs.List.{count_by, fold}
use Rattle.std.specs.Str.{bytes_eq}
use Rattle.like_promises.specs.declared.reply.Reply.{Reply}
use Rattle.like_promises.specs.declared.replies.Replies.{Replies}
use Rattle.like_replies.specs.Rows.{answer_word}
use Rattle.like_replies.specs.Summary.{answered, count_replies, is_refusal, requests_in}

-- a sum of lesser numbers is not greater
sum-≤ : {X : Type 0} (f g : X → ℕ) (xs : List X) (a b : ℕ) → ((x : X) → f x ≤ g x) → a ≤ b
    → fold (λ s x. s + f x) a xs ≤ fold (λ s x. s + g x) b xs
sum-≤ f g [] a b each h = h
sum-≤ f g (x ∷ xs) a b each h = sum-≤ f g xs (a + f x) (b + g x) each (omega (arith, each x, h))

bit : (b : Bool) → cond b 1 0 ≤ 1
bit true = omega arith
bit false = omega arith

count-≤ : {X : Type 0} (p : X → Bool) (xs : List X) (a : ℕ) → fold (λ s x. s + cond (p x) 1 0) a xs ≤ a + length xs
count-≤ p [] a = omega arith
count-≤ p (x ∷ xs) a = omega (arith, count-≤ p xs (a + cond (p x) 1 0), bit (p x))

count-fits : (test : Reply → Bool) (replies : Replies) → requests_in replies < 2 ^ 64
    → count_replies test replies < 2 ^ 64
count-fits test replies few =
    omega (
      arith,
      few,
      sum-≤ (λ row. count_by (λ a. test a.reply) row.items) (λ row. length row.items) replies.rows.items 0 0
          (λ row. omega (arith, count-≤ (λ a. test a.reply) row.items 0)) (omega arith),
    )

pub answered-fits : (word : List ℕ) (replies : Replies) → requests_in replies < 2 ^ 64 → answered word replies < 2 ^ 64
answered-fits word replies few = count-fits (λ reply. bytes_eq (answer_word reply) word) replies few

pub refused-fits : (replies : Replies) → requests_in replies < 2 ^ 64 → count_replies is_refusal replies < 2 ^ 64
refused-fits replies few = count-fits is_refusal replies few
