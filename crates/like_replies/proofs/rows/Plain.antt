-- A number needs no quotes.
use Rattle.std.proofs.Common.{◌≡◌, ℕ, ◌+◌, ◌<◌, ◌≤◌, ◌^◌, ◌%◌, List, [], ◌∷◌, ◌++◌, false, refl, arith}
use Rattle.std.specs.Prelude.{decimal}
use Rattle.std.proofs.lemmas.Bool.{ne_eqb}
use Rattle.std.proofs.lemmas.Fmt.{decimal_by_steps}
use Rattle.std.proofs.lemmas.List.Folds.{list_any-append}
use Rattle.csv.specs.Writing.{default_writer, field_text, needs_byte, needs_quotes}

-- a digit needs no quotes
needs_byte-digit : (d : ℕ) → needs_byte default_writer (48 + d) ≡ false
needs_byte-digit d =
    rw (
      ne_eqb (48 + d) 44 (λ e. omega (arith, e)),
      ne_eqb (48 + d) 34 (λ e. omega (arith, e)),
      ne_eqb (48 + d) 13 (λ e. omega (arith, e)),
      ne_eqb (48 + d) 10 (λ e. omega (arith, e)),
    ) refl

-- a number needs no quotes
needs_quotes-decimal : (n : ℕ) → n < 2 ^ 64 → needs_quotes default_writer (decimal n) ≡ false
needs_quotes-decimal n fits =
    decimal_by_steps (λ m text. needs_quotes default_writer text ≡ false) one more n fits where
      one : (m : ℕ) → m < 10 → needs_quotes default_writer ((48 + m) ∷ []) ≡ false
      one m low = rw (needs_byte-digit m) refl

      more : (m : ℕ) (text : List ℕ) → 10 ≤ m → needs_quotes default_writer text ≡ false
          → needs_quotes default_writer (text ++ (48 + m % 10) ∷ []) ≡ false
      more m text high plain =
          rw (list_any-append (needs_byte default_writer) text ((48 + m % 10) ∷ []), plain, needs_byte-digit (m % 10))
          refl

-- and it is written as it is
pub field_text-decimal : (n : ℕ) → n < 2 ^ 64 → field_text default_writer (decimal n) ≡ decimal n
field_text-decimal n fits = rw (needs_quotes-decimal n fits) refl
