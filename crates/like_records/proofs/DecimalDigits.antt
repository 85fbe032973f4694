-- How the number that digits write grows with each of them.
use Rattle.std.proofs.Common.{◌≡◌, ◌<◌, ◌≤◌, ◌+◌, ◌-◌, ◌*◌, ◌^◌, ℕ, List, get_or, length, take, arith}
use Rattle.std.specs.Prelude.{All}
use Rattle.std.specs.Char.{IsAsciiDigit}
use Rattle.std.proofs.lemmas.Int.Digits.{digits_value_more}
use Rattle.std.proofs.lemmas.List.Elements.{All-cons, All-head, All-nil, All-tail}
use Rattle.std.proofs.lemmas.Str.{digit_value_digit}
use Rattle.std.proofs.lemmas.Str.Parse.{IsDigitsTest, digits_value_short, numerals_by_value}
use Rattle.like_records.specs.Decimal.{decimal_value}

-- texts of ASCII digits are std's numerals
all_digits : IsDigitsTest (All IsAsciiDigit)
all_digits = record {
  empty = All-nil IsAsciiDigit;
  parts = λ c cs plain. (All-head IsAsciiDigit c cs plain, All-tail IsAsciiDigit c cs plain);
  more = λ c cs first plain. All-cons IsAsciiDigit c cs first plain;
}

-- eighteen digits write a number below ten to the eighteenth
pub decimal_value-few : (text : List ℕ) → All IsAsciiDigit text → length text ≤ 18 → decimal_value text < 10 ^ 18
decimal_value-few text plain few =
    digits_value_short (numerals_by_value (All IsAsciiDigit) all_digits) text 18 plain few

-- one more digit is worth itself, and each digit before it ten times as much
pub decimal_value-more : (text : List ℕ) (i : ℕ) → i < length text → IsAsciiDigit (get_or text i 0)
    → decimal_value (take (i + 1) text) ≡ 10 * decimal_value (take i text) + (get_or text i 0 - 48)
decimal_value-more text i within digit =
    let more = digits_value_more 10 text i within in
    let value = digit_value_digit (get_or text i 0) digit in
    omega arith
