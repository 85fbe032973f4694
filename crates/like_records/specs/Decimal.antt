-- Whole numbers written in decimal.
use Rattle.std.specs.Prelude.{◌≤◌, ℕ, List, length, All}
use Rattle.std.specs.{Char.IsAsciiDigit, Str.Parse.digits_value}

-- the number that the digits of a text write
abbrev pub decimal_value : List ℕ → ℕ
decimal_value text = digits_value 10 text

-- the text has one digit or more, at most this many, and writes a number up to the limit
pub record IsDecimal (digits limit : ℕ) (text : List ℕ) : Type 0 where
  pub some : 1 ≤ length text
  pub few : length text ≤ digits
  pub plain : All IsAsciiDigit text
  pub limited : decimal_value text ≤ limit
