use Rattle.std.proofs.Common.{◌≡◌, take}
use Rattle.std.specs.Prelude.{All}
use Rattle.std.specs.Char.{IsAsciiDigit}
use Rattle.like_records.specs.Decimal.{decimal_value}
use Rattle.like_records.proofs.number.decimal.Given as goal

abbrev pub invariant-loop-byte : goal.invariant-loop-byte
invariant-loop-byte l = record {
  plain : All IsAsciiDigit (take l.byte-index l.text);
  value : l.value ≡ decimal_value (take l.byte-index l.text);
}
