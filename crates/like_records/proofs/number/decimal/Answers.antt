use Rattle.std.proofs.Common.{◌<◌, get_or, length, take, rules, arith, sym}
use Rattle.std.specs.Char.{IsAsciiDigit}
use Rattle.std.proofs.lemmas.List.{length-take-le}
use Rattle.std.proofs.lemmas.List.Elements.{All-more}
use Rattle.like_records.proofs.DecimalDigits.{decimal_value-few, decimal_value-more}
use Rattle.like_records.proofs.number.decimal.Goals as goal

pub overflow_mul-value : goal.overflow_mul-value
overflow_mul-value c =
    let size = length-take-le c.loop-byte.byte-index c.args.text.now (omega arith) in
    let below = decimal_value-few (take c.loop-byte.byte-index c.args.text.now) c.loop-byte.invariant.plain
    (omega arith) in
    let value = c.loop-byte.invariant.value in
    omega arith

pub overflow_add-value : goal.overflow_add-value
overflow_add-value c =
    let size = length-take-le c.loop-byte.byte-index c.args.text.now (omega arith) in
    let below = decimal_value-few (take c.loop-byte.byte-index c.args.text.now) c.loop-byte.invariant.plain
    (omega arith) in
    let value = c.loop-byte.invariant.value in
    let digit : IsAsciiDigit (get_or c.args.text.now c.loop-byte.byte-index 0) = search rules in
    omega (arith, digit, c.from.ensures)

pub loop-byte-preserved : goal.loop-byte-preserved
loop-byte-preserved c =
    let within : c.loop-byte.byte-index < length c.args.text.now = omega arith in
    let digit : IsAsciiDigit (get_or c.args.text.now c.loop-byte.byte-index 0) = search rules in
    let more = decimal_value-more c.args.text.now c.loop-byte.byte-index within digit in
    record {
      plain = All-more IsAsciiDigit c.args.text.now c.loop-byte.byte-index 0 within c.loop-byte.invariant.plain digit;
      value = rw (c.loop-byte.invariant.value, c.from.ensures) (sym more);
    }
