use Rattle.std.proofs.Common.{◌≡◌, map, string_bytes, take}
use Rattle.like_command.proofs.matches.texts.Given as goal

abbrev pub invariant-loop-text : goal.invariant-loop-text
invariant-loop-text l = map string_bytes l.copies.items ≡ map (λ text. text.now) (take l.text-index l.texts)
