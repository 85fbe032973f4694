use Rattle.std.proofs.Common.{◌≡◌, map, take}
use Rattle.like_records.proofs.records.Records.fields_are.Given as goal

abbrev pub invariant-loop-index : goal.invariant-loop-index
invariant-loop-index g l = take l.index l.self.fields ≡ take l.index (map (λ text. text.now) l.texts)
