use Rattle.std.proofs.Common.{◌≡◌, ℕ, List, Ok, map, take}
use Rattle.std.specs.List.{flat_map}
use Rattle.std.specs.Io.KnownBytes.{Appends}
use Rattle.like_replies.proofs.report.sheets.write_all.Given as goal

abbrev pub invariant-loop-sheet : goal.invariant-loop-sheet
invariant-loop-sheet g l = (texts : List (List ℕ)) × (take l.sheet-index l.sheets ≡ map Ok texts)
    × Appends (g.W.Output.held l.initial.out) (g.W.Output.held l.out) (flat_map (λ text. text) texts)
    × (g.W.Output.has_failed l.out → g.W.Output.has_failed l.initial.out)
