use Rattle.std.proofs.Common.{◌≡◌, length, map, string_bytes}
use Rattle.like_files.specs.Opened.{opened_as}
use Rattle.like_files.specs.Tries.{Tries}
use Rattle.like_files.proofs.opened.open_requests.Given as goal

abbrev pub invariant-loop-place : goal.invariant-loop-place
invariant-loop-place g l =
    (length l.opened.items ≡ l.place)
    × Tries (g.O.Opener.tries l.initial.opener) (g.O.Opener.tries l.opener)
    (opened_as (map string_bytes l.names) l.opened.items)
