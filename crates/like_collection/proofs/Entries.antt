-- The entries of a request.
use Rattle.std.proofs.Common.{ℕ, ◌==◌, Bool}
use Rattle.std.specs.Prelude.{◌&&◌}
use Rattle.like_promises.specs.declared.log.Ran.{Ran}

-- whether an entry is of this submitter's request with this number
abbrev pub is_of : ℕ → ℕ → Ran → Bool
is_of submitter number e = (e.submitter == submitter) && (e.number == number)
