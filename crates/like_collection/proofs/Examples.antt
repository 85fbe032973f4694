-- The entries of a request, and the answer of one: numbers count from 1.
use Rattle.std.proofs.Common.{◌≡◌, ℕ, [], ◌∷◌, None, Some, false, refl}
use Rattle.like_promises.specs.declared.log.Ran.{Ran}
use Rattle.like_promises.specs.declared.reply.Reply.TheVariants.{Liked}
use Rattle.like_promises.specs.Collected.{answer_of, entries_of}
use Rattle.like_promises.specs.Workload.{nth}

-- a like by a submitter, as it ran
abbrev ran : ℕ → ℕ → Ran
ran submitter number = record { phase = 1; submitter = submitter; number = number; stashed = false; reply = Liked }

-- the entries of a request
of_request : entries_of 1 2 (ran 0 2 ∷ ran 1 2 ∷ ran 1 1 ∷ ran 1 2 ∷ []) ≡ ran 1 2 ∷ ran 1 2 ∷ []
of_request = refl

-- numbers count from 1
of_number_1 : nth (answer_of (ran 0 1) ∷ []) 1 ≡ Some (answer_of (ran 0 1))
of_number_1 = refl

of_number_0 : nth (answer_of (ran 0 1) ∷ []) 0 ≡ None
of_number_0 = refl
