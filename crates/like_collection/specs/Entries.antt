-- The requests of the entries of run lists.
use Rattle.std.specs.Prelude.{◌≡◌, ◌⊎◌, ℕ, ◌<◌, ◌≤◌, All, List, length, slice_index}
use Rattle.like_promises.specs.{Collected.entries_of, Types.Ran}

-- the submitter has a request with this number, from 1 to how many it has
pub record IsRequest (sizes : List ℕ) (submitter number : ℕ) : Type 0 where
  pub there : submitter < length sizes
  pub from_one : 1 ≤ number
  pub within : number ≤ slice_index sizes submitter

-- of all requests, in the order of the submitters and their numbers, this is the first that lacks something
pub record IsLeast (Is Lacks : ℕ → ℕ → Type 0) (submitter number : ℕ) : Type 0 where
  pub is : Is submitter number
  pub lacks : Lacks submitter number
  pub least : (s m : ℕ) → Is s m → (s < submitter) ⊎ ((s ≡ submitter) × (m < number)) → ¬ Lacks s m

-- each entry is of a request, and no two are of the same
pub record AreGood (sizes : List ℕ) (entries : List Ran) : Type 0 where
  pub known : All (λ e. IsRequest sizes e.submitter e.number) entries
  pub once : (submitter number : ℕ) → length (entries_of submitter number entries) ≤ 1
