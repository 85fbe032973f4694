-- Why entries of run lists give not one answer for each request.
use Rattle.std.specs.Prelude.{◌≡◌, ◌≢◌, ℕ, List, [], ◌∷◌, ◌++◌, ⊤}
use Rattle.like_promises.specs.{Collected.entries_of, Types.Ran}
use Rattle.like_collection.specs.Entries.{AreGood, IsLeast, IsRequest}
use Rattle.like_collection.specs.declared.collect_fault.CollectFault.TheVariants.{Double, Memory, Missing, Stranger}
use Rattle.like_collection.specs.declared.collect_fault.CollectFault.{CollectFault}

-- the first bad entry has this submitter and number: the entries before it are good, and with them the fact makes it bad
pub record IsFirstBadEntry (sizes : List ℕ) (entries : List Ran) (submitter number : ℕ)
    (Bad : List Ran → Type 0) : Type 0 where
  pub before : List Ran
  pub entry : Ran
  pub after : List Ran
  pub parts : entries ≡ before ++ entry ∷ after
  pub is_submitter : entry.submitter ≡ submitter
  pub is_number : entry.number ≡ number
  pub good : AreGood sizes before
  pub bad : Bad before

-- the first entry that is bad is of no request, or has the same request as an earlier one
abbrev pub IsEntryFault : List ℕ → List Ran → CollectFault → Type 0
IsEntryFault sizes entries (Stranger submitter number) =
    IsFirstBadEntry sizes entries submitter number (λ before. ¬ IsRequest sizes submitter number)
IsEntryFault sizes entries (Double submitter number) =
    IsFirstBadEntry sizes entries submitter number
    (λ before. IsRequest sizes submitter number × (entries_of submitter number before ≢ []))
IsEntryFault sizes entries fault = ⊥

-- why there is not one answer for each request: the first bad entry, or else the least request that has no entry
abbrev pub IsCollectFault : List ℕ → List Ran → CollectFault → Type 0
IsCollectFault sizes entries (Missing submitter number) =
    AreGood sizes entries × IsLeast (IsRequest sizes) (λ s m. entries_of s m entries ≡ []) submitter number
IsCollectFault sizes entries Memory = ⊤
IsCollectFault sizes entries fault = IsEntryFault sizes entries fault
