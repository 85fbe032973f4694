-- What an opener was asked to open.
use Rattle.std.specs.Prelude.{◌≡◌, ◌++◌, ⊤, ℕ, List, Option, None, Some}

-- a name that an opener was asked for, and what reads its file if that could be opened
pub record Try (R : Type 0) : Type 0 where
  pub name : List ℕ
  pub opened : Option R

-- known tries grew by these
abbrev pub Tries : {R : Type 0} → Option (List (Try R)) → Option (List (Try R)) → List (Try R) → Type 0
Tries None new more = ⊤
Tries (Some done) None more = ⊥
Tries (Some done) (Some all) more = all ≡ done ++ more
