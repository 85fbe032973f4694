-- How CSV's word on a field at a place agrees with std's.
use Rattle.std.proofs.Common.{◌≡◌, ℕ, zero, suc, List, [], ◌∷◌, refl}
use Rattle.std.specs.List.{slice_get}
use Rattle.csv.specs.Records.{field_at}

-- the field at a place is the element there
pub field_at_lem : (fields : List (List ℕ)) (index : ℕ) → field_at fields index ≡ slice_get fields index
unfolding field_at
field_at_lem [] zero = refl
field_at_lem [] (suc index) = refl
field_at_lem (f ∷ fields) zero = refl
field_at_lem (f ∷ fields) (suc index) = field_at_lem fields index
