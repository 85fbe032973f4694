-- A like that a station counted in its slice.
use Rattle.std.specs.Prelude.{ℕ, List, refl}
use Rattle.std.specs.Coded.{Coded, code_by, coded_list, coded_ℕ, coded×}

-- its page, and how many looks the station had made before
pub record SlicedLike : Type 0 where
  pub page : ℕ
  pub looks : ℕ

-- a like of this page, after this many looks
abbrev pub sliced_like : ℕ → ℕ → SlicedLike
sliced_like page looks = record { page = page; looks = looks }

-- how the logic stores a list of them
abbrev pub likes_code : Coded (List SlicedLike)
likes_code =
    coded_list (code_by (ℕ × ℕ) (coded× coded_ℕ coded_ℕ) (λ l. (l.page, l.looks)) (λ p. sliced_like p.0 p.1) (λ _. refl))
