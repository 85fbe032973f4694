-- What a worker's additions are of: its likes.
use Rattle.std.specs.Prelude.{◌≡◌, ℕ, ◌≤◌, ◌==◌, ◌&&◌, nat_le, Bool, true, false, if◌then◌else◌, All, List, drop, count_by, slice_get, AllPairs, option_to_list}
use Rattle.like_core.specs.Types.{Addition}
use Rattle.like_promises.specs.{Likes.likes_within, Types.Added, Types.Ran, Workload.Workload, Workload.is_split_in}

-- the post's addition that is noted so
abbrev pub addition_of : Added → Addition
addition_of a = record { phase = a.phase; page = a.page; old = a.old; likes = a.n }

-- whether an addition is to a page in a phase
abbrev pub is_add_to : ℕ → ℕ → Added → Bool
is_add_to phase page a = (a.phase == phase) && (a.page == page)

-- an addition is of one like or, if its page is split, of all its likes of the phase, after all entries up to it
pub record IsOfLikes (workload : Workload) (ran : List Ran) (a : Added) : Type 0 where
  pub some : 1 ≤ a.n
  pub plain : is_split_in workload a.phase a.page ≡ false → a.n ≡ 1
  pub split : is_split_in workload a.phase a.page ≡ true
      → (a.n ≡ likes_within workload a.page ran a.phase)
      × (likes_within workload a.page (drop a.at ran) a.phase ≡ 0)
      × (a.at ≡ count_by (λ e. nat_le e.phase a.phase) ran)

-- additions are the likes, in order: one at each like of a page that is not split, one a phase for all of a split page
pub record AddsItsLikes (workload : Workload) (ran : List Ran) (adds : List Added) : Type 0 where
  pub each : All (IsOfLikes workload ran) adds
  pub rising : AllPairs (λ a b. a.at ≤ b.at) adds
  pub plain : (phase page at : ℕ) → is_split_in workload phase page ≡ false
      → count_by (λ a. is_add_to phase page a && (a.at == at)) adds
      ≡ likes_within workload page (option_to_list (slice_get ran at)) phase
  pub split : (phase page : ℕ) → is_split_in workload phase page ≡ true
      → count_by (is_add_to phase page) adds ≡ (if likes_within workload page ran phase == 0 then 0 else 1)
