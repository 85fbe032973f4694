-- What a host did at a service that it opened, shared and closed.
use Rattle.std.specs.Prelude.{◌≡◌, ◌≢◌, ℕ, ◌+◌, ◌<◌, List, length, slice_index}
use Rattle.like_live.specs.{Service.AreOpened, Types.Opening}
use Rattle.like_shared.specs.Strict.{DriverEnd, IsStrictlyShared, SeatEnd, firsts}

-- one thread could have done all that its threads did at the service, which was opened so
pub record IsHosted (o : Opening) (counts : List ℕ) : Type 0 where
  pub driver : DriverEnd
  pub ends : List SeatEnd
  pub opened : AreOpened o driver.first (firsts ends)
  pub strict : IsStrictlyShared o driver ends counts

-- a page's last count is its first count and these likes, and every other page's is its first count
pub record HasGrown (o : Opening) (page likes : ℕ) (counts : List ℕ) : Type 0 where
  pub grown : slice_index counts page ≡ slice_index o.counts.items page + likes
  pub others : (p : ℕ) → p < length counts → p ≢ page → slice_index counts p ≡ slice_index o.counts.items p
