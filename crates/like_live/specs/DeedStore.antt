-- What deeds ask of a store, and what it replies.
use Rattle.std.specs.Prelude.{◌≡◌, ℕ, List, map, slice_get, take, Some}
use Rattle.like_tables.specs.UserTable.{last_of}
use Rattle.like_promises.specs.Store.{Ask, Store, after_all, like, look, reply}
use Rattle.like_promises.specs.Types.{Seen}
use Rattle.like_live.specs.Deeds.{Act, Deed, counted, deeds_of, glimpsed, showed}
use Rattle.like_live.specs.{History.HasDone, History.IsUnused, History.Told, LiveView.LiveView}

-- what a deed asked
abbrev pub asked : (user page : ℕ) → Act → Ask
asked user page counted = like user page
asked user page (showed s) = look user page
asked user page (glimpsed s) = look user page

-- the store after these deeds
abbrev pub store_after : Store → List Deed → Store
store_after s deeds = after_all s (map (λ d. asked d.user d.page d.act) deeds)

-- a deed was shown what the store replies, or has glimpsed at least its user's last like there
abbrev pub Fits : Store → (user page : ℕ) → Act → Type 0
Fits s user page counted = Unit {0}
Fits s user page (showed seen) = reply s (look user page) ≡ Seen seen.last seen.count
Fits s user page (glimpsed seen) = s.last user ≡ seen.last

-- the last likes of a seat's users, as a store
abbrev pub store_of : LiveView → Store
store_of v = record { count = λ page. 0; last = last_of v.station.last }

-- the law of last likes: whatever calls a fresh seat is asked, each of its deeds fits the store after the deeds before it,
-- for some counts in that store
abbrev pub DeedsShowLasts : Type 0
DeedsShowLasts =
    (v after : LiveView) (told : List Told) (done : HasDone v told after) → IsUnused v
    → (i : ℕ) (d : Deed) → slice_get (deeds_of told v after done) i ≡ Some d
    → let s = store_after (store_of v) (take i (deeds_of told v after done)) in
    (count : ℕ → ℕ) × Fits (record s { count = count }) d.user d.page d.act
