-- What a live seat did for its users: its deeds.
use Rattle.std.specs.Prelude.{◌≡◌, ◌⊎◌, ℕ, All, Contains, List, [], ◌∷◌, ◌++◌, drop, flat_map, length, reverse, Some}
use Rattle.like_core.specs.Types.{Add, Did, Glance, LogEntry, Logged, Read, Saw}
use Rattle.like_core.specs.{Log.latest_number, PageSteps.page_step, Post.number_of, views.Clock.GoesOn}
use Rattle.like_seat.specs.{StationView.phase_at, declared.seen.Seen.Seen}
use Rattle.like_live.specs.History.{Does, HasDone, HasLatest, IsLookOrLike, IsUnused, Told, glance, like, like_on, look}
use Rattle.like_live.specs.History.{take_found}
use Rattle.like_live.specs.LiveView.{LiveView}
use Rattle.like_live.specs.Types.{Found, GlanceAnswer as glanced, Liked, LookAnswer as looked}

-- a like was counted; or a last like and a count were shown, by a look or a glance, or only glimpsed, by a glance at a
-- page that is split then
pub data Act : Type 0 where
  counted : Act
  showed : Seen → Act
  glimpsed : Seen → Act

-- what a seat did in a phase for a user at a page. Its number is that of the entry which it has in the board's log
pub record Deed : Type 0 where
  pub number : ℕ
  pub phase : ℕ
  pub user : ℕ
  pub page : ℕ
  pub act : Act

-- a deed in this phase
abbrev pub deed : (number phase user page : ℕ) → Act → Deed
deed number phase user page act =
    record { number = number; phase = phase; user = user; page = page; act = act }

-- a look that waited is a deed where it ran
abbrev pub deed_found : ℕ → Found → Deed
deed_found number f =
    deed number f.phase f.asked.user f.asked.page (showed (record { last = f.last; count = f.count }))

-- found looks as deeds, each with the number of its read: these are the reads, in order
abbrev pub deeds_found : List Logged → List Found → List Deed
deeds_found reads [] = []
deeds_found reads (f ∷ found) = deed_found (latest_number reads) f ∷ deeds_found (drop 1 reads) found

-- the entries that a seat made since it was this, in order
abbrev pub made_since : LiveView → LiveView → List Logged
made_since v now = drop (length v.station.post.logged) (reverse now.station.post.logged)

-- the looks that a call found, if this is the seat before it and after it
abbrev pub found_by : LiveView → LiveView → List Found
found_by v now = drop (length v.found) now.found

-- a deed of a call for a user at a page, if this is the seat after it: it has the number of the seat's latest entry.
-- That is the addition or the read; of a like that went into the slice, it is the look at the phase word, or in a row a
-- like that was added since
abbrev pub deed_now : LiveView → (user page : ℕ) → Act → Deed
deed_now now user page act = deed (number_of now.station.post) (phase_at now.station) user page act

-- the deed that a call itself is, if it is one, and if this is the seat after it: a like that was counted; a look or a
-- glance that was shown something at once
abbrev pub own_deed : LiveView → Told → List Deed
own_deed now (like user page Liked) = deed_now now user page counted ∷ []
own_deed now (like_on user page Liked) = deed_now now user page counted ∷ []
own_deed now (look user page tag (looked.Seen shown)) = deed_now now user page (showed shown) ∷ []
own_deed now (glance user page (glanced.Seen shown)) = deed_now now user page (showed shown) ∷ []
own_deed now (glance user page (glanced.Glimpsed shown)) = deed_now now user page (glimpsed shown) ∷ []
own_deed now told = []

-- the deeds of a call: the looks that it found, which it read after its look at the phase word, and then its own
abbrev pub deeds_of_call : LiveView → Told → LiveView → List Deed
deeds_of_call v t now = deeds_found (drop 1 (made_since v now)) (found_by v now) ++ own_deed now t

-- the deeds of calls, one after the other
abbrev pub deeds_of : (told : List Told) (v after : LiveView) → HasDone v told after → List Deed
deeds_of [] v after done = []
deeds_of (t ∷ told) v after done = deeds_of_call v t done.0 ++ deeds_of told done.0 after done.1.1

-- what a deed of a worker is in the log: a like is the addition, or the look at the phase word after which it went
-- into the slice; a look is the read that found its count; a glance at a split page is that glance
abbrev pub IsEntryFor : ℕ → (phase page : ℕ) → Act → LogEntry → Type 0
IsEntryFor worker phase page counted entry =
    (entry ≡ Saw worker phase) ⊎ ((old : ℕ) × (entry ≡ Did (page_step worker phase page old (Add 1))))
IsEntryFor worker phase page (showed s) entry = entry ≡ Did (page_step worker phase page s.count Read)
IsEntryFor worker phase page (glimpsed s) entry =
    (count : ℕ) × (entry ≡ Did (page_step worker phase page count Glance))

-- this is a deed's entry, with its number
abbrev pub IsEntryOf : ℕ → Logged → Deed → Type 0
IsEntryOf worker e d = (e.number ≡ d.number) × IsEntryFor worker d.phase d.page d.act e.entry

-- the call made this deed's entry
abbrev pub MakesEntry : LiveView → LiveView → Deed → Type 0
MakesEntry v now d = (e : Logged) × Contains (made_since v now) e × IsEntryOf v.station.post.worker e d

-- a like of a row, which has the number of the latest entry that its seat had made
pub record SharesEntry (v : LiveView) (t : Told) (d : Deed) : Type 0 where
  pub call : t ≡ like_on d.user d.page Liked
  pub act : d.act ≡ counted
  pub latest : HasLatest (λ e. (e.number ≡ d.number) × IsLookOrLike v.station.post.worker d.phase e.entry)
      v.station.post.logged

-- the law of entries: a call goes on from what its seat had made before. Each of its deeds has the number of an entry
-- that it made, or shares one as a like of a row
abbrev pub DeedsHaveEntries : Type 0
DeedsHaveEntries =
    (v now : LiveView) (t : Told) → Does v t now
    → GoesOn v.station.post now.station.post
    × All (λ d. MakesEntry v now d ⊎ SharesEntry v t d) (deeds_of_call v t now)

-- a found look that was taken, if that was the call
abbrev pub found_taken : Told → List Found
found_taken (take_found (Some f)) = f ∷ []
found_taken told = []

-- the found looks that calls took, in order
abbrev pub all_taken : List Told → List Found
all_taken told = flat_map found_taken told

-- the looks that calls found, in order
abbrev pub all_found : (told : List Told) (v after : LiveView) → HasDone v told after → List Found
all_found [] v after done = []
all_found (t ∷ told) v after done = found_by v done.0 ++ all_found told done.0 after done.1.1

-- the law of found looks: those that were taken, with what they were shown, and then those that are left, are those that
-- the calls found, each once and in order
abbrev pub FoundAreTaken : Type 0
FoundAreTaken =
    (v after : LiveView) (told : List Told) (done : HasDone v told after) → IsUnused v
    → all_taken told ++ after.found ≡ all_found told v after done
