-- The coordinator's view: how it begins, and what each step makes of it; and the likes that a worker's additions merge.
use Rattle.std.specs.Prelude.{◌≡◌, ℕ, ◌+◌, ◌==◌, ◌<◌, Bool, true, false, not, ◌&&◌, ◌||◌, ◌%◌, ◌^◌, if◌then◌else◌, List, [], ◌∷◌, ◌++◌, length, replicate, slice_index, slice_set, count_by, Option, Some, None, IsSome, IsSomeAnd, unwrap_or}
use Rattle.like_limits.specs.Limits.{hot_pages}
use Rattle.like_core.specs.Slots.{IsChoice, mask_of_slots}
use Rattle.like_core.specs.Types.{Coord, CoordSeatView, CoordSight, Event, Limits, Opening, Spent, View, Worker}
use Rattle.like_core.specs.Types.{WorkerSeatView}
use Rattle.like_core.specs.declared.event.Event.TheVariants.{Like, Merge}
use Rattle.like_core.specs.{OpeningLimits.has_slots, Phase.IsJoined, Post.is_split_at, word.Forms.form_of}

-- the coordinator's view before its first step, when this is the phase word
abbrev pub fresh_coord : Opening → ℕ → CoordSeatView
fresh_coord z word = record {
  opening = z;
  made = 0;
  phase = 0;
  ending = false;
  last = None;
  looks = 0;
  word = word;
  all_in = false;
  gone = false;
  counted = [];
  published = None;
  masks = [];
  slots = replicate hot_pages 0;
  joined = [];
}

-- the likes that an addition of n to a page merges: none if the page is not split, when the addition is itself a like
abbrev pub likes_merged : WorkerSeatView → ℕ → ℕ → List Event
likes_merged v page n = (if is_split_at v page then replicate n (Like v.worker page) else [])

-- the event of an addition to a page, after the likes that it merges
abbrev pub adding : WorkerSeatView → ℕ → Event
adding v page = (if is_split_at v page then Merge v.worker page else Like v.worker page)

-- whether a sight shows all in, and none may come back before the release: none ever does in a run, nor at an ending in
-- a service
abbrev pub shows_all_stay_in : Limits → CoordSight → Bool
shows_all_stay_in l sight = sight.all_in && (sight.ending || not (form_of l.form).lets_return)

-- the coordinator's view after a look at a word, which is counted
abbrev pub looked_coord : CoordSeatView → ℕ → CoordSight → CoordSeatView
looked_coord c word sight = record c {
  last = Some sight;
  looks = c.looks + 1;
  word = word;
  all_in = shows_all_stay_in c.opening.limits sight;
  published = None;
}

-- the coordinator's view after an announcement
abbrev pub announced_coord : CoordSeatView → CoordSeatView
announced_coord c = record c { ending = true; last = None }

-- whether the last sight showed all workers gone
abbrev pub saw_all_gone : Option CoordSight → Bool
saw_all_gone (Some sight) = sight.all_gone
saw_all_gone None = false

-- the coordinator's view after it read a page's count, which was this
abbrev pub counted_coord : CoordSeatView → ℕ → ℕ → CoordSeatView
counted_coord c page count =
    record c { counted = record { phase = c.phase; page = page; count = count } ∷ c.counted }

-- the coordinator's view after it published a mask
abbrev pub published_coord : CoordSeatView → ℕ → CoordSeatView
published_coord c mask = record c { published = Some mask }

-- the coordinator's view after it put a page into a slot
abbrev pub slotted_coord : CoordSeatView → ℕ → ℕ → CoordSeatView
slotted_coord c slot page = record c { slots = slice_set c.slots slot page; published = None }

-- the mask of the pages that it put into slots, where this word says which are in use
abbrev pub slots_put : CoordSeatView → ℕ → ℕ
slots_put c bits = mask_of_slots (slice_index c.slots) bits hot_pages

-- the mask with which the coordinator releases: the one that it published last, and 0 for a joined phase
abbrev pub mask_released : CoordSeatView → ℕ
mask_released c = (if c.phase % 2 == 0 then unwrap_or c.published 0 else 0)

-- the coordinator's view after a release
abbrev pub released_coord : CoordSeatView → CoordSeatView
released_coord c = record c {
  phase = c.phase + 1;
  ending = false;
  last = None;
  all_in = false;
  gone = saw_all_gone c.last;
  masks = record { phase = c.phase + 1; mask = mask_released c } ∷ c.masks;
}

-- the coordinator's view after it made one more worker's seat
abbrev pub made_coord : CoordSeatView → CoordSeatView
made_coord c = record c { made = c.made + 1 }

-- the coordinator's view after a worker's seat was given back to it
abbrev pub gathered_coord : CoordSeatView → WorkerSeatView → CoordSeatView
gathered_coord c v = record c { joined = v ∷ c.joined }

-- the coordinator's view after seats with these views were given back to it; the last one is the first in the list
abbrev pub gathered_all : CoordSeatView → List WorkerSeatView → CoordSeatView
gathered_all c vs = record c { joined = vs ++ c.joined }

-- the coordinator may announce: it looked since its last announcement or release, its last look showed the phase
-- running, and the phase is not the last
abbrev pub MayAnnounce : CoordSeatView → Type 0
MayAnnounce c =
    IsSomeAnd c.last (λ sight. sight.ending ≡ false) × (c.phase < c.opening.limits.last_phase)

-- it looked since its last announcement or release, and its last look showed the phase ending and all in
abbrev pub SawAllIn : CoordSeatView → Type 0
SawAllIn c = IsSomeAnd c.last (λ sight. (sight.ending ≡ true) × (sight.all_in ≡ true))

-- the coordinator may read a page's count: it saw all in, the phase is joined, and the page exists
abbrev pub MayCount : CoordSeatView → ℕ → Type 0
MayCount c page = SawAllIn c × IsJoined c.phase × (page < length c.opening.counts)

-- it may publish a mask: it saw all in, the phase is joined, there is a page for each bit of the mask, and the board
-- has no slots
abbrev pub MayPublish : CoordSeatView → ℕ → Type 0
MayPublish c mask =
    SawAllIn c × IsJoined c.phase × (mask < 2 ^ length c.opening.counts)
    × (has_slots c.opening.limits ≡ false)

-- it may put a page into a slot of a service: it saw all in, and the phase is joined
pub record MayPut (c : CoordSeatView) (slot page : ℕ) : Type 0 where
  pub all_in : SawAllIn c
  pub joined : IsJoined c.phase
  pub slotted : has_slots c.opening.limits ≡ true
  pub there : slot < hot_pages
  pub known : page < length c.opening.counts

-- it may publish which slots are in use: their pages are a lawful choice
pub record MayPublishSlots (c : CoordSeatView) (bits : ℕ) : Type 0 where
  pub all_in : SawAllIn c
  pub joined : IsJoined c.phase
  pub slotted : has_slots c.opening.limits ≡ true
  pub width : bits < 2 ^ 64
  pub choice : IsChoice c.opening.factor (length c.opening.counts) (slice_index c.slots) bits

-- it may release: it saw all in, and if the next phase is split, it published a mask since that look
abbrev pub MayRelease : CoordSeatView → Type 0
MayRelease c = SawAllIn c × (IsJoined c.phase → IsSome c.published)

-- how many seats of worker i a view has: the coordinator's has those that were given back
abbrev pub seats_of : ℕ → View → ℕ
seats_of i (Coord c) = count_by (λ w. w.worker == i) c.joined
seats_of i (Worker v) = (if v.worker == i then 1 else 0)
seats_of i Spent = 0
