-- The limits that an opening fixes: those of a run, those of a service that goes on, and which are lawful.
use Rattle.std.specs.Prelude.{ℕ, ◌+◌, ◌-◌, ◌*◌, ◌^◌, ◌<◌, ◌≤◌, ◌≡◌, nat_lt, Bool, true}
use Rattle.like_limits.specs.Limits.{hot_pages, max_count, max_likes, max_pages, max_workers, total_bound}
use Rattle.like_core.specs.declared.form.Form.TheVariants.{Bits, Counts}
use Rattle.like_core.specs.{Phase.IsJoined, Phase.last_phase, Types.Limits, declared.form.Form.Form}

-- the limits of a run: 16,777,214 is its last phase, a worker adds at most 64,000,000 likes, and it has at most 1,024
-- pages, of which the first 64 may be hot, and 16 workers
abbrev pub run_limits : Limits
run_limits = record {
  last_phase = last_phase;
  likes = max_likes;
  pages = max_pages;
  hot = hot_pages;
  seats = max_workers;
  form = Bits;
}

-- the limits of a service that goes on: it has at most 16,777,216 pages, of which any may be hot, and 64 seats
abbrev pub service_limits : Limits
service_limits = record {
  last_phase = 2 ^ 48 - 2;
  likes = 2 ^ 56;
  pages = 2 ^ 24;
  hot = 2 ^ 24;
  seats = 64;
  form = Counts;
}

-- how many workers a form of the phase word has room for
abbrev pub most_seats : Form → ℕ
most_seats Bits = max_workers
most_seats Counts = 64

-- the greatest phase whose number it has room for, if its end is never announced
abbrev pub most_phase : Form → ℕ
most_phase Bits = last_phase
most_phase Counts = 2 ^ 48 - 2

-- whether the hot pages of a phase are those in slots: where more may be hot than a mask has bits
abbrev pub has_slots : Limits → Bool
has_slots l = nat_lt hot_pages l.hot

-- lawful limits: the last phase is joined, the phase word has room, a page's number has 32 bits, and no count can wrap
pub record AreLimits (l : Limits) : Type 0 where
  pub joined : IsJoined l.last_phase
  -- the phase word has room for the phases and the seats
  pub fits : l.last_phase ≤ most_phase l.form
  pub seats : l.seats ≤ most_seats l.form
  -- a page's number fits in 32 bits
  pub pages : l.pages < 2 ^ 32
  -- 64 pages can be hot at a time
  pub hot : hot_pages ≤ l.hot
  -- with slots, any page
  pub slotted : has_slots l ≡ true → l.pages ≤ l.hot
  -- neither a worker's own likes nor a count can wrap
  pub own : l.likes < total_bound
  pub likes : max_count + l.likes * l.seats < total_bound
