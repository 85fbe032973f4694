-- What a driver's calls keep.
use Rattle.std.proofs.Common.{Vec, Global, vec_capacity, ◌≡◌, ◌+◌, ◌-◌, ◌%◌, ◌<◌, ◌≤◌, ◌==◌, cond, length, replicate, ℕ, Bool, true, false, List, ◌∷◌, Option, Some, ap, sym, ◌∙◌, subst, refl, arith}
use Rattle.std.proofs.lemmas.Bool.{eq-eqb, false≢true, ne_eqb}
use Rattle.std.proofs.lemmas.List.{length-replicate}
use Rattle.like_limits.specs.Limits.{hot_pages}
use Rattle.std.specs.Prelude.{IsSome, IsSomeAnd}
use Rattle.std.specs.Option.{unwrap_or}
use Rattle.like_board.specs.Seats.{BoardId}
use Rattle.like_board.specs.declared.worker_seat.WorkerSeat.{WorkerSeat}
use Rattle.like_core.specs.OpeningLimits.{service_limits}
use Rattle.like_core.specs.Phase.{IsJoined, IsSplit}
use Rattle.like_core.specs.PhaseMasks.{mask_of}
use Rattle.like_core.specs.declared.opening.Opening.{Opening}
use Rattle.like_core.specs.declared.sight.CoordSight.{CoordSight}
use Rattle.like_core.specs.declared.view.CoordSeatView.{CoordSeatView}
use Rattle.like_core.specs.declared.view.PhaseMask.{PhaseMask}
use Rattle.like_core.specs.views.Views.{MayRelease, SawAllIn, mask_released}
use Rattle.like_seat.specs.Lead.{LeadView, Sees, announced, counted_from, published_choice, released, with_counts}
use Rattle.like_seat.proofs.Choosing.{with-length}
use Rattle.like_seat.proofs.Leading.{counted-is}
use Rattle.like_choice.specs.Slots.{AreSlots, SlotsView}
use Rattle.like_live.specs.declared.driver_answer.DriverAnswer.{DriverAnswer}
use Rattle.like_live.specs.declared.driver_end.End.{End}
use Rattle.like_live.specs.Splits.{AreSplitsOf, KeepsMarked, SawRunning, SplitsView, last_split, new_splits, slots_mask}
use Rattle.like_live.specs.Driver.{Acts, AreDriverParts, Decides, DriverCase, DriverView, EndsJoined, EndsSplit, HasRoom, IsSameDriver, IsService, LooksForEnd, PublishesSlots, ReadsBoundary, ReadsLast, ReleasesNext, SnapshotCase, announces, as_proposed, by_host, by_seat, counted, ended, ends, ends_joined, ends_split, goes_on, is_ending, is_last, must_go_on, not_ended, not_now, proposes, releases, releases_joined, releases_split, running, taken, unasked, waiting}

-- the lead after steps that release nothing and put nothing into slots
pub record IsStill (v w : LeadView) : Type 0 where
  pub board : w.board ≡ v.board
  pub opening : w.seat.opening ≡ v.seat.opening
  pub phase : w.seat.phase ≡ v.seat.phase
  pub masks : w.seat.masks ≡ v.seat.masks
  pub slots : w.seat.slots ≡ v.seat.slots

still : (v : LeadView) → IsStill v v
still v = record { board = refl; opening = refl; phase = refl; masks = refl; slots = refl }

still-on : (u v w : LeadView) → IsStill u v → IsStill v w → IsStill u w
still-on u v w a b = record {
  board = b.board ∙ a.board;
  opening = b.opening ∙ a.opening;
  phase = b.phase ∙ a.phase;
  masks = b.masks ∙ a.masks;
  slots = b.slots ∙ a.slots;
}

unchanged : (v w : LeadView) → w ≡ v → IsStill v w
unchanged v w is = subst (IsStill v) (sym is) (still v)

-- to read counts changes nothing else
pub record ReadsOnly (c d : CoordSeatView) : Type 0 where
  pub opening : d.opening ≡ c.opening
  pub phase : d.phase ≡ c.phase
  pub last : d.last ≡ c.last
  pub masks : d.masks ≡ c.masks
  pub slots : d.slots ≡ c.slots

pub reads-only : (c : CoordSeatView) (from : ℕ) (counts : List ℕ) → ReadsOnly c (counted_from c from counts)
reads-only c from counts =
    let is = counted-is c from counts in
    record {
      opening = ap (λ (d : CoordSeatView). d.opening) is;
      phase = ap (λ (d : CoordSeatView). d.phase) is;
      last = ap (λ (d : CoordSeatView). d.last) is;
      masks = ap (λ (d : CoordSeatView). d.masks) is;
      slots = ap (λ (d : CoordSeatView). d.slots) is;
    }

pub counts-still : (v : LeadView) (from : ℕ) (counts : List ℕ) → IsStill v (with_counts v from counts)
counts-still v from counts =
    let only = reads-only v.seat from counts in
    record { board = refl; opening = only.opening; phase = only.phase; masks = only.masks; slots = only.slots }

-- a look keeps all that, and it is its last sight
pub record HasLooked (v w : LeadView) (sight : CoordSight) : Type 0 where
  pub same : IsStill v w
  pub phase : w.seat.phase ≡ v.seat.phase
  pub last : w.seat.last ≡ Some sight

pub look-keeps : (v w : LeadView) (sight : CoordSight) → Sees v sight w → HasLooked v w sight
look-keeps v w sight sees = record {
  same = record {
    board = ap (λ (l : LeadView). l.board) sees.saw;
    opening = ap (λ (l : LeadView). l.seat.opening) sees.saw;
    phase = ap (λ (l : LeadView). l.seat.phase) sees.saw;
    masks = ap (λ (l : LeadView). l.seat.masks) sees.saw;
    slots = ap (λ (l : LeadView). l.seat.slots) sees.saw;
  };
  phase = ap (λ (l : LeadView). l.seat.phase) sees.saw;
  last = ap (λ (l : LeadView). l.seat.last) sees.saw;
}

-- a driver whose look showed the phase running saw it so
pub saw_running : (v w : LeadView) (sight : CoordSight) → Sees v sight w → sight.ending ≡ false → SawRunning w.seat
saw_running v w sight sees on =
    subst (λ (s : Option CoordSight). IsSomeAnd s (λ x. x.ending ≡ false)) (sym (look-keeps v w sight sees).last) on

-- one whose look showed the end of the phase, with all in, saw that
pub saw_all_in : (v w : LeadView) (sight : CoordSight) → Sees v sight w → sight.ending ≡ true → sight.all_in ≡ true
    → SawAllIn w.seat
saw_all_in v w sight sees ending all_in =
    subst (λ (s : Option CoordSight). IsSomeAnd s (λ x. (x.ending ≡ true) × (x.all_in ≡ true)))
    (sym (look-keeps v w sight sees).last) (ending, all_in)

snapshot-still : (v w : LeadView) (sight : CoordSight) (from : ℕ) (old counts : List ℕ) (phase : Option ℕ)
    → SnapshotCase v sight from old phase w counts
    → IsStill v w
snapshot-still v w sight from old counts phase (taken _ _ _ is) =
    subst (IsStill v) (sym is) (counts-still v from counts)
snapshot-still v w sight from old counts phase (not_now _ _ _ is) = unchanged v w is

announced-still : (v : LeadView) → IsStill v (announced v)
announced-still v = record { board = refl; opening = refl; phase = refl; masks = refl; slots = refl }

end-still : (v w : LeadView) (is_end : Bool) → LooksForEnd v is_end w → IsStill v w
end-still v w is_end (goes_on sight sees _ _) = (look-keeps v w sight sees).same
end-still v w is_end (is_last sight sees _ _ _ _) = (look-keeps v w sight sees).same
end-still v w is_end (is_ending sight sees _ _ _) = (look-keeps v w sight sees).same
end-still v w is_end (ends sight again seen sees _ _ _ sees_again _) =
    still-on v seen w (look-keeps v seen sight sees).same
    (still-on seen (announced seen) w (announced-still seen) (look-keeps (announced seen) w again sees_again).same)

pub boundary-still : (v w : LeadView) (from : ℕ) (old counts : List ℕ) (phase : Option ℕ)
    → ReadsBoundary v from old phase w counts
    → IsStill v w
boundary-still v w from old counts phase does =
    still-on v does.seen w (look-keeps v does.seen does.sight does.sees).same
    (snapshot-still does.seen w does.sight from old counts phase does.case)

pub last-still : (v w : LeadView) (from : ℕ) (old counts : List ℕ) (is_done : Bool)
    → ReadsLast v from old is_done w counts
    → IsStill v w
last-still v w from old counts is_done (not_ended looks _ _) = end-still v w false looks
last-still v w from old counts is_done (counted now looks _ is _ _) =
    subst (IsStill v) (sym is)
    (still-on v now (with_counts now from counts) (end-still v now true looks) (counts-still now from counts))

-- what a call keeps of a driver: it is the same one, and its slots are its board's
pub record Keeps (v w : DriverView) : Type 0 where
  pub same : IsSameDriver v w
  pub splits : AreSplitsOf v.lead.seat v.splits → AreSplitsOf w.lead.seat w.splits

-- the slots stay those of a lead that is still
pub splits-still : (v w : LeadView) (s : SplitsView)
    → IsStill v w
    → AreSplitsOf v.seat s
    → AreSplitsOf w.seat s
splits-still v w s is kept = record {
  lawful = kept.lawful;
  factor = kept.factor ∙ sym (ap (λ (z : Opening). z.factor) is.opening);
  pages = kept.pages ∙ sym (ap (λ (z : Opening). length z.counts) is.opening);
  held = kept.held ∙ sym is.slots;
  all = kept.all;
  released = λ past.
      (λ m. mask_of (is.masks m) (last_split (is.phase m))) ∙ kept.released (subst (λ p. 1 ≤ p) is.phase past);
}

keeps-marked : (s : SlotsView) → KeepsMarked s s
keeps-marked s = record { marks = refl; slots = λ slot below. refl }

-- so the driver is kept, if its slots are the same
pub still-keeps : (v w : DriverView) → IsStill v.lead w.lead → w.splits ≡ v.splits → Keeps v w
still-keeps v w is same = record {
  same = record {
    board = is.board;
    opening = is.opening;
    marked = subst (λ (s : SplitsView). KeepsMarked v.splits.slots s.slots) (sym same) (keeps-marked v.splits.slots);
  };
  splits = λ kept.
      splits-still v.lead w.lead w.splits is (subst (λ (s : SplitsView). AreSplitsOf v.lead.seat s) (sym same) kept);
}

pub keeps-on : (u v w : DriverView) → Keeps u v → Keeps v w → Keeps u w
keeps-on u v w a b = record {
  same = record {
    board = b.same.board ∙ a.same.board;
    opening = b.same.opening ∙ a.same.opening;
    marked = record {
      marks = b.same.marked.marks ∙ a.same.marked.marks;
      slots = λ slot below.
          b.same.marked.slots slot (subst (λ n. slot < n) (sym a.same.marked.marks) below)
          ∙ a.same.marked.slots slot below;
    };
  };
  splits = λ kept. b.splits (a.splits kept);
}

-- so is one whose slots are, whatever it has proposed and heard
proposes-keeps : (v : DriverView) (pages : List ℕ) (hinted : Bool)
    → Keeps v (record v { splits = record v.splits { proposed = pages }; hinted = hinted })
proposes-keeps v pages hinted = record {
  same = record { board = refl; opening = refl; marked = keeps-marked v.splits.slots };
  splits = λ kept. record {
    lawful = kept.lawful;
    factor = kept.factor;
    pages = kept.pages;
    held = kept.held;
    all = kept.all;
    released = kept.released;
  };
}

-- other pages may be proposed now
abbrev MayPropose : SplitsView → SplitsView → Type 0
MayPropose s after = after ≡ record s { proposed = after.proposed }

joined-proposes : (s after : SplitsView) (end : End) (is_due : Bool) → EndsJoined s end is_due after → MayPropose s after
joined-proposes s after end is_due (unasked _ _ is) = subst (MayPropose s) (sym is) refl
joined-proposes s after end is_due (as_proposed _ _ _ is) = subst (MayPropose s) (sym is) refl
joined-proposes s after end is_due (proposes _ _ asked _) = asked.rest

split-proposes : (s after : SplitsView) (hinted heard : Bool) (end : End) (is_due : Bool)
    → EndsSplit s hinted end is_due after heard
    → MayPropose s after
split-proposes s after hinted heard end is_due (by_host _ _ _ asked) = asked.rest
split-proposes s after hinted heard end is_due (by_seat _ _ _ asked) = asked.rest
split-proposes s after hinted heard end is_due (unasked _ _ _ is) = subst (MayPropose s) (sym is) refl

decides-keeps : (v w : DriverView) (sight : CoordSight) (end : End) (is_due : Bool)
    → Decides v sight end is_due w
    → Keeps v w
decides-keeps v w sight end is_due (must_go_on _ _ is) = subst (Keeps v) (sym is) (still-keeps v v (still v.lead) refl)
decides-keeps v w sight end is_due (ends_joined _ _ does is) =
    subst (Keeps v) (sym (is ∙ ap (λ (s : SplitsView). record v { splits = s }) (joined-proposes _ _ _ _ does)))
    (proposes-keeps v w.splits.proposed v.hinted)
decides-keeps v w sight end is_due (ends_split _ _ does is) =
    subst (Keeps v)
    (sym (is ∙ ap (λ (s : SplitsView). record v { splits = s; hinted = w.hinted }) (split-proposes _ _ _ _ _ _ does)))
    (proposes-keeps v w.splits.proposed w.hinted)

-- a phase that is due to end is not a service's last
pub due-goes-on : (v w : DriverView) (sight : CoordSight) (end : End) (is_due : Bool)
    → is_due ≡ true
    → Decides v sight end is_due w
    → v.lead.seat.phase < service_limits.last_phase
due-goes-on v w sight end is_due due (must_go_on _ undue _) = absurd (false≢true (sym undue ∙ due))
due-goes-on v w sight end is_due due (ends_joined may _ _ _) = may.goes_on
due-goes-on v w sight end is_due due (ends_split may _ _ _) = may.goes_on

-- a split phase is its own last one, and that of the joined phase after it
pub last-split : (phase : ℕ) → IsSplit phase → last_split phase ≡ phase
last-split phase odd =
    let is : (phase % 2 == 1) ≡ true = eq-eqb (phase % 2) 1 odd in λ m. cond (is m) phase (phase - 1)

last-joined : (phase : ℕ) → IsSplit phase → last_split (phase + 1) ≡ phase
last-joined phase odd =
    let even : (phase + 1) % 2 ≡ 0 = omega arith in
    let is : ((phase + 1) % 2 == 1) ≡ false = ap (λ n. n == 1) even in
    (λ m. cond (is m) (phase + 1) (phase + 1 - 1)) ∙ omega arith

-- the mask of a phase that was released last, and of one before it
mask-new : (masks : List PhaseMask) (phase mask : ℕ)
    → mask_of (record { phase = phase; mask = mask } ∷ masks) phase ≡ mask
mask-new masks phase mask =
    let is : (phase == phase) ≡ true = eq-eqb phase phase refl in
    λ m. cond (is m) mask (mask_of masks phase)

mask-before : (masks : List PhaseMask) (phase other mask : ℕ)
    → other < phase
    → mask_of (record { phase = phase; mask = mask } ∷ masks) other ≡ mask_of masks other
mask-before masks phase other mask less =
    let is : (other == phase) ≡ false = ne_eqb other phase (λ same. absurd (omega arith)) in
    λ m. cond (is m) mask (mask_of masks other)

-- the release of a joined phase keeps the driver
joined-keeps : (v : DriverView) → IsSplit v.lead.seat.phase → Keeps v (record v { lead = released v.lead })
joined-keeps v odd =
    let phase = v.lead.seat.phase in
    let last = (released v.lead).seat.masks in
    record {
      same = record { board = refl; opening = refl; marked = keeps-marked v.splits.slots };
      splits = λ kept. record {
        lawful = kept.lawful;
        factor = kept.factor;
        pages = kept.pages;
        held = kept.held;
        all = kept.all;
        released = λ past.
            ap (mask_of last) (last-joined phase odd) ∙ mask-before v.lead.seat.masks (phase + 1) phase (mask_released v.lead.seat) (omega arith)
            ∙ sym (ap (mask_of v.lead.seat.masks) (last-split phase odd)) ∙ kept.released (omega (arith, odd));
      };
    }

-- the lead after its slots were published
pub record HasPublished (v w : LeadView) (mask : ℕ) : Type 0 where
  pub board : w.board ≡ v.board
  pub opening : w.seat.opening ≡ v.seat.opening
  pub phase : w.seat.phase ≡ v.seat.phase
  pub last : w.seat.last ≡ v.seat.last
  pub published : w.seat.published ≡ Some mask

pub has-published : (v w : LeadView) (s : SlotsView)
    → w ≡ published_choice v s.slots s.bits
    → HasPublished v w (slots_mask s)
has-published v w s does = record {
  board = ap (λ (l : LeadView). l.board) does;
  opening = ap (λ (l : LeadView). l.seat.opening) does;
  phase = ap (λ (l : LeadView). l.seat.phase) does;
  last = ap (λ (l : LeadView). l.seat.last) does;
  published = ap (λ (l : LeadView). l.seat.published) does;
}

-- it may then be released
pub may-release : (v w : LeadView) (s : SlotsView)
    → w ≡ published_choice v s.slots s.bits
    → SawAllIn v.seat
    → MayRelease w.seat
may-release v w s does saw =
    let has = has-published v w s does in (
      subst (λ (o : Option CoordSight). IsSomeAnd o (λ sight. (sight.ending ≡ true) × (sight.all_in ≡ true)))
          (sym has.last) saw,
      λ _. subst (λ (o : Option ℕ). IsSome o) (sym has.published) refl,
    )

-- the release of a split phase keeps the driver, with the slots that were published
split-keeps : (v chosen : DriverView)
    → IsJoined v.lead.seat.phase
    → PublishesSlots v chosen
    → Keeps v (record chosen { lead = released chosen.lead })
split-keeps v chosen even does =
    let slots = chosen.splits.slots in
    let seat = chosen.lead.seat in
    let has = has-published v.lead chosen.lead slots does.publishes in
    let phase : seat.phase ≡ v.lead.seat.phase = has.phase in
    let joined : (seat.phase % 2 == 0) ≡ true = eq-eqb (seat.phase % 2) 0 (ap (λ n. n % 2) phase ∙ even) in
    let odd : IsSplit (seat.phase + 1) = omega (arith, phase, even) in
    let held = ap (λ (d : DriverView). d.splits.held) does.rest in
    record {
      same = record {
        board = has.board;
        opening = has.opening;
        marked = record {
          marks = does.chooses.same.2;
          slots = λ slot below. (does.chooses.marked slot below).1;
        };
      };
      splits = λ kept. record {
        lawful = does.lawful;
        factor = does.chooses.same.0 ∙ kept.factor ∙ sym (ap (λ (z : Opening). z.factor) has.opening);
        pages = does.chooses.same.1 ∙ kept.pages ∙ sym (ap (λ (z : Opening). length z.counts) has.opening);
        held = held;
        all = ap (λ (xs : List ℕ). length xs) held ∙ ap (λ (l : LeadView). length l.seat.slots) does.publishes
            ∙ with-length v.lead.seat.slots slots.slots slots.bits;
        released = λ past.
            ap (mask_of (released chosen.lead).seat.masks) (last-split (seat.phase + 1) odd)
            ∙ mask-new seat.masks (seat.phase + 1) (mask_released seat)
            ∙ (λ m. cond (joined m) (unwrap_or (has.published m) 0) 0);
      };
    }

release-keeps : (v w : DriverView) → ReleasesNext v w → Keeps v w
release-keeps v w (releases_joined odd is) = subst (Keeps v) (sym is) (joined-keeps v odd)
release-keeps v w (releases_split even chosen does is) = subst (Keeps v) (sym is) (split-keeps v chosen even does)

announces-keeps : (v now : DriverView) → Keeps v now → Keeps v (record now { lead = announced now.lead })
announces-keeps v now kept =
    keeps-on v now (record now { lead = announced now.lead }) kept
    (still-keeps now (record now { lead = announced now.lead }) (announced-still now.lead) refl)

case-keeps : (v w : DriverView) (sight : CoordSight) (end : End) (answer : DriverAnswer)
    → DriverCase v sight end answer w
    → Keeps v w
case-keeps v w sight end answer (waiting _ _ _ is) = subst (Keeps v) (sym is) (still-keeps v v (still v.lead) refl)
case-keeps v w sight end answer (releases _ _ _ next) =
    let unheard : DriverView = record v { hinted = false } in
    keeps-on v unheard w (still-keeps v unheard (still v.lead) refl) (release-keeps unheard w next)
case-keeps v w sight end answer (announces now _ decides _ is) =
    subst (Keeps v) (sym is) (announces-keeps v now (decides-keeps v now sight end true decides))
case-keeps v w sight end answer (running _ _ decides _) = decides-keeps v w sight end false decides
case-keeps v w sight end answer (ended _ _ decides _) = decides-keeps v w sight end false decides

pub acts-keeps : (v w : DriverView) (end : End) (answer : DriverAnswer) → Acts v end answer w → Keeps v w
acts-keeps v w end answer does =
    let seen : DriverView = record v { lead = does.seen } in
    keeps-on v seen w (still-keeps v seen (look-keeps v.lead does.seen does.sight does.sees).same refl)
    (case-keeps seen w does.sight end answer does.case)

-- what is true of every driver is kept
pub same-service : (v w : DriverView) → Keeps v w → IsService v → IsService w
same-service v w is service =
    let opening = is.same.opening in
    record {
      few_pages = subst (λ (z : Opening). length z.counts ≤ service_limits.pages) (sym opening) service.few_pages;
      plain = subst (λ (z : Opening). z.marks ≡ replicate (length z.counts) false) (sym opening) service.plain;
      limits = ap (λ (z : Opening). z.limits) opening ∙ service.limits;
      splits = is.splits service.splits;
    }

pub same-parts : (board : BoardId) (pages : ℕ) (v w : DriverView)
    → Keeps v w
    → AreDriverParts board pages v
    → AreDriverParts board pages w
same-parts board pages v w is kept = record {
  here = is.same.board ∙ kept.here;
  pages_is = kept.pages_is ∙ sym (ap (λ (z : Opening). length z.counts) is.same.opening);
  service = same-service v w is kept.service;
}

pub same-room : (back : Vec WorkerSeat Global) (v w : DriverView) → Keeps v w → HasRoom back v → HasRoom back w
same-room back v w is room = record {
  none = room.none;
  enough = subst (λ (z : Opening). z.workers ≤ vec_capacity back) (sym is.same.opening) room.enough;
}

-- those of a new service are its board's
pub new-splits : (c : CoordSeatView) (factor pages : ℕ) (marks told : List ℕ) (finds : Bool)
    → AreSlots (new_splits factor pages marks told finds).slots
    → c.opening.factor ≡ factor
    → length c.opening.counts ≡ pages
    → c.slots ≡ replicate hot_pages 0
    → c.phase ≡ 0
    → AreSplitsOf c (new_splits factor pages marks told finds)
new-splits c factor pages marks told finds lawful by many held first = record {
  lawful = lawful;
  factor = sym by;
  pages = sym many;
  held = sym held;
  all = length-replicate {A = ℕ} hot_pages 0;
  released = λ past. absurd (omega (arith, first));
}
