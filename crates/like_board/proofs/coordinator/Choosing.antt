-- The coordinator's reads of counts and its masks, before a release: each keeps what the board shows.
use Rattle.std.proofs.Common.{◌≡◌, ◌≢◌, ℕ, ◌+◌, ◌^◌, ◌<◌, ◌≤◌, Bool, true, false, inl, inr, List, [], All, IfSome, length, take, get_or, slice_index, set, subst, ap, sym, ◌∙◌, refl, arith}
use Rattle.std.proofs.Math.ListN.{length-set}
use Rattle.std.proofs.lemmas.Bool.{cases_eq}
use Rattle.std.proofs.lemmas.List.{set-get_or, get_or-set_same, get_or-set_other}
use Rattle.std.proofs.lemmas.List.Elements.{All-cons, All-set}
use mathlib.Core.Option.{some}
use lib.ListN.{get_elem?}
use Rattle.like_limits.specs.Limits.{hot_pages}
use Rattle.like_core.specs.declared.event.Event.TheVariants.{CoordRead}
use Rattle.like_core.specs.declared.shown.Shown.TheVariants.{Count}
use Rattle.like_core.specs.declared.opening.Opening.{Opening}
use Rattle.like_core.specs.declared.view.PageCount.{PageCount}
use Rattle.like_core.specs.declared.view.WorkerSeatView.{WorkerSeatView}
use Rattle.like_core.specs.declared.view.CoordSeatView.{CoordSeatView}
use Rattle.like_core.specs.declared.view.View.{View}
use Rattle.like_core.specs.declared.view.View.TheVariants.{Coord, Worker}
use Rattle.like_core.specs.Phase.{IsJoined, IsSplit}
use Rattle.like_core.specs.OpeningLimits.{has_slots}
use Rattle.like_core.specs.Slots.{IsChoice, mask_of_slots}
use Rattle.like_core.specs.WorkerState.{IsIn}
use Rattle.like_core.specs.core.Numbers.{AllIn}
use Rattle.like_core.specs.core.State.{CoreState, numbers}
use Rattle.like_core.specs.views.Views.{counted_coord, published_coord, slotted_coord, slots_put, SawAllIn, MayCount, MayPublish, MayPut, MayPublishSlots}
use Rattle.like_core.specs.views.Reads.{IsCounted}
use Rattle.like_core.specs.views.Posts.{posts_before, posts_of}
use Rattle.like_core.specs.views.Tallies.{room}
use Rattle.like_core.specs.views.Layout.{mask_place, slot_in, slot_place, word_of}
use Rattle.like_core.specs.views.Shows.{Shows, ShowsSome, FitsWorker, FitsCoord, FixesMask, IsStep}
use Rattle.like_core.proofs.views.Ordered.{applied_now, past_now}
use Rattle.like_core.proofs.Slots.{choice-same, mask-below, mask_by-plain, mask_by-slots, mask_of_slots-same}
use Rattle.like_core.proofs.views.Apart.{word_of-past}
use Rattle.like_core.proofs.views.KeptOrder.{other_step_keeps_order, same_coord}
use Rattle.like_board.proofs.worker.Moves.{moment_of}
use Rattle.like_board.proofs.worker.WorkerSteps.{running_is}
use Rattle.like_board.proofs.Steps.{steps_by}
use Rattle.like_board.proofs.Tallying.{tallied_on}
use Rattle.like_board.proofs.coordinator.Fitting.{same_seats, same_phase}
use Rattle.like_board.proofs.coordinator.Leads.{ShowsChoice, of_coord, choice_same, leads}
use Rattle.like_board.proofs.coordinator.CoordSteps.{AllAreIn, saw_all_in}

-- a read of a page's count is the event
pub counts : (z : Opening) (words : List ℕ) (views : List View) (place : ℕ) (c : CoordSeatView) (page : ℕ)
    → ShowsSome z words views
    → get_elem? views place ≡ some (Coord c)
    → MayCount c page
    → IsStep z (CoordRead page) (Count (get_or words (word_of page) 0)) (Coord c)
    (Coord (counted_coord c page (get_or words (word_of page) 0)))
    × ShowsSome z (set words (word_of page) (get_or words (word_of page) 0))
    (set views place (Coord (counted_coord c page (get_or words (word_of page) 0))))
counts z words views place c page some_state at may =
    let s = some_state.state in
    let sh = some_state.shows in
    let found : ℕ = get_or words (word_of page) 0 in
    let d : CoordSeatView = counted_coord c page found in
    let r : PageCount = record { phase = c.phase; page = page; count = found } in
    let old : FitsCoord z s c = sh.seats.each place (Coord c) at in
    let now : AllAreIn z s c = saw_all_in z s c old may.0 in
    let known = of_coord z s words views place c sh at in
    let on : page < length z.counts = subst (λ (y : Opening). page < length y.counts) old.seats.opening may.2 in
    let found_is = sh.board.pages page on in
    let sums = applied_now z (moment_of z words views some_state) page in
    let past = past_now z (moment_of z words views some_state) (s.phase + 1) page (omega arith) in
    let P : PageCount → Type 0 =
    λ x. (x.phase ≤ s.phase) × (x.phase ≡ s.phase → AllIn (numbers z s) × (s.ending ≡ true)) in
    let Q : ℕ → Type 0 = λ k. found ≡ slice_index z.counts page + posts_before (posts_of views) (k + 1) page in
    let all_found : Q s.phase = omega arith in
    let counted : IsCounted z.counts (posts_before (posts_of views)) r = subst Q (sym old.phase.present) all_found in
    let phase = old.phase.present in
    let fits : FitsCoord z s d =
    record {
      seats = same_seats z s c d refl old.seats;
      phase = same_phase z s c d refl old.phase;
      choice = record {
        counted = All-cons P r c.counted (omega arith, λ _. (now.all_in, now.ending)) old.choice.counted;
        published = old.choice.published;
        masks = old.choice.masks;
      };
    }
    in
    let after_it : Shows z s (set words (word_of page) found) (set views place (Coord d)) =
    subst (λ (later : List ℕ). Shows z s later (set views place (Coord d))) (sym (set-get_or words (word_of page) 0))
    (leads z s words views place c d s.phase s.ending s.hot words sh at refl refl (omega arith) refl
    sh.board.phase
    (λ q _. refl)
    sh.board.mask
    sh.board.chosen
    (choice_same z words views c d refl known.0)
    (All-cons (IsCounted z.counts (posts_before (posts_of views))) r c.counted counted known.1)
    fits
    (λ v f. f))
    in
    steps_by z words views place (word_of page) found (Coord c) (Coord d) (CoordRead page) (Count found) s some_state at
    (record {
      before = tt;
      permits = record { there = on; suits = tt; leaves_last = tt; room = tt };
      tells = ap Count found_is;
    })
    refl after_it (omega arith) (λ _. refl) (same_coord c d refl) (λ _. refl)

-- while all are in, no worker runs a phase: none has read slots
none_read : (z : Opening) (s : CoreState) (words : List ℕ) (views : List View)
    → Shows z s words views
    → AllIn (numbers z s)
    → (j : ℕ) (v : WorkerSeatView)
    → get_elem? views j ≡ some (Worker v)
    → v.slots ≡ []
none_read z s words views sh all j v at =
    let fits : FitsWorker z s v = sh.seats.each j (Worker v) at in
    fits.slots (λ split.
    let runs = running_is IsSplit v.state split in
    absurd (subst (IsIn s.phase) (fits.state ∙ runs.1) (all v.worker fits.there)))

-- while all are in at the end of a joined phase, the words fix no mask
none_fixed : (phase : ℕ) (ending : Bool) → IsJoined phase → ending ≡ true → FixesMask phase ending → ⊥
none_fixed phase ending even is (inl odd) = absurd (omega arith)
none_fixed phase ending even is (inr first) = let clash = first.1 in absurd (cc)

-- a step that chooses hot pages changes nothing of the state: its phase is joined
chooses : (z : Opening) (words : List ℕ) (views : List View) (place : ℕ) (c d : CoordSeatView) (changed word : ℕ)
    → (some_state : ShowsSome z words views)
    → get_elem? views place ≡ some (Coord c)
    → SawAllIn c
    → IsJoined c.phase
    → d ≡ record c { published = d.published; slots = d.slots }
    → 1 ≤ changed
    → ((page : ℕ) → word_of page ≢ changed)
    → (AllIn (numbers z some_state.state) → ShowsChoice z (set words changed word) views d)
    → IfSome d.published (λ mask. mask < 2 ^ length z.counts)
    → ShowsSome z (set words changed word) (set views place (Coord d))
chooses z words views place c d changed word some_state at all_in joined rest later no_page choice there =
    let s = some_state.state in
    let sh = some_state.shows in
    let old : FitsCoord z s c = sh.seats.each place (Coord c) at in
    let even : IsJoined s.phase = subst IsJoined old.phase.present joined in
    let now : AllAreIn z s c = saw_all_in z s c old all_in in
    let known = of_coord z s words views place c sh at in
    let fits : FitsCoord z s d =
    subst (FitsCoord z s) (sym rest) (record {
      seats = same_seats z s c (record c { published = d.published; slots = d.slots }) refl old.seats;
      phase = same_phase z s c (record c { published = d.published; slots = d.slots }) refl old.phase;
      choice = record { counted = old.choice.counted; published = there; masks = old.choice.masks };
    })
    in
    record {
      state = s;
      reachable = some_state.reachable;
      shows =
          leads z s words views place c d s.phase s.ending s.hot (set words changed word) sh at
          (ap (λ (e : CoordSeatView). e.made) rest) (ap (λ (e : CoordSeatView). e.joined) rest) (omega arith)
          (length-set words changed word)
          (get_or-set_other words changed 0 word 0 (λ eq. absurd (omega arith)) ∙ sh.board.phase)
          (λ page below. get_or-set_other words changed (word_of page) word 0 (no_page page))
          (λ fixed. absurd (none_fixed s.phase s.ending even now.ending fixed))
          (λ fixed. absurd (none_fixed s.phase s.ending even now.ending fixed))
          (choice now.all_in)
          (subst (λ (e : CoordSeatView). All (IsCounted z.counts (posts_before (posts_of views))) e.counted) (sym rest) known.1)
          fits
          (λ v f. f);
      tallied = tallied_on z.limits s s views place (Coord c) (Coord d) (λ _. refl) at
          (λ page. ap (λ (e : CoordSeatView). room z.limits page (Coord e)) rest) some_state.tallied;
      log = some_state.log;
      order = other_step_keeps_order z s s views some_state.log place (Coord c) (Coord d) at
          (same_coord c d (ap (λ (e : CoordSeatView). e.joined) rest)) (omega arith) (λ _. refl) some_state.order;
    }

-- a mask is published on a board without slots
pub publishes : (z : Opening) (words : List ℕ) (views : List View) (place : ℕ) (c : CoordSeatView) (mask : ℕ)
    → ShowsSome z words views
    → get_elem? views place ≡ some (Coord c)
    → MayPublish c mask
    → ShowsSome z (set words mask_place mask) (set views place (Coord (published_coord c mask)))
publishes z words views place c mask some_state at may =
    let s = some_state.state in
    let sh = some_state.shows in
    let later : List ℕ = set words mask_place mask in
    let old : FitsCoord z s c = sh.seats.each place (Coord c) at in
    let known = (of_coord z s words views place c sh at).0 in
    let wide = sh.board.width in
    let past = word_of-past (length z.counts) in
    let plain : has_slots z.limits ≡ false = ap (λ (y : Opening). has_slots y.limits) (sym old.seats.opening) ∙ may.3 in
    let found : get_or later mask_place 0 ≡ mask = get_or-set_same words mask_place mask 0 (omega arith) in
    chooses z words views place c (published_coord c mask) mask_place mask some_state at may.0 may.1 refl (omega arith)
    (λ page eq. let far = word_of-past page in absurd (omega arith))
    (λ _. record {
      published = mask_by-plain z.limits (slot_in later) (get_or later mask_place 0) plain ∙ found;
      chosen = λ _ slotted. absurd (cc);
      slots = λ slot below.
          get_or-set_other words mask_place (slot_place slot) mask 0 (λ eq. absurd (omega arith)) ∙
          known.slots slot below;
      all_slots = known.all_slots;
      slots_fit = known.slots_fit;
      read = known.read;
    })
    (subst (λ (y : Opening). mask < 2 ^ length y.counts) old.seats.opening may.2)

-- a page is put into a slot
pub puts : (z : Opening) (words : List ℕ) (views : List View) (place : ℕ) (c : CoordSeatView) (slot page : ℕ)
    → ShowsSome z words views
    → get_elem? views place ≡ some (Coord c)
    → MayPut c slot page
    → ShowsSome z (set words (slot_place slot) page) (set views place (Coord (slotted_coord c slot page)))
puts z words views place c slot page some_state at may =
    let s = some_state.state in
    let sh = some_state.shows in
    let later : List ℕ = set words (slot_place slot) page in
    let d : CoordSeatView = slotted_coord c slot page in
    let old : FitsCoord z s c = sh.seats.each place (Coord c) at in
    let known = (of_coord z s words views place c sh at).0 in
    let wide = sh.board.width in
    let past = word_of-past (length z.counts) in
    let there = may.there in
    let on : page < length z.counts = subst (λ (y : Opening). page < length y.counts) old.seats.opening may.known in
    let few = sh.opening.few_pages in
    let lawful = sh.opening.limits.pages in
    let all = known.all_slots in
    let holds : (other : ℕ) → other < hot_pages → slot_in later other ≡ get_or d.slots other 0 =
    λ other below.
    elim (cases_eq other slot) [
      | inl same ↦
          rw same
          (get_or-set_same words (slot_place slot) page 0 (omega arith) ∙
          sym (get_or-set_same c.slots slot page 0 (omega arith)))
      | inr apart ↦
          get_or-set_other words (slot_place slot) (slot_place other) page 0 (λ eq. apart (omega arith)) ∙
          (known.slots other below ∙ sym (get_or-set_other c.slots slot other page 0 apart))
    ]
    in
    chooses z words views place c d (slot_place slot) page some_state at may.all_in may.joined refl (omega arith)
    (λ q eq. let far = word_of-past q in absurd (omega arith))
    (λ all_in. record {
      published = tt;
      chosen = λ some_mask. absurd (cc);
      slots = holds;
      all_slots = length-set c.slots slot page ∙ known.all_slots;
      slots_fit = All-set (λ (n : ℕ). n < 2 ^ 32) c.slots slot page (omega arith) known.slots_fit;
      read = λ j v found.
          subst (λ (l : List ℕ). l ≡ take (length l) d.slots) (sym (none_read z s words views sh all_in j v found))
          refl;
    })
    tt

-- it is published which slots are in use
pub publishes_slots : (z : Opening) (words : List ℕ) (views : List View) (place : ℕ) (c : CoordSeatView) (bits : ℕ)
    → ShowsSome z words views
    → get_elem? views place ≡ some (Coord c)
    → MayPublishSlots c bits
    → ShowsSome z (set words mask_place bits) (set views place (Coord (published_coord c (slots_put c bits))))
publishes_slots z words views place c bits some_state at may =
    let s = some_state.state in
    let sh = some_state.shows in
    let later : List ℕ = set words mask_place bits in
    let old : FitsCoord z s c = sh.seats.each place (Coord c) at in
    let known = (of_coord z s words views place c sh at).0 in
    let wide = sh.board.width in
    let past = word_of-past (length z.counts) in
    let slotted : has_slots z.limits ≡ true =
    ap (λ (y : Opening). has_slots y.limits) (sym old.seats.opening) ∙ may.slotted in
    let found : get_or later mask_place 0 ≡ bits = get_or-set_same words mask_place bits 0 (omega arith) in
    let lawful : IsChoice z.factor (length z.counts) (slice_index c.slots) bits =
    subst (λ (y : Opening). IsChoice y.factor (length y.counts) (slice_index c.slots) bits) old.seats.opening may.choice
    in
    let holds : (slot : ℕ) → slot < hot_pages → slot_in later slot ≡ slice_index c.slots slot =
    λ slot below.
    get_or-set_other words mask_place (slot_place slot) bits 0 (λ eq. absurd (omega arith)) ∙ known.slots slot below
    in
    chooses z words views place c (published_coord c (slots_put c bits)) mask_place bits some_state at may.all_in
    may.joined refl (omega arith)
    (λ page eq. let far = word_of-past page in absurd (omega arith))
    (λ _. record {
      published =
          mask_by-slots z.limits (slot_in later) (get_or later mask_place 0) slotted ∙
          ((λ m. mask_of_slots (slot_in later) (found m) hot_pages) ∙
          mask_of_slots-same (slot_in later) (slice_index c.slots) bits hot_pages holds);
      chosen = λ _ _.
          subst (IsChoice z.factor (length z.counts) (slot_in later)) (sym found)
          (choice-same z.factor (length z.counts) (slice_index c.slots) (slot_in later) bits
          (λ slot below. sym (holds slot below)) lawful);
      slots = holds;
      all_slots = known.all_slots;
      slots_fit = known.slots_fit;
      read = known.read;
    })
    (mask-below z.factor (length z.counts) (slice_index c.slots) bits lawful)
