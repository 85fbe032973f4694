-- A worker's read of a page's word, or of the mask word, is the event, a glance is the move, and each keeps what the
-- board shows.
use Rattle.std.proofs.Common.{◌≡◌, ℕ, ◌+◌, ◌-◌, ◌^◌, ◌<◌, ◌≤◌, true, false, inl, List, [], ◌∷◌, ◌++◌, length, take, get_or, slice_index, set, subst, ap, sym, ◌∙◌, refl, arith}
use Rattle.std.proofs.Math.Seq.{take-length}
use Rattle.std.proofs.lemmas.List.{length_push, length-take-le, set-get_or, take-take, take_more}
use Rattle.std.proofs.lemmas.List.Elements.{All-cons, All-get_or}
use mathlib.Core.Option.{some}
use lib.ListN.{get_elem?}
use Rattle.like_core.specs.declared.worker_state.WorkerState.TheVariants.{Runs}
use Rattle.like_core.specs.declared.event.Event.TheVariants.{Read, Hot}
use Rattle.like_core.specs.declared.shown.Shown.TheVariants.{Count, Hot as HotShown}
use Rattle.like_core.specs.declared.log.LogEntry.TheVariants.{Did}
use Rattle.like_core.specs.declared.log.Logged.{Logged}
use Rattle.like_core.specs.declared.opening.Opening.{Opening}
use Rattle.like_core.specs.declared.view.PhaseMask.{PhaseMask}
use Rattle.like_core.specs.declared.page_step.PageCall.{PageCall}
use Rattle.like_core.specs.declared.page_step.PageCall.TheVariants.{Read as ReadCall, Glance as GlanceCall}
use Rattle.like_core.specs.declared.page_step.PageStep.{PageStep}
use Rattle.like_core.specs.declared.view.WorkerSeatView.{WorkerSeatView}
use Rattle.like_core.specs.declared.view.View.{View}
use Rattle.like_core.specs.declared.view.View.TheVariants.{Worker}
use Rattle.like_limits.specs.Limits.{hot_pages, total_bound}
use Rattle.like_core.specs.Phase.{IsSplit}
use Rattle.like_core.specs.core.Moves.{IsShownBy, MayMove, Move, after_move, glances as glances_at, makes}
use Rattle.like_core.specs.core.State.{CoreState, is_split_now}
use Rattle.like_core.specs.WorkerState.{phase_of, IsRunning, RunsSplit}
use Rattle.like_core.specs.Post.{MayRead, MayGlance, KnowsSplit, is_split_at, has_read, has_glanced, with_mask, with_slot, slots_read, MayReadSlot}
use Rattle.like_core.specs.OpeningLimits.{has_slots}
use Rattle.like_core.specs.Slots.{IsChoice}
use Rattle.like_core.specs.Additions.{added_before, added_to}
use Rattle.like_core.specs.PageSteps.{additions_among, page_step}
use Rattle.like_core.specs.views.Order.{ComesNext, IsOrder}
use Rattle.like_core.proofs.views.ViewSums.{added_posts, paged}
use Rattle.like_core.proofs.views.Ordered.{applied_now}
use Rattle.like_core.specs.views.Layout.{mask_place, slot_in, slot_place, word_of}
use Rattle.like_core.specs.views.Shows.{Shows, ShowsSome, FitsWorker, IsEntry, IsStep, mask_in}
use Rattle.like_core.proofs.Slots.{choice-same, mask_by-plain, mask_by-slots, mask_of_slots-same}
use Rattle.like_core.proofs.views.KeptOrder.{applies_none, other_step_keeps_order, page_step_keeps_order, same_worker}
use Rattle.like_core.proofs.views.KeptCounts.{counted_same}
use Rattle.like_core.proofs.views.ViewLists.{sum_part}
use Rattle.like_board.proofs.worker.Additions.{count_low}
use Rattle.like_board.proofs.worker.Moves.{moment_of, one_seat, worker_steps}
use Rattle.like_board.proofs.worker.WorkerSteps.{RunsNow, runs_now}
use Rattle.like_board.proofs.worker.Pages.{split_alike, page_steps}
use Rattle.like_board.proofs.Steps.{steps, steps_by}
use Rattle.like_board.proofs.Tallying.{tallied_on}

-- the first elements of a list that is the beginning of another
taken_before : (front whole : List ℕ) (n : ℕ)
    → n ≤ length front
    → front ≡ take (length front) whole
    → take n front ≡ take n whole
taken_before front whole n within same =
    ap (take n) same ∙ take-take n (length front) whole within

-- a step of a worker that finds a page's count, after which its view is w, is the move, comes last in the order and
-- keeps what is shown; and the count has the worker's own additions and is below the bound of all counts
abbrev pub IsRead : Opening → List ℕ → List View → ℕ → WorkerSeatView → ℕ → Move → PageCall → WorkerSeatView → Type 0
IsRead z words views place v page move call w =
    IsEntry z [] move (Count (get_or words (word_of page) 0))
    (Did (page_step v.worker (phase_of v.state) page (get_or words (word_of page) 0) call)) (Worker v) (Worker w)
    × ShowsSome z (set words (word_of page) (get_or words (word_of page) 0)) (set views place (Worker w))
    × (added_to page (additions_among v.did) ≤ get_or words (word_of page) 0)
    × (get_or words (word_of page) 0 < total_bound)

-- a read or a glance, after which the view has these steps and entries, is the move, if that changes nothing, shows
-- the count and is permitted, and if the order is kept
reads_word : (z : Opening) (words : List ℕ) (views : List View) (place : ℕ) (v : WorkerSeatView) (page : ℕ)
    (move : Move) (call : PageCall) (ds : List PageStep) (logged : List Logged)
    → (some_state : ShowsSome z words views)
    → get_elem? views place ≡ some (Worker v)
    → IsRunning v.state
    → page < length v.opening.marks
    → KnowsSplit v page
    → after_move z some_state.state move ≡ some_state.state
    → IsShownBy z some_state.state move
    (Count (slice_index z.counts page + length (some_state.state.applied page)))
    → (some_state.state.state v.worker ≡ Runs some_state.state.phase → v.worker < z.workers → page < length z.counts
    → is_split_now z some_state.state page ≡ is_split_at v page
    → MayMove z some_state.state move)
    → additions_among ds ≡ additions_among v.did
    → (ComesNext z some_state.state views place v page (get_or words (word_of page) 0)
    → IsOrder z some_state.state views some_state.log
    → IsOrder z some_state.state (set views place (Worker (record v { did = ds; logged = logged })))
    (Did (page_step v.worker (phase_of v.state) page (get_or words (word_of page) 0) call) ∷ some_state.log))
    → IsRead z words views place v page move call (record v { did = ds; logged = logged })
reads_word z words views place v page move call ds logged some_state at running may_there knows stays shown permitted
    same_adds keep_order =
    let s = some_state.state in
    let sh = some_state.shows in
    let old : FitsWorker z s v = sh.seats.each place (Worker v) at in
    let now : RunsNow (λ _. Unit {0}) z s v = runs_now (λ _. Unit {0}) z words views place v some_state at running in
    let present : phase_of v.state ≡ s.phase = ap phase_of now.runs in
    let marks : length v.opening.marks ≡ length z.counts =
    ap (λ (y : Opening). length y.marks) old.opening ∙ sh.opening.marks
    in
    let on : page < length z.counts = omega arith in
    let same : is_split_now z s page ≡ is_split_at v page =
    split_alike z s v page old present knows in
    let sums = applied_now z (moment_of z words views some_state) page in
    let posts = added_posts page views in
    let part = sum_part (paged page) views place (Worker v) at in
    let count : ℕ = get_or words (word_of page) 0 in
    let found : count ≡ get_or z.counts page 0 + length (s.applied page) = sh.board.pages page on in
    let w : WorkerSeatView = record v { did = ds; logged = logged } in
    let fits : FitsWorker z s w =
    record {
      opening = old.opening;
      there = old.there;
      state = old.state;
      number = old.number;
      ending = old.ending;
      masks = old.masks;
      slots = old.slots;
    }
    in
    let shows : Shows z s (set words (word_of page) count) (set views place (Worker w)) =
    page_steps z s s.unmerged s.applied words views place v w page count sh at refl refl on found
    (λ q other. refl)
    sh.merged
    fits
    (counted_same z.counts views place (Worker v) (Worker w) sh.coord.counted at (λ k p. ap (added_before k p) same_adds)
    sh.counted)
    in
    let step : PageStep = page_step v.worker (phase_of v.state) page count call in
    let told =
    steps z words views place (word_of page) count (Worker v) (Worker w) [] move (Count count) (Did step ∷ []) s some_state at
    (record {
      before = tt;
      permits = permitted now.here old.there on same;
      tells = subst (λ (n : ℕ). IsShownBy z s move (Count n)) (sym found) shown;
    })
    stays shows
    (keep_order
    (record { mine = at; once = one_seat z s words views place v sh at; present = present; finds = found })
    some_state.order)
    (tallied_on z.limits s s views place (Worker v) (Worker w) (λ _. refl) at
    (λ q. ap (λ xs. z.limits.likes - added_to q xs) same_adds) some_state.tallied)
    in (
      told.0,
      told.1,
      omega arith,
      omega (
        arith,
        count_low z.counts page on sh.opening.counts,
        some_state.tallied page,
        sh.opening.limits.likes,
        found,
      ),
    )

-- a read is the event
pub reads : (z : Opening) (words : List ℕ) (views : List View) (place : ℕ) (v : WorkerSeatView) (page : ℕ)
    → MayRead v page
    → (some_state : ShowsSome z words views)
    → get_elem? views place ≡ some (Worker v)
    → IsRead z words views place v page (makes (Read v.worker page)) ReadCall
    (has_read v page (get_or words (word_of page) 0) (length some_state.log))
reads z words views place v page may some_state at =
    let count : ℕ = get_or words (word_of page) 0 in
    let w : WorkerSeatView = has_read v page count (length some_state.log) in
    reads_word z words views place v page
    (makes (Read v.worker page)) ReadCall w.did w.logged some_state at may.runs may.there may.known refl refl
    (λ runs there on
    same. record { there = (there, on); suits = (runs, same ∙ may.plain); leaves_last = tt; room = tt })
    refl
    (λ next. page_step_keeps_order z some_state.state some_state.state views some_state.log place v page count ReadCall next
    tt (applies_none v.worker page some_state.state))

-- a glance is the move
pub glances : (z : Opening) (words : List ℕ) (views : List View) (place : ℕ) (v : WorkerSeatView) (page : ℕ)
    → MayGlance v page
    → (some_state : ShowsSome z words views)
    → get_elem? views place ≡ some (Worker v)
    → IsRead z words views place v page (glances_at v.worker page) GlanceCall
    (has_glanced v page (get_or words (word_of page) 0) (length some_state.log))
glances z words views place v page may some_state at =
    let count : ℕ = get_or words (word_of page) 0 in
    let w : WorkerSeatView = has_glanced v page count (length some_state.log) in
    reads_word z words views place v page
    (glances_at v.worker page) GlanceCall w.did w.logged some_state at may.runs may.there may.known refl refl
    (λ runs there on
    same. record { there = there; known = on; runs = runs; split = same ∙ may.split })
    refl
    (λ next. page_step_keeps_order z some_state.state some_state.state views some_state.log place v page count GlanceCall
    next tt (applies_none v.worker page some_state.state))

-- a read of a word after which the view w has the additions and reads that it had keeps what the board shows
word_reads : (z : Opening) (words : List ℕ) (views : List View) (place : ℕ) (v w : WorkerSeatView) (word : ℕ)
    → (some_state : ShowsSome z words views)
    → get_elem? views place ≡ some (Worker v)
    → w ≡ record v { masks = w.masks; slots = w.slots }
    → FitsWorker z some_state.state w
    → w.slots ≡ take (length w.slots) some_state.shows.coord.slots
    → Shows z some_state.state (set words word (get_or words word 0)) (set views place (Worker w))
word_reads z words views place v w word some_state at rest fits slots =
    let s = some_state.state in
    let sh = some_state.shows in
    let same : set words word (get_or words word 0) ≡ words = set-get_or words word 0 in
    subst (λ (later : List ℕ). Shows z s later (set views place (Worker w))) (sym same)
    (worker_steps z s s words words views place v w sh at (ap (λ (x : WorkerSeatView). x.worker) rest)
    refl
    sh.board.phase
    sh.board.pages
    (record { slots = λ slot below. refl; mask = refl })
    sh.board.mask
    sh.board.chosen
    sh.merged
    fits
    slots
    (λ u none seat f. f)
    (counted_same z.counts views place (Worker v) (Worker w) sh.coord.counted at
    (λ k p. ap (λ (x : WorkerSeatView). added_before k p (additions_among x.did)) rest) sh.counted))

-- a read of the mask word that tells the phase's mask is the event
tells_mask : (z : Opening) (words : List ℕ) (views : List View) (place : ℕ) (v : WorkerSeatView) (mask : ℕ)
    → (some_state : ShowsSome z words views)
    → get_elem? views place ≡ some (Worker v)
    → RunsSplit v.state
    → mask ≡ mask_in z words
    → IsStep z (Hot v.worker) (HotShown mask) (Worker v) (Worker (with_mask v mask))
    × ShowsSome z (set words mask_place (get_or words mask_place 0)) (set views place (Worker (with_mask v mask)))
tells_mask z words views place v mask some_state at split_phase mask_is =
    let s = some_state.state in
    let sh = some_state.shows in
    let w : WorkerSeatView = with_mask v mask in
    let old : FitsWorker z s v = sh.seats.each place (Worker v) at in
    let now : RunsNow IsSplit z s v = runs_now IsSplit z words views place v some_state at split_phase in
    let present : phase_of v.state ≡ s.phase = ap phase_of now.runs in
    let found_is : mask ≡ s.hot s.phase = mask_is ∙ sh.board.mask (inl now.kind) in
    let P : PhaseMask → Type 0 = λ m. (m.phase ≤ s.phase) × (m.mask ≡ s.hot m.phase) in
    let fits : FitsWorker z s w =
    record {
      opening = old.opening;
      there = old.there;
      state = old.state;
      number = old.number;
      ending = old.ending;
      masks = All-cons P (record { phase = phase_of v.state; mask = mask }) v.masks
          (omega arith, found_is ∙ ap s.hot (sym present)) old.masks;
      slots = λ _. refl;
    }
    in
    steps_by z words views place mask_place (get_or words mask_place 0) (Worker v) (Worker w) (Hot v.worker)
    (HotShown mask) s some_state at
    (record {
      before = tt;
      permits = record { there = now.there; suits = (now.here, now.kind); leaves_last = tt; room = tt };
      tells = ap HotShown found_is;
    })
    refl (word_reads z words views place v w mask_place some_state at refl fits refl)
    (omega arith) (λ _. refl) (same_worker v w refl refl refl) (λ _. refl)

-- on a board without slots the mask word is the mask
pub reads_mask : (z : Opening) (words : List ℕ) (views : List View) (place : ℕ) (v : WorkerSeatView)
    → ShowsSome z words views
    → get_elem? views place ≡ some (Worker v)
    → RunsSplit v.state
    → has_slots z.limits ≡ false
    → IsStep z (Hot v.worker) (HotShown (get_or words mask_place 0)) (Worker v)
    (Worker (with_mask v (get_or words mask_place 0)))
    × ShowsSome z (set words mask_place (get_or words mask_place 0))
    (set views place (Worker (with_mask v (get_or words mask_place 0))))
reads_mask z words views place v some_state at split_phase plain =
    tells_mask z words views place v (get_or words mask_place 0) some_state at split_phase
    (sym (mask_by-plain z.limits (slot_in words) (get_or words mask_place 0) plain))

-- the slots that a worker has read, once these are all, hold what their words do
read_all : (z : Opening) (s : CoreState) (words : List ℕ) (views : List View) (place : ℕ) (v : WorkerSeatView)
    → Shows z s words views
    → get_elem? views place ≡ some (Worker v)
    → length v.slots ≡ hot_pages
    → (slot : ℕ)
    → slot < hot_pages
    → slot_in words slot ≡ slice_index v.slots slot
read_all z s words views place v sh at all slot below =
    let whole : v.slots ≡ sh.coord.slots =
    sh.seats.slots place v at ∙
    (ap (λ (n : ℕ). take n sh.coord.slots) (all ∙ sym sh.all_slots) ∙ take-length sh.coord.slots)
    in
    sh.slots slot below ∙ ap (λ (l : List ℕ). slice_index l slot) (sym whole)

-- a read of the mask word is the event, where it tells which of the slots are in use that the worker has read; their
-- pages are a lawful choice
pub reads_slots : (z : Opening) (words : List ℕ) (views : List View) (place : ℕ) (v : WorkerSeatView)
    → (some_state : ShowsSome z words views)
    → get_elem? views place ≡ some (Worker v)
    → RunsSplit v.state
    → has_slots z.limits ≡ true
    → length v.slots ≡ hot_pages
    → IsChoice z.factor (length z.marks) (slice_index v.slots) (get_or words mask_place 0)
    × IsStep z (Hot v.worker) (HotShown (slots_read v (get_or words mask_place 0))) (Worker v)
    (Worker (with_mask v (slots_read v (get_or words mask_place 0))))
    × ShowsSome z (set words mask_place (get_or words mask_place 0))
    (set views place (Worker (with_mask v (slots_read v (get_or words mask_place 0)))))
reads_slots z words views place v some_state at split_phase slotted all =
    let s = some_state.state in
    let sh = some_state.shows in
    let found : ℕ = get_or words mask_place 0 in
    let same = read_all z s words views place v sh at all in
    let now : RunsNow IsSplit z s v = runs_now IsSplit z words views place v some_state at split_phase in
    let lawful : IsChoice z.factor (length z.counts) (slice_index v.slots) found =
    choice-same z.factor (length z.counts) (slot_in words) (slice_index v.slots) found same
    (sh.board.chosen (inl now.kind) slotted)
    in
    let told =
    tells_mask z words views place v (slots_read v found) some_state at split_phase
    (sym (mask_by-slots z.limits (slot_in words) found slotted ∙
    mask_of_slots-same (slot_in words) (slice_index v.slots) found hot_pages same))
    in
    (subst (λ (n : ℕ). IsChoice z.factor n (slice_index v.slots) found) (sym sh.opening.marks) lawful, told.0, told.1)

-- a read of a slot's word finds the page that the coordinator put there, a number of 32 bits
pub reads_slot : (z : Opening) (words : List ℕ) (views : List View) (place : ℕ) (v : WorkerSeatView) (slot : ℕ)
    → (some_state : ShowsSome z words views)
    → get_elem? views place ≡ some (Worker v)
    → MayReadSlot v slot
    → (slot_in words slot < 2 ^ 32)
    × ShowsSome z (set words (slot_place slot) (slot_in words slot))
    (set views place (Worker (with_slot v slot (slot_in words slot))))
reads_slot z words views place v slot some_state at may =
    let s = some_state.state in
    let sh = some_state.shows in
    let page : ℕ = slot_in words slot in
    let w : WorkerSeatView = with_slot v slot page in
    let old : FitsWorker z s v = sh.seats.each place (Worker v) at in
    let fits : FitsWorker z s w =
    record {
      opening = old.opening;
      there = old.there;
      state = old.state;
      number = old.number;
      ending = old.ending;
      masks = old.masks;
      slots = λ not_split. absurd (not_split may.split);
    }
    in
    let put : ℕ = slice_index sh.coord.slots slot in
    let next = may.next in
    let here = may.there in
    let all = sh.all_slots in
    let found : page ≡ put = sh.slots slot here in
    let long : length w.slots ≡ slot + 1 =
    (let pushed = length_push (take slot v.slots) page in
    let taken = length-take-le slot v.slots next in
    omega arith)
    in
    let before : take slot v.slots ≡ take slot sh.coord.slots = taken_before v.slots sh.coord.slots slot next
    (sh.seats.slots place v at)
    in
    let slots : w.slots ≡ take (length w.slots) sh.coord.slots =
    ((λ m. before m ++ found m ∷ []) ∙ sym (take_more sh.coord.slots slot 0 (omega arith)))
    ∙ ap (λ (n : ℕ). take n sh.coord.slots) (sym long)
    in (
      subst (λ (n : ℕ). n < 2 ^ 32) (sym found)
          (All-get_or (λ (n : ℕ). n < 2 ^ 32) sh.coord.slots slot 0 (omega arith) sh.slots_fit),
      record {
        state = s;
        reachable = some_state.reachable;
        shows = word_reads z words views place v w (slot_place slot) some_state at refl fits slots;
        tallied = tallied_on z.limits s s views place (Worker v) (Worker w) (λ _. refl) at (λ _. refl) some_state.tallied;
        log = some_state.log;
        order = other_step_keeps_order z s s views some_state.log place (Worker v) (Worker w) at
            (same_worker v w refl refl refl) (omega arith) (λ _. refl) some_state.order;
      },
    )
