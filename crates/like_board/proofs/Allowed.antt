-- Each step is allowed by the rule, and tells what it is said to tell.
use Rattle.std.proofs.Common.{◌≡◌, ◌≢◌, ℕ, ◌+◌, ◌%◌, ◌^◌, ◌<◌, ◌≤◌, ◌==◌, Bool, false, inl, inr, eq-eqb, List, [], ◌∷◌, ◌++◌, length, get_or, slice_index, slice_set, subst, ap, sym, ◌∙◌, refl, arith}
use Rattle.std.proofs.lemmas.Bool.{cases_eq, ne_eqb}
use Rattle.std.proofs.lemmas.List.{set-get_or}
use prog.Atomic.{either}
use mathlib.Core.Option.{some}
use lib.ListN.{get_elem?}
use Rattle.atomic_table.specs.Table.{Me, keeps, Allows, Splits, Joins}
use Rattle.atomic_table.proofs.Lists.{set_again}
use Rattle.like_core.specs.declared.worker_state.WorkerState.TheVariants.{Gone}
use Rattle.like_core.specs.declared.event.Event.{Event}
use Rattle.like_core.specs.declared.event.Event.TheVariants.{Read, Hot, CoordRead, Announce, Release}
use Rattle.like_core.specs.declared.shown.Shown.TheVariants.{Seen, Done, Old, Count, Hot as HotShown}
use Rattle.like_core.specs.declared.log.LogEntry.TheVariants.{Saw, Did}
use Rattle.like_core.specs.declared.page_step.PageCall.{PageCall}
use Rattle.like_core.specs.declared.page_step.PageCall.TheVariants.{Add, Read as ReadCall, Glance as GlanceCall}
use Rattle.like_core.specs.declared.form.Form.{Form}
use Rattle.like_core.specs.declared.opening.Opening.{Opening}
use Rattle.like_core.specs.declared.view.WorkerSeatView.{WorkerSeatView}
use Rattle.like_core.specs.declared.view.CoordSeatView.{CoordSeatView}
use Rattle.like_core.specs.declared.view.View.{View}
use Rattle.like_core.specs.declared.view.View.TheVariants.{Coord, Worker, Spent}
use Rattle.like_core.specs.OpeningLimits.{has_slots}
use Rattle.like_core.specs.core.Moves.{LetsReturn, Move, comes_back, glances as glances_at, makes}
use Rattle.like_core.specs.Slots.{IsChoice}
use Rattle.like_core.specs.word.Forms.{WordForm, form_of}
use Rattle.like_core.specs.Post.{MayAdd, MayRead, MayGlance, MayReadSlot, MayReadSlots, number_of, fresh, looked_at, returned, added, has_read, has_glanced, with_mask, with_slot, slots_read}
use Rattle.like_core.specs.PageSteps.{page_step}
use Rattle.like_core.specs.WorkerState.{RunsSplit, phase_of, running_sight}
use Rattle.like_core.specs.views.Views.{MayAnnounce, MayCount, MayPublish, MayPut, MayPublishSlots, MayRelease, likes_merged, adding, looked_coord, announced_coord, counted_coord, published_coord, slotted_coord, slots_put, mask_released, released_coord, made_coord, gathered_coord}
use Rattle.like_core.specs.views.Actions.{Reads, Glances, Announces, Releases}
use Rattle.like_core.specs.views.Layout.{mask_place, slot_place, word_of}
use Rattle.like_core.specs.views.Shows.{ShowsSome, IsEntry, IsKnown, IsStep}
use Rattle.like_core.proofs.views.KeptOrder.{new_seat_keeps_order}
use Rattle.like_core.proofs.views.Apart.{word_of-injective}
use Rattle.like_board.specs.declared.key.Key.{Key}
use Rattle.like_board.specs.Known.{worker_view_of, coord_view_of}
use Rattle.like_board.specs.Rule.{opening_of, IsShowing}
use Rattle.like_board.specs.Plays.{CameBack, Looked, Surveyed, phase_at, sight_at, coord_sight_at, TellsLook, TellsSurvey, TellsWorker, TellsReturn, TellsCoord, TellsAdd, TellsRead, TellsMask, TellsSlot, TellsSlots, TellsPutAt, TellsCount, OfWord}
use Rattle.like_board.specs.Closed.{TellsLast}
use Rattle.like_board.proofs.coordinator.Leads.{splits}
use Rattle.like_board.proofs.worker.Moves.{coord_opens, known_of, no_seat, worker_opens}
use Rattle.like_board.proofs.worker.WorkerSteps.{PutsIn, looks, returns}
use Rattle.like_board.proofs.coordinator.CoordSteps.{surveys, announces, releases}
use Rattle.like_board.proofs.coordinator.Choosing.{counts, publishes, puts, publishes_slots}
use Rattle.like_board.proofs.Tallying.{tallied_made}
use Rattle.like_board.proofs.worker.Additions.{adds}
use Rattle.like_board.proofs.worker.Readings.{IsRead, reads, glances, reads_mask, reads_slot, reads_slots}
use Rattle.like_board.proofs.Gathering.{gathers}
use Rattle.like_board.proofs.LastCounts.{closes}

-- a word that is stored as it was, and a view that is left, change nothing
unchanged : (z : Opening) (words : List ℕ) (views : List View) (id word : ℕ) (v : View)
    → get_elem? views id ≡ some v
    → ShowsSome z words views
    → ShowsSome z (slice_set words word (get_or words word 0)) (slice_set views id v)
unchanged z words views id word v at shows =
    subst (λ (l : List ℕ). ShowsSome z l (slice_set views id v)) (sym (set-get_or words word 0))
    (subst (λ (l : List View). ShowsSome z words l) (sym (set_again views id v at)) shows)

pub looking : {S : Type 0} (key : Key) (slots id : ℕ) (me : Me S View)
    → me ≡ (Worker (worker_view_of me.0), [])
    → (worker_view_of me.0).state ≢ Gone
    → Allows (IsShowing key) slots id me 0 (λ n. n) (λ found after. TellsLook me.0 found after.0 × (after.1 ≡ []))
looking {S} key slots id me is there = λ st shows _ at _.
    let z = opening_of key in
    let v : WorkerSeatView = worker_view_of me.0 in
    let here : get_elem? st.views id ≡ some (Worker v) = at ∙ ap (λ (m : Me S View). some m.0) is in
    let same = worker_opens z st.words st.views id v shows here in
    let r = looks z st.words st.views id v shows here there in
    let found : ℕ = get_or st.words 0 0 in
    let number : ℕ = length shows.log in
    let w : View = Worker (looked_at v (sight_at z found v.state) number) in (
      w,
      keeps,
      tt,
      r.1,
      (
        record {
          looked = subst (λ (y : Opening). Looked y found number v) (sym same) r.0;
          view = ap (λ (y : Opening). Worker (looked_at v (sight_at y found v.state) number)) (sym same);
        },
        ap (λ (m : Me S View). m.1) is,
      ),
    )

-- what a worker puts into a word by the form of its seat, which is the board's
put_is : (form of_board : Form) (word more : ℕ) (puts : WordForm → ℕ)
    → form ≡ of_board
    → more ≡ puts (form_of form)
    → (form_of form).put word more ≡ (form_of of_board).put word (puts (form_of of_board))
put_is form of_board word more puts same more_is =
    let there : more ≡ puts (form_of of_board) = more_is ∙ ap (λ (f : Form). puts (form_of f)) same in
    λ m. (form_of (same m)).put word (there m)

-- the rule allows a worker to put into the phase word what is an event of its
pub putting_in : {S : Type 0} (key : Key) (slots id : ℕ) (me : Me S View) (form : Form) (more : ℕ)
    {puts : WordForm → ℕ → ℕ} {event : ℕ → Event} {next : WorkerSeatView → WorkerSeatView}
    → PutsIn puts event next (worker_view_of me.0)
    → form ≡ (worker_view_of me.0).opening.limits.form
    → more ≡ puts (form_of form) (worker_view_of me.0).worker
    → me ≡ (Worker (worker_view_of me.0), [])
    → Allows (IsShowing key) slots id me 0 (λ n. (form_of form).put n more)
    (λ found after. TellsWorker (λ v w. IsStep v.opening (event v.worker) Done (Worker v) (Worker w)) next me.0 after.0
    × (after.1 ≡ []))
putting_in {S} key slots id me form more {puts} {event} {next} does form_is more_is is = λ st shows _ at _.
    let z = opening_of key in
    let v : WorkerSeatView = worker_view_of me.0 in
    let w : View = Worker (next v) in
    let here : get_elem? st.views id ≡ some (Worker v) = at ∙ ap (λ (m : Me S View). some m.0) is in
    let same = worker_opens z st.words st.views id v shows here in
    let formed : form ≡ z.limits.form = form_is ∙ ap (λ (y : Opening). y.limits.form) same in
    let r = does.each z st.words st.views id shows here in (
      w,
      keeps,
      tt,
      subst (λ (n : ℕ). ShowsSome z (slice_set st.words 0 n) (slice_set st.views id w))
          (sym (put_is form z.limits.form (get_or st.words 0 0) more (λ f. puts f v.worker) formed more_is)) r.1,
      (
        record {
          view = refl;
          step = subst (λ (y : Opening). IsStep y (event v.worker) Done (Worker v) w) (sym same) r.0;
        },
        ap (λ (m : Me S View). m.1) is,
      ),
    )

pub returning : {S : Type 0} (key : Key) (slots id : ℕ) (me : Me S View) (expected new : ℕ)
    → me ≡ (Worker (worker_view_of me.0), [])
    → (worker_view_of me.0).state ≡ Gone
    → LetsReturn (worker_view_of me.0).opening.limits
    → expected % 2 ≡ 0
    → new + (form_of (worker_view_of me.0).opening.limits.form).retirement (worker_view_of me.0).worker ≡ expected
    → Allows (IsShowing key) slots id me 0 (λ n. either (n == expected) new n)
    (λ found after. TellsReturn expected me.0 found after.0 × (after.1 ≡ []))
returning {S} key slots id me expected new is gone lets even new_is = λ st shows _ at _.
    let z = opening_of key in
    let v : WorkerSeatView = worker_view_of me.0 in
    let here : get_elem? st.views id ≡ some (Worker v) = at ∙ ap (λ (m : Me S View). some m.0) is in
    let same = worker_opens z st.words st.views id v shows here in
    let found : ℕ = get_or st.words 0 0 in
    let none : me.1 ≡ [] = ap (λ (m : Me S View). m.1) is in
    elim (cases_eq found expected) [
      | inl hit ↦
          let r = returns z st.words st.views id v new shows here gone
          (subst (λ (y : Opening). LetsReturn y.limits) same lets)
          (ap (λ n. n % 2) hit ∙ even)
          (subst (λ (y : Opening). new + (form_of y.limits.form).retirement v.worker ≡ expected) same new_is ∙ sym hit)
          in
          let phase : ℕ = phase_at z found in
          let w : View = Worker (returned v phase (length shows.log)) in
          let came : CameBack phase me.0 w =
          record {
            within = subst (λ (y : Opening). phase ≤ y.limits.last_phase) (sym same) r.within;
            view = refl;
            step = subst (λ (y : Opening). IsEntry y [] (comes_back v.worker) (Seen (running_sight phase))
                (Saw v.worker phase) (Worker v) w) (sym same) r.step;
          }
          in (
            w,
            keeps,
            tt,
            subst (λ (b : Bool). ShowsSome z (slice_set st.words 0 (either b new found)) (slice_set st.views id w))
                (sym (eq-eqb found expected hit)) r.shows,
            (
              record {
                back = λ _. subst (λ (y : Opening). CameBack (phase_at y found) me.0 w) (sym same) came;
                missed = λ miss. absurd (miss hit);
              },
              none,
            ),
          )
      | inr miss ↦ (
        me.0,
        keeps,
        tt,
        subst (λ (b : Bool). ShowsSome z (slice_set st.words 0 (either b new found)) (slice_set st.views id me.0))
            (sym (ne_eqb found expected miss)) (unchanged z st.words st.views id 0 me.0 at shows),
        (record { back = λ hit. absurd (miss hit); missed = λ _. refl }, none),
      )
    ]

pub surveying : {S : Type 0} (key : Key) (slots id : ℕ) (me : Me S View)
    → me ≡ (Coord (coord_view_of me.0), [])
    → Allows (IsShowing key) slots id me 0 (λ n. n) (λ found after. TellsSurvey me.0 found after.0 × (after.1 ≡ []))
surveying {S} key slots id me is = λ st shows _ at _.
    let z = opening_of key in
    let c : CoordSeatView = coord_view_of me.0 in
    let here : get_elem? st.views id ≡ some (Coord c) = at ∙ ap (λ (m : Me S View). some m.0) is in
    let same = coord_opens z st.words st.views id c shows here in
    let r = surveys z st.words st.views id c shows here in
    let found : ℕ = get_or st.words 0 0 in
    let d : View = Coord (looked_coord c found (coord_sight_at z found)) in (
      d,
      keeps,
      tt,
      r.1,
      (
        record {
          surveyed = subst (λ (y : Opening). Surveyed y found c) (sym same) r.0;
          view = ap (λ (y : Opening). Coord (looked_coord c found (coord_sight_at y found))) (sym same);
          known = subst (λ (y : Opening). IsKnown y d) (sym same)
              (known_of z _ st.views id (Coord c) d here r.1);
        },
        ap (λ (m : Me S View). m.1) is,
      ),
    )

pub announcing : {S : Type 0} (key : Key) (slots id : ℕ) (me : Me S View)
    → me ≡ (Coord (coord_view_of me.0), [])
    → MayAnnounce (coord_view_of me.0)
    → Allows (IsShowing key) slots id me 0 (λ n. (n + 1) % 2 ^ 64)
    (λ found after. TellsCoord Announces announced_coord me.0 after.0 × (after.1 ≡ []))
announcing {S} key slots id me is may = λ st shows _ at _.
    let z = opening_of key in
    let c : CoordSeatView = coord_view_of me.0 in
    let here : get_elem? st.views id ≡ some (Coord c) = at ∙ ap (λ (m : Me S View). some m.0) is in
    let same = coord_opens z st.words st.views id c shows here in
    let r = announces z st.words st.views id c shows here may in (
      Coord (announced_coord c),
      keeps,
      tt,
      r.1,
      (
        record {
          view =
              refl;
          step = subst (λ (y : Opening). IsStep y Announce Done (Coord c) (Coord (announced_coord c)))
              (sym same) r.0;
        },
        ap (λ (m : Me S View). m.1) is,
      ),
    )

pub releasing : {S : Type 0} (key : Key) (slots id : ℕ) (me : Me S View) (seen new : ℕ)
    → new ≡ (form_of (coord_view_of me.0).opening.limits.form).released seen
    → seen ≡ (coord_view_of me.0).word
    → me ≡ (Coord (coord_view_of me.0), [])
    → MayRelease (coord_view_of me.0)
    → Allows (IsShowing key) slots id me 0 (λ _. new)
    (λ found after. TellsCoord Releases released_coord me.0 after.0 × (after.1 ≡ []))
releasing {S} key slots id me seen new new_is seen_is is may = λ st shows _ at _.
    let z = opening_of key in
    let c : CoordSeatView = coord_view_of me.0 in
    let here : get_elem? st.views id ≡ some (Coord c) = at ∙ ap (λ (m : Me S View). some m.0) is in
    let same = coord_opens z st.words st.views id c shows here in
    let r = releases z st.words st.views id c seen shows here may seen_is in (
      Coord (released_coord c),
      keeps,
      tt,
      subst (λ (n : ℕ). ShowsSome z (slice_set st.words 0 n) (slice_set st.views id (Coord (released_coord c))))
          (sym (new_is ∙ ap (λ (y : Opening). (form_of y.limits.form).released seen) same)) r.1,
      (
        record {
          view =
              refl;
          step = subst (λ (y : Opening). IsStep y (Release (mask_released c)) Done (Coord c)
              (Coord (released_coord c))) (sym same) r.0;
        },
        ap (λ (m : Me S View). m.1) is,
      ),
    )

counting_page : {S : Type 0} (key : Key) (slots id : ℕ) (me : Me S View) (page : ℕ)
    → me ≡ (Coord (coord_view_of me.0), [])
    → MayCount (coord_view_of me.0) page
    → Allows (IsShowing key) slots id me (word_of page) (λ n. n)
    (λ found after. OfWord word_of TellsCount (word_of page) me.0 found after.0 × (after.1 ≡ []))
counting_page {S} key slots id me page is may = λ st shows _ at _.
    let z = opening_of key in
    let c : CoordSeatView = coord_view_of me.0 in
    let found : ℕ = get_or st.words (word_of page) 0 in
    let d : CoordSeatView = counted_coord c page found in
    let here : get_elem? st.views id ≡ some (Coord c) = at ∙ ap (λ (m : Me S View). some m.0) is in
    let same = coord_opens z st.words st.views id c shows here in
    let r = counts z st.words st.views id c page shows here may in
    let told : TellsCount page me.0 found (Coord d) =
    record {
      view =
          refl;
      known = subst (λ (y : Opening). IsKnown y (Coord d)) (sym same)
          (known_of z _ st.views id (Coord c) (Coord d) here r.1);
      step = subst (λ (y : Opening). IsStep y (CoordRead page) (Count found) (Coord c) (Coord d))
          (sym same) r.0;
    }
    in (
      Coord d,
      keeps,
      tt,
      r.1,
      (
        λ q on. subst (λ (p : ℕ). TellsCount p me.0 found (Coord d)) (word_of-injective page q on) told,
        ap (λ (m : Me S View). m.1) is,
      ),
    )

pub counting : {S : Type 0} (key : Key) (slots id : ℕ) (me : Me S View) (page word : ℕ)
    → word ≡ word_of page
    → me ≡ (Coord (coord_view_of me.0), [])
    → MayCount (coord_view_of me.0) page
    → Allows (IsShowing key) slots id me word (λ n. n)
    (λ found after. OfWord word_of TellsCount word me.0 found after.0 × (after.1 ≡ []))
counting {S} key slots id me page word word_is is may =
    subst (λ (i : ℕ). Allows (IsShowing key) slots id me i (λ n. n)
    (λ found after. OfWord word_of TellsCount i me.0 found after.0 × (after.1 ≡ []))) (sym word_is)
    (counting_page key slots id me page is may)

pub publishing : {S : Type 0} (key : Key) (slots id : ℕ) (me : Me S View) (mask : ℕ)
    → me ≡ (Coord (coord_view_of me.0), [])
    → MayPublish (coord_view_of me.0) mask
    → Allows (IsShowing key) slots id me mask_place (λ _. mask)
    (λ found after. (after.0 ≡ Coord (published_coord (coord_view_of me.0) mask)) × (after.1 ≡ []))
publishing {S} key slots id me mask is may = λ st shows _ at _.
    let z = opening_of key in
    let c : CoordSeatView = coord_view_of me.0 in
    let d : CoordSeatView = published_coord c mask in
    let here : get_elem? st.views id ≡ some (Coord c) = at ∙ ap (λ (m : Me S View). some m.0) is in (
      Coord d,
      keeps,
      tt,
      publishes z st.words st.views id c mask shows here may,
      (refl, ap (λ (m : Me S View). m.1) is),
    )

putting_into : {S : Type 0} (key : Key) (slots id : ℕ) (me : Me S View) (slot page : ℕ)
    → me ≡ (Coord (coord_view_of me.0), [])
    → MayPut (coord_view_of me.0) slot page
    → Allows (IsShowing key) slots id me (slot_place slot) (λ _. page)
    (λ found after. TellsPutAt (slot_place slot) page me.0 after.0 × (after.1 ≡ []))
putting_into {S} key slots id me slot page is may = λ st shows _ at _.
    let z = opening_of key in
    let c : CoordSeatView = coord_view_of me.0 in
    let d : CoordSeatView = slotted_coord c slot page in
    let here : get_elem? st.views id ≡ some (Coord c) = at ∙ ap (λ (m : Me S View). some m.0) is in (
      Coord d,
      keeps,
      tt,
      puts z st.words st.views id c slot page shows here may,
      (
        λ other on.
            let same : slot ≡ other = omega arith in
            ap (λ (k : ℕ). Coord (slotted_coord c k page)) same,
        ap (λ (m : Me S View). m.1) is,
      ),
    )

pub putting : {S : Type 0} (key : Key) (slots id : ℕ) (me : Me S View) (slot page word : ℕ)
    → word ≡ slot_place slot
    → me ≡ (Coord (coord_view_of me.0), [])
    → MayPut (coord_view_of me.0) slot page
    → Allows (IsShowing key) slots id me word (λ _. page)
    (λ found after. TellsPutAt word page me.0 after.0 × (after.1 ≡ []))
putting {S} key slots id me slot page word word_is is may =
    subst (λ (i : ℕ). Allows (IsShowing key) slots id me i (λ _. page)
    (λ found after. TellsPutAt i page me.0 after.0 × (after.1 ≡ []))) (sym word_is)
    (putting_into key slots id me slot page is may)

pub publishing_slots : {S : Type 0} (key : Key) (slots id : ℕ) (me : Me S View) (bits : ℕ)
    → me ≡ (Coord (coord_view_of me.0), [])
    → MayPublishSlots (coord_view_of me.0) bits
    → Allows (IsShowing key) slots id me mask_place (λ _. bits)
    (λ found after. let c = coord_view_of me.0 in
    (after.0 ≡ Coord (published_coord c (slots_put c bits))) × (after.1 ≡ []))
publishing_slots {S} key slots id me bits is may = λ st shows _ at _.
    let z = opening_of key in
    let c : CoordSeatView = coord_view_of me.0 in
    let here : get_elem? st.views id ≡ some (Coord c) = at ∙ ap (λ (m : Me S View). some m.0) is in (
      Coord (published_coord c (slots_put c bits)),
      keeps,
      tt,
      publishes_slots z st.words st.views id c bits shows here may,
      (refl, ap (λ (m : Me S View). m.1) is),
    )

pub making : {S : Type 0} (key : Key) (id : ℕ) (v : View)
    → v ≡ Coord (coord_view_of v)
    → (coord_view_of v).made < (coord_view_of v).opening.workers
    → Splits {S = S} (IsShowing key) id v (Coord (made_coord (coord_view_of v)))
    (Worker (fresh (coord_view_of v).opening (coord_view_of v).made))
making {S} key id v is room = λ st shows at.
    let z = opening_of key in
    let c : CoordSeatView = coord_view_of v in
    let here : get_elem? st.views id ≡ some (Coord c) = at ∙ ap some is in
    let same = coord_opens z st.words st.views id c shows here in
    let P : Opening → Type 0 = λ y. c.made < y.workers in
    let Q : Opening → Type 0 =
    λ y. ShowsSome z st.words (slice_set st.views id (Coord (made_coord c)) ++ Worker (fresh y c.made) ∷ []) in
    let below : c.made < z.workers = subst P same room in
    let few = shows.shows.opening.few_workers in
    subst Q (sym same) (record {
      state = shows.state;
      reachable = shows.reachable;
      shows = splits z shows.state st.words st.views id c shows.shows here below;
      tallied = tallied_made z shows.state st.views id c here (omega arith) shows.tallied;
      log = shows.log;
      order = new_seat_keeps_order z shows.state st.views shows.log id c here
          (no_seat z shows.state st.words st.views id c shows.shows here) shows.order;
    })

adding_page : {S : Type 0} (key : Key) (slots id : ℕ) (me : Me S View) (page n : ℕ)
    → me ≡ (Worker (worker_view_of me.0), [])
    → MayAdd (worker_view_of me.0) page n
    → Allows (IsShowing key) slots id me (word_of page) (λ k. (k + n) % 2 ^ 64)
    (λ found after. OfWord word_of (λ p. TellsAdd p n) (word_of page) me.0 found after.0 × (after.1 ≡ []))
adding_page {S} key slots id me page n is may = λ st shows _ at _.
    let z = opening_of key in
    let v : WorkerSeatView = worker_view_of me.0 in
    let found : ℕ = get_or st.words (word_of page) 0 in
    let w : WorkerSeatView = added v page found n (length shows.log) in
    let here : get_elem? st.views id ≡ some (Worker v) = at ∙ ap (λ (m : Me S View). some m.0) is in
    let same = worker_opens z st.words st.views id v shows here in
    let r = adds z st.words st.views id v page n shows here may in
    let told : TellsAdd page n me.0 found (Worker w) =
    record {
      view = refl;
      own = r.2;
      step = subst (λ (y : Opening). IsEntry y (likes_merged v page n) (makes (adding v page)) (Old found)
          (Did (page_step v.worker (phase_of v.state) page found (Add n))) (Worker v) (Worker w)) (sym same) r.0;
    }
    in (
      Worker w,
      keeps,
      tt,
      r.1,
      (
        λ q on. subst (λ (p : ℕ). TellsAdd p n me.0 found (Worker w)) (word_of-injective page q on) told,
        ap (λ (m : Me S View). m.1) is,
      ),
    )

pub adding_to : {S : Type 0} (key : Key) (slots id : ℕ) (me : Me S View) (page word n : ℕ)
    → word ≡ word_of page
    → me ≡ (Worker (worker_view_of me.0), [])
    → MayAdd (worker_view_of me.0) page n
    → Allows (IsShowing key) slots id me word (λ k. (k + n) % 2 ^ 64)
    (λ found after. OfWord word_of (λ p. TellsAdd p n) word me.0 found after.0 × (after.1 ≡ []))
adding_to {S} key slots id me page word n word_is is may =
    subst (λ (i : ℕ). Allows (IsShowing key) slots id me i (λ k. (k + n) % 2 ^ 64)
    (λ found after. OfWord word_of (λ p. TellsAdd p n) i me.0 found after.0 × (after.1 ≡ []))) (sym word_is)
    (adding_page key slots id me page n is may)

-- a step that finds a page's count and is this move
finding_page : {S : Type 0} (key : Key) (slots id : ℕ) (me : Me S View) (page : ℕ) (move : Move)
    (call : PageCall) (next : WorkerSeatView → ℕ → ℕ → ℕ → WorkerSeatView)
    → me ≡ (Worker (worker_view_of me.0), [])
    → ((z : Opening) (words : List ℕ) (views : List View) → (shows : ShowsSome z words views)
    → get_elem? views id ≡ some (Worker (worker_view_of me.0))
    → IsRead z words views id (worker_view_of me.0) page move call
    (next (worker_view_of me.0) page (get_or words (word_of page) 0) (length shows.log)))
    → ((v : WorkerSeatView) (found number : ℕ) → number_of (next v page found number) ≡ number)
    → (does : WorkerSeatView → ℕ → ℕ → WorkerSeatView → Type 0)
    → ((count : ℕ) (w : WorkerSeatView)
    → IsEntry (worker_view_of me.0).opening [] move (Count count)
    (Did (page_step (worker_view_of me.0).worker (phase_of (worker_view_of me.0).state) page count call))
    (Worker (worker_view_of me.0)) (Worker w)
    → does (worker_view_of me.0) page count w)
    → Allows (IsShowing key) slots id me (word_of page) (λ k. k)
    (λ found after. OfWord word_of (TellsRead does next) (word_of page) me.0 found after.0 × (after.1 ≡ []))
finding_page {S} key slots id me page move call next is reads number_is does act = λ st shows _ at _.
    let z = opening_of key in
    let v : WorkerSeatView = worker_view_of me.0 in
    let found : ℕ = get_or st.words (word_of page) 0 in
    let number : ℕ = length shows.log in
    let w : WorkerSeatView = next v page found number in
    let again : w ≡ next v page found (number_of w) = ap (next v page found) (sym (number_is v found number)) in
    let here : get_elem? st.views id ≡ some (Worker v) = at ∙ ap (λ (m : Me S View). some m.0) is in
    let same = worker_opens z st.words st.views id v shows here in
    let r = reads z st.words st.views shows here in
    let told : TellsRead does next page me.0 found (Worker w) =
    record {
      view = ap Worker again;
      own = r.2;
      bounded = r.3;
      step = subst (does v page found) again (act found w (subst (λ (y : Opening). IsEntry y [] move (Count found)
          (Did (page_step v.worker (phase_of v.state) page found call)) (Worker v) (Worker w)) (sym same) r.0));
    }
    in (
      Worker w,
      keeps,
      tt,
      r.1,
      (
        λ q on. subst (λ (p : ℕ). TellsRead does next p me.0 found (Worker w)) (word_of-injective page q on) told,
        ap (λ (m : Me S View). m.1) is,
      ),
    )

pub reading : {S : Type 0} (key : Key) (slots id : ℕ) (me : Me S View) (page word : ℕ)
    → word ≡ word_of page
    → me ≡ (Worker (worker_view_of me.0), [])
    → MayRead (worker_view_of me.0) page
    → Allows (IsShowing key) slots id me word (λ k. k)
    (λ found after. OfWord word_of (TellsRead Reads has_read) word me.0 found after.0 × (after.1 ≡ []))
reading {S} key slots id me page word word_is is may =
    subst (λ (i : ℕ). Allows (IsShowing key) slots id me i (λ k. k)
    (λ found after. OfWord word_of (TellsRead Reads has_read) i me.0 found after.0 × (after.1 ≡ []))) (sym word_is)
    (finding_page key slots id me page (makes (Read (worker_view_of me.0).worker page)) ReadCall has_read is
    (λ z words views. reads z words views id (worker_view_of me.0) page may) (λ v found number. refl) Reads
    (λ count w step. step))

pub glancing : {S : Type 0} (key : Key) (slots id : ℕ) (me : Me S View) (page word : ℕ)
    → word ≡ word_of page
    → me ≡ (Worker (worker_view_of me.0), [])
    → MayGlance (worker_view_of me.0) page
    → Allows (IsShowing key) slots id me word (λ k. k)
    (λ found after. OfWord word_of (TellsRead Glances has_glanced) word me.0 found after.0 × (after.1 ≡ []))
glancing {S} key slots id me page word word_is is may =
    subst (λ (i : ℕ). Allows (IsShowing key) slots id me i (λ k. k)
    (λ found after. OfWord word_of (TellsRead Glances has_glanced) i me.0 found after.0 × (after.1 ≡ []))) (sym word_is)
    (finding_page key slots id me page (glances_at (worker_view_of me.0).worker page) GlanceCall has_glanced is
    (λ z words views. glances z words views id (worker_view_of me.0) page may) (λ v found number. refl) Glances
    (λ count w step. step))

pub reading_mask : {S : Type 0} (key : Key) (slots id : ℕ) (me : Me S View)
    → me ≡ (Worker (worker_view_of me.0), [])
    → RunsSplit (worker_view_of me.0).state
    → has_slots (worker_view_of me.0).opening.limits ≡ false
    → Allows (IsShowing key) slots id me mask_place (λ k. k)
    (λ found after. TellsMask me.0 found after.0 × (after.1 ≡ []))
reading_mask {S} key slots id me is split plain = λ st shows _ at _.
    let z = opening_of key in
    let v : WorkerSeatView = worker_view_of me.0 in
    let here : get_elem? st.views id ≡ some (Worker v) = at ∙ ap (λ (m : Me S View). some m.0) is in
    let same = worker_opens z st.words st.views id v shows here in
    let r = reads_mask z st.words st.views id v shows here split
    (ap (λ (y : Opening). has_slots y.limits) (sym same) ∙ plain) in
    let found : ℕ = get_or st.words mask_place 0 in
    let w : WorkerSeatView = with_mask v found in (
      Worker w,
      keeps,
      tt,
      r.1,
      (
        record {
          view =
              refl;
          step = subst (λ (y : Opening). IsStep y (Hot v.worker) (HotShown found) (Worker v) (Worker w))
              (sym same) r.0;
        },
        ap (λ (m : Me S View). m.1) is,
      ),
    )

reading_from : {S : Type 0} (key : Key) (slots id : ℕ) (me : Me S View) (slot : ℕ)
    → me ≡ (Worker (worker_view_of me.0), [])
    → MayReadSlot (worker_view_of me.0) slot
    → Allows (IsShowing key) slots id me (slot_place slot) (λ k. k)
    (λ found after. OfWord slot_place TellsSlot (slot_place slot) me.0 found after.0 × (after.1 ≡ []))
reading_from {S} key slots id me slot is may = λ st shows _ at _.
    let z = opening_of key in
    let v : WorkerSeatView = worker_view_of me.0 in
    let here : get_elem? st.views id ≡ some (Worker v) = at ∙ ap (λ (m : Me S View). some m.0) is in
    let r = reads_slot z st.words st.views id v slot shows here may in
    let found : ℕ = get_or st.words (slot_place slot) 0 in
    let w : View = Worker (with_slot v slot found) in
    let told : TellsSlot slot me.0 found w = record { view = refl; fits = r.0 } in (
      w,
      keeps,
      tt,
      r.1,
      (
        λ other on.
            let same : slot ≡ other = omega arith in
            subst (λ (k : ℕ). TellsSlot k me.0 found w) same told,
        ap (λ (m : Me S View). m.1) is,
      ),
    )

pub reading_slot : {S : Type 0} (key : Key) (slots id : ℕ) (me : Me S View) (slot word : ℕ)
    → word ≡ slot_place slot
    → me ≡ (Worker (worker_view_of me.0), [])
    → MayReadSlot (worker_view_of me.0) slot
    → Allows (IsShowing key) slots id me word (λ k. k)
    (λ found after. OfWord slot_place TellsSlot word me.0 found after.0 × (after.1 ≡ []))
reading_slot {S} key slots id me slot word word_is is may =
    subst (λ (i : ℕ). Allows (IsShowing key) slots id me i (λ k. k)
    (λ found after. OfWord slot_place TellsSlot i me.0 found after.0 × (after.1 ≡ []))) (sym word_is)
    (reading_from key slots id me slot is may)

pub reading_slots : {S : Type 0} (key : Key) (slots id : ℕ) (me : Me S View)
    → me ≡ (Worker (worker_view_of me.0), [])
    → MayReadSlots (worker_view_of me.0)
    → Allows (IsShowing key) slots id me mask_place (λ k. k)
    (λ found after. TellsSlots me.0 found after.0 × (after.1 ≡ []))
reading_slots {S} key slots id me is may = λ st shows _ at _.
    let z = opening_of key in
    let v : WorkerSeatView = worker_view_of me.0 in
    let here : get_elem? st.views id ≡ some (Worker v) = at ∙ ap (λ (m : Me S View). some m.0) is in
    let same = worker_opens z st.words st.views id v shows here in
    let r = reads_slots z st.words st.views id v shows here may.split
    (ap (λ (y : Opening). has_slots y.limits) (sym same) ∙ may.slotted) may.all in
    let found : ℕ = get_or st.words mask_place 0 in
    let w : WorkerSeatView = with_mask v (slots_read v found) in (
      Worker w,
      keeps,
      tt,
      r.2,
      (
        record {
          view = refl;
          choice = subst (λ (y : Opening). IsChoice y.factor (length y.marks) (slice_index v.slots) found)
              (sym same) r.0;
          step = subst (λ (y : Opening). IsStep y (Hot v.worker) (HotShown (slots_read v found)) (Worker v) (Worker w))
              (sym same) r.1;
        },
        ap (λ (m : Me S View). m.1) is,
      ),
    )

pub gathering : {S : Type 0} (key : Key) (id other : ℕ) (v w : View)
    → v ≡ Coord (coord_view_of v)
    → w ≡ Worker (worker_view_of w)
    → Joins {S = S} (IsShowing key) id v other w (Coord (gathered_coord (coord_view_of v) (worker_view_of w))) Spent
gathering {S} key id other v w is_coord is_worker = λ st shows at apart mine.
    gathers (opening_of key) st.words st.views id other (coord_view_of v) (worker_view_of w) shows
    (at ∙ ap some is_coord) apart
    (mine ∙ ap some is_worker)

-- a read of a word changes nothing, and tells what is known where all seats were given back
pub closing : {S : Type 0} (key : Key) (slots id : ℕ) (me : Me S View) (word : ℕ)
    → Allows (IsShowing key) slots id me word (λ n. n) (λ found after. TellsLast word me.0 found × (after ≡ me))
closing {S} key slots id me word = λ st shows _ at _.
    let z = opening_of key in
    let told : TellsLast word me.0 (get_or st.words word 0) =
    record {
      closed = λ c seats back. (closes z st.words st.views id me.0 c seats shows at back).0;
      count = λ c seats back page is on.
          ap (λ (i : ℕ). get_or st.words i 0) is ∙ (closes z st.words st.views id me.0 c seats shows at back).1 page on;
    }
    in (
      me.0,
      keeps,
      tt,
      unchanged z st.words st.views id word me.0 at shows,
      (told, refl),
    )
