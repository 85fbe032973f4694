use Rattle.std.proofs.Common.{◌≡◌, ◌∙◌, ℕ, suc, ◌+◌, ◌<◌, true, inl, inr, List, [], ◌∷◌, ◌++◌, length, take, set, subst, sym, ap, refl, arith}
use Rattle.std.proofs.Math.ListN.{length-set}
use Rattle.std.proofs.Math.Seq.{take-suc-set}
use Rattle.std.proofs.lemmas.Bool.{cases_eq}
use Rattle.std.proofs.lemmas.List.{length-take-le, take-take, take_all}
use Rattle.like_limits.specs.Limits.{hot_pages}
use Rattle.like_core.specs.declared.view.WorkerSeatView.{WorkerSeatView}
use Rattle.like_core.specs.OpeningLimits.{has_slots}
use Rattle.like_core.specs.WorkerState.{RunsSplit}
use Rattle.like_core.specs.Post.{with_slot, MayReadSlot}
use Rattle.like_board.specs.Seats.{seat_view}
use Rattle.like_board.proofs.worker_seat.WorkerSeat.read_slots.Goals as goal

-- the view w is v with the slots below this one, if any was read
abbrev HasRead : WorkerSeatView → WorkerSeatView → ℕ → List ℕ → Type 0
HasRead v w slot pages =
    (slot ≡ 0 → w ≡ v) × (0 < slot → w ≡ record v { slots = take slot pages })

-- but for its slots it is v, and these begin with the pages
front_read : (v w : WorkerSeatView) (slot : ℕ) (pages : List ℕ)
    → HasRead v w slot pages
    → (w ≡ record v { slots = w.slots }) × (take slot w.slots ≡ take slot pages)
front_read v w slot pages has = elim (cases_eq slot 0) [
  | inl none ↦ (
    subst (λ (x : WorkerSeatView). x ≡ record v { slots = x.slots }) (sym (has.0 none)) refl,
    ap (λ (k : ℕ). take k w.slots) none ∙ sym (ap (λ (k : ℕ). take k pages) none),
  )
  | inr some ↦
      let same = has.1 (omega arith) in (
        subst (λ (x : WorkerSeatView). x ≡ record v { slots = x.slots }) (sym same) refl,
        ap (λ (x : WorkerSeatView). take slot x.slots) same ∙ take-take slot slot pages (omega arith),
      )
]

-- the next slot may be read
may_read : (v w : WorkerSeatView) (slot : ℕ) (pages : List ℕ)
    → HasRead v w slot pages
    → RunsSplit v.state
    → has_slots v.opening.limits ≡ true
    → slot < hot_pages
    → length pages ≡ hot_pages
    → MayReadSlot w slot
may_read v w slot pages has split slotted below all = elim (cases_eq slot 0) [
  | inl none ↦
      subst (λ (x : WorkerSeatView). MayReadSlot x slot) (sym (has.0 none))
      (record { split = split; slotted = slotted; there = below; next = omega arith })
  | inr some ↦
      let long = length-take-le slot pages (omega arith) in
      subst (λ (x : WorkerSeatView). MayReadSlot x slot) (sym (has.1 (omega arith)))
      (record { split = split; slotted = slotted; there = below; next = omega arith })
]

-- after it was, one more is read
reads_one : (v w : WorkerSeatView) (slot page : ℕ) (pages : List ℕ)
    → HasRead v w slot pages
    → slot < length pages
    → with_slot w slot page ≡ record v { slots = take (slot + 1) (set pages slot page) }
reads_one v w slot page pages has below =
    let front = front_read v w slot pages has in
    let more : take (slot + 1) (set pages slot page) ≡ take slot pages ++ page ∷ [] =
    (let next : slot + 1 ≡ suc slot = omega arith in
    ap (λ (k : ℕ). take k (set pages slot page)) next ∙ take-suc-set pages slot page below) in
    (λ m. record (front.0 m) { slots = front.1 m ++ page ∷ [] }) ∙
    ap (λ (l : List ℕ). record v { slots = l }) (sym more)

pub slot-requires : goal.slot-requires
slot-requires c =
    let l = c.loop-slot in
    let all = l.invariant.places in
    record {
      here = l.invariant.board ∙ c.requires.here;
      may = may_read (seat_view c.args.self.now) (seat_view l.self) l.slot l.pages
          (l.invariant.first, l.invariant.later) c.requires.split c.requires.slotted (omega arith) all;
    }

pub loop-slot-preserved : goal.loop-slot-preserved
loop-slot-preserved c =
    let l = c.loop-slot in
    let all = l.invariant.places in
    record {
      board = c.slot.ensures.board ∙ l.invariant.board;
      first = λ none. absurd (omega arith);
      later = λ _.
          c.slot.ensures.view ∙
          reads_one (seat_view c.args.self.now) (seat_view l.self) l.slot c.slot.result l.pages
          (l.invariant.first, l.invariant.later) (omega arith);
      places = length-set l.pages l.slot c.slot.result ∙ all;
    }

pub returns-clause-view : goal.returns-clause-view
returns-clause-view c =
    let l = c.loop-slot in
    let all = l.invariant.places in
    l.invariant.later (omega arith) ∙
    ap (λ (k : List ℕ). record (seat_view c.args.self.now) { slots = k }) (take_all l.slot l.pages (omega arith))
