-- The first place that is empty.
use Rattle.std.proofs.Common.{◌≡◌, ◌≢◌, ℕ, zero, suc, ◌<◌, ◌≤◌, List, [], ◌∷◌, length, map, get_or, take, Option, Some, None, refl, sym, ap, ◌∙◌, inl, inr, arith}
use Rattle.std.proofs.lemmas.List.{get_or-map, get_or-take, length-map, length-take-le}
use Rattle.std.proofs.lemmas.Option.{get_or_from_slice_get, slice_get_read}
use Rattle.like_promises.specs.declared.answer.Answer.{Answer}
use Rattle.like_collection.specs.declared.collect_fault.CollectFault.{CollectFault}
use Rattle.like_collection.specs.declared.collect_fault.CollectFault.TheVariants.{Stranger, Double, Missing, Memory}
use Rattle.std.specs.Prelude.{◌⊎◌}
use Rattle.like_collection.specs.Entries.{IsLeast}
use Rattle.like_collection.specs.Slots.{IsSlot, IsSlotsFault, slot_at}
use Rattle.like_collection.proofs.slots.SlotPlaces.{not_empty}

-- a place before the end of the answers is not empty
answered : (row : List (Option Answer)) (n : ℕ) (answers : List Answer)
    → take n row ≡ map Some answers
    → n ≤ length row
    → (place : ℕ)
    → place < n
    → get_or row place None ≢ None
answered row n answers full within place below e =
    let size = length-take-le n row within in
    let image = length-map answers (let g : Answer → Option Answer = Some in g) in
    let inside : place < length answers = omega (arith, below, size, image, ap length full) in
    not_empty answers place inside
    (sym (ap (λ (r : List (Option Answer)). get_or r place None) full) ∙ get_or-take n row place None below ∙ e)

-- the place after the answers of a row is the first that is empty
pub first_of_row : (row : List (Option Answer)) (place : ℕ) (answers : List Answer)
    → place < length row
    → get_or row place None ≡ None
    → take place row ≡ map Some answers
    → IsLeast (IsSlot (row ∷ [])) (λ s m. slot_at (row ∷ []) s m ≡ None) 0 (suc place)
first_of_row row place answers within here full = record {
  is = record { there = omega arith; from_one = omega arith; within = omega (arith, within) };
  lacks = here;
  least = before;
} where
  before : (s m : ℕ) → IsSlot (row ∷ []) s m → (s < 0) ⊎ ((s ≡ 0) × (m < suc place)) → slot_at (row ∷ []) s m ≢ None
  before s m slot (inl below) e = absurd (omega (arith, below))
  before zero zero slot (inr same) e = absurd (omega (arith, slot.from_one))
  before zero (suc p) slot (inr same) e =
      answered row place answers full (omega (arith, within)) p (omega (arith, same.1)) e
  before (suc s) m slot (inr same) e = absurd (omega (arith, same.0))

-- a row's places are those of its submitter
slot_at-row : (slots : List (List (Option Answer))) (i : ℕ) (row : List (Option Answer)) (number : ℕ)
    → get_or slots i [] ≡ row
    → slot_at slots i number ≡ slot_at (row ∷ []) 0 number
slot_at-row slots i row zero same = refl
slot_at-row slots i row (suc place) same = ap (λ (r : List (Option Answer)). get_or r place None) same

-- a place of a full row is not empty
full_before : (slots : List (List (Option Answer))) (i : ℕ) (rows : List (List Answer))
    → i ≤ length slots
    → take i slots ≡ map (map Some) rows
    → (s m : ℕ) → s < i → IsSlot slots s m → slot_at slots s m ≢ None
full_before slots i rows within full s zero below slot e = absurd (omega (arith, slot.from_one))
full_before slots i rows within full s (suc place) below slot e =
    let size = length-take-le i slots within in
    let image = length-map rows (map (let g : Answer → Option Answer = Some in g)) in
    let inside : s < length rows = omega (arith, below, size, image, ap length full) in
    let row : get_or slots s [] ≡ map Some (get_or rows s []) =
    sym (get_or-take i slots s [] below)
    ∙ (ap (λ (x : List (List (Option Answer))). get_or x s []) full ∙ get_or-map (map Some) rows s [] [] inside) in
    let many = length-map (get_or rows s []) (let g : Answer → Option Answer = Some in g) in
    not_empty (get_or rows s []) place (omega (arith, slot.within, many, ap length row))
    (sym (ap (λ (r : List (Option Answer)). get_or r place None) row) ∙ e)

-- the first empty place of a row is the first of all, where the rows before it are full
pub first_of_all : (slots : List (List (Option Answer))) (i : ℕ) (row : List (Option Answer))
    (rows : List (List Answer)) (fault : CollectFault)
    → i < length slots
    → row ≡ get_or slots i row
    → take i slots ≡ map (map Some) rows
    → IsSlotsFault i (row ∷ []) fault
    → IsSlotsFault 0 slots fault
first_of_all slots i row rows (Missing submitter number) there is full (suc k, at, f) =
    absurd (omega (arith, f.is.there))
first_of_all slots i row rows (Missing submitter number) there is full (zero, at, f) = (
  i,
  omega (arith, at),
  record {
    is = record { there = there; from_one = f.is.from_one; within = omega (arith, f.is.within, ap length same) };
    lacks = slot_at-row slots i row number same ∙ f.lacks;
    least = before;
  },
) where
  same : get_or slots i [] ≡ row
  same = get_or_from_slice_get slots i row [] (slice_get_read slots (length slots) i row refl there is)

  before : (s m : ℕ) → IsSlot slots s m → (s < i) ⊎ ((s ≡ i) × (m < number)) → slot_at slots s m ≢ None
  before s m slot (inl below) e = full_before slots i rows (omega (arith, there)) full s m below slot e
  before s m slot (inr earlier) e =
      let at_row : get_or slots s [] ≡ row = ap (λ (x : ℕ). get_or slots x []) earlier.0 ∙ same in
      let in_row : IsSlot (row ∷ []) 0 m =
      record {
        there =
            omega arith;
        from_one = slot.from_one;
        within = omega (arith, slot.within, ap length at_row);
      } in
      f.least 0 m in_row (inr (refl, earlier.1)) (sym (slot_at-row slots s row m at_row) ∙ e)
first_of_all slots i row rows Memory there is full f = tt
first_of_all slots i row rows (Stranger submitter number) there is full f = absurd f
first_of_all slots i row rows (Double submitter number) there is full f = absurd f
