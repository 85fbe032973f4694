-- The places of requests: which there are, and what stands at them after a write.
use Rattle.std.proofs.Common.{◌≡◌, ◌≢◌, ℕ, zero, suc, ◌-◌, ◌<◌, ◌≤◌, List, [], ◌∷◌, length, map, replicate, get_or, set, Option, Some, None, refl, sym, ap, ◌∙◌, inl, inr, subst, arith}
use Rattle.std.proofs.lemmas.Bool.{cases_eq, cases_lt}
use Rattle.std.proofs.lemmas.List.{get_or-map, get_or-replicate, get_or-set_other, get_or-set_same, get_or_past, length-map, length-replicate, length-set, map-set, set-get_or}
use Rattle.std.specs.List.{slice_get}
use Rattle.like_promises.specs.declared.answer.Answer.{Answer}
use Rattle.like_promises.specs.Workload.{nth}
use Rattle.like_collection.specs.Entries.{IsRequest}
use Rattle.like_collection.specs.Slots.{IsSlot, slot_at}
use Rattle.like_collection.proofs.slots.Putting.{with_answer}

-- the length of a row
pub row-length : (slots : List (List (Option Answer))) (submitter : ℕ)
    → submitter < length slots
    → get_or (map length slots) submitter 0 ≡ length (get_or slots submitter [])
row-length slots submitter there = get_or-map length slots submitter [] 0 there

-- a place is that of a request
pub IsRequest-slot : (sizes : List ℕ) (slots : List (List (Option Answer))) (submitter number : ℕ)
    → map length slots ≡ sizes
    → IsSlot slots submitter number
    → IsRequest sizes submitter number
IsRequest-slot sizes slots submitter number sized slot =
    let size = row-length slots submitter slot.there in
    let same : length (map length slots) ≡ length slots = length-map slots length in
    let request : IsRequest (map length slots) submitter number =
    record {
      there =
          omega (arith, slot.there, same);
      from_one = slot.from_one;
      within = omega (arith, slot.within, size);
    } in
    subst (λ (s : List ℕ). IsRequest s submitter number) sized request

-- a request has a place
pub IsSlot-request : (sizes : List ℕ) (slots : List (List (Option Answer))) (submitter number : ℕ)
    → map length slots ≡ sizes
    → IsRequest sizes submitter number
    → IsSlot slots submitter number
IsSlot-request sizes slots submitter number sized request =
    let r = subst (λ (s : List ℕ). IsRequest s submitter number) (sym sized) request in
    let same : length (map length slots) ≡ length slots = length-map slots length in
    let there : submitter < length slots = omega (arith, r.there, same) in
    let size = row-length slots submitter there in
    record { there = there; from_one = r.from_one; within = omega (arith, r.within, size) }

-- a write of a place leaves the rows as long as they were
pub sized-write : (slots : List (List (Option Answer))) (submitter place : ℕ) (o : Option Answer)
    → submitter < length slots
    → map length (set slots submitter (set (get_or slots submitter []) place o)) ≡ map length slots
sized-write slots submitter place o there =
    let row = get_or slots submitter [] in
    map-set length slots submitter (set row place o) ∙
    (ap (set (map length slots) submitter) (length-set row place o ∙ sym (row-length slots submitter there)) ∙
    set-get_or (map length slots) submitter 0)

-- an answer stands at the place where it was put
pub slot_at-same : (slots : List (List (Option Answer))) (submitter number : ℕ) (a : Answer)
    → IsSlot slots submitter number
    → slot_at (with_answer slots submitter number a) submitter number ≡ Some a
slot_at-same slots submitter zero a slot = absurd (omega (arith, slot.from_one))
slot_at-same slots submitter (suc place) a slot =
    let row = get_or slots submitter [] in
    let e : suc place - 1 ≡ place = omega arith in
    let inside : place < length row = omega (arith, slot.within) in
    rw (e, get_or-set_same slots submitter (set row place (Some a)) [] slot.there)
    (get_or-set_same row place (Some a) None inside)

-- another row keeps its places, and so do the other places of the row
other_row : (slots : List (List (Option Answer))) (s written place : ℕ) (row : List (Option Answer))
    → s ≢ written
    → get_or (get_or (set slots written row) s []) place None ≡ get_or (get_or slots s []) place None
other_row slots s written place row ne =
    ap (λ (r : List (Option Answer)). get_or r place None) (get_or-set_other slots written s row [] ne)

other_place : (slots : List (List (Option Answer))) (s written place : ℕ) (o : Option Answer)
    → s < length slots
    → place ≢ written
    → get_or (get_or (set slots s (set (get_or slots s []) written o)) s []) place None
    ≡ get_or (get_or slots s []) place None
other_place slots s written place o there ne =
    ap (λ (r : List (Option Answer)). get_or r place None)
    (get_or-set_same slots s (set (get_or slots s []) written o) [] there)
    ∙ get_or-set_other (get_or slots s []) written place o None ne

-- what stands at the place of another request is what stood there
pub slot_at-other : (slots : List (List (Option Answer))) (submitter number : ℕ) (a : Answer) (s m : ℕ)
    → IsSlot slots submitter number
    → ((submitter ≡ s) → (number ≡ m) → ⊥)
    → slot_at (with_answer slots submitter number a) s m ≡ slot_at slots s m
slot_at-other slots submitter number a s zero slot ne = refl
slot_at-other slots submitter number a s (suc place) slot ne =
    elim (cases_eq s submitter) [
      | inl same ↦
          let apart : place ≢ number - 1 = λ e. ne (sym same) (omega (arith, slot.from_one, e)) in
          let there : s < length slots = omega (arith, slot.there, same) in
          subst (λ (w : ℕ). get_or
          (get_or (set slots w (set (get_or slots w []) (number - 1) (Some a))) s []) place None
          ≡ get_or (get_or slots s []) place None) same
          (other_place slots s (number - 1) place (Some a) there apart)
      | inr apart ↦ other_row slots s submitter place (set (get_or slots submitter []) (number - 1) (Some a)) apart
    ]

-- nothing stands in an empty row
empty_row : (size place : ℕ) → get_or (replicate size (let o : Option Answer = None in o)) place None ≡ None
empty_row size place =
    let o : Option Answer = None in
    elim (cases_lt place size) [
      | inl below ↦ get_or-replicate size place o None below
      | inr past ↦ let long : length (replicate size o) ≤ place = omega (arith, length-replicate size o, past) in
          get_or_past (replicate size o) place None long
    ]

-- nothing stands at the places at first
empty_rows : (sizes : List ℕ) (submitter place : ℕ)
    → get_or (get_or (map (λ size. replicate size (let o : Option Answer = None in o)) sizes) submitter []) place None
    ≡ None
empty_rows [] submitter place = refl
empty_rows (size ∷ sizes) zero place = empty_row size place
empty_rows (size ∷ sizes) (suc submitter) place = empty_rows sizes submitter place

pub slot_at-start : (sizes : List ℕ) (submitter number : ℕ)
    → slot_at (map (λ size. replicate size None) sizes) submitter number ≡ None
slot_at-start sizes submitter zero = refl
slot_at-start sizes submitter (suc place) = empty_rows sizes submitter place

-- the rows are as long as was asked for at first
pub sized-start : (sizes : List ℕ)
    → map length (map (λ size. replicate size (let o : Option Answer = None in o)) sizes) ≡ sizes
sized-start [] = refl
sized-start (size ∷ sizes) =
    let o : Option Answer = None in
    ap (λ n. n ∷ map length (map (λ m. replicate m o) sizes)) (length-replicate size o)
    ∙ ap (λ (rest : List ℕ). size ∷ rest) (sized-start sizes)

-- where no place of a row is empty, its places are its answers
full_row : (answers : List Answer) (place : ℕ) → get_or (map Some answers) place None ≡ slice_get answers place
full_row [] place = refl
full_row (a ∷ answers) zero = refl
full_row (a ∷ answers) (suc place) = full_row answers place

full_rows : (rows : List (List Answer)) (submitter place : ℕ)
    → get_or (get_or (map (map Some) rows) submitter []) place None ≡ slice_get (get_or rows submitter []) place
full_rows [] submitter place = refl
full_rows (row ∷ rows) zero place = full_row row place
full_rows (row ∷ rows) (suc submitter) place = full_rows rows submitter place

pub slot_at-full : (rows : List (List Answer)) (submitter number : ℕ)
    → slot_at (map (map Some) rows) submitter number ≡ nth (get_or rows submitter []) number
slot_at-full rows submitter zero = refl
slot_at-full rows submitter (suc place) = full_rows rows submitter place

pub sized-full : (rows : List (List Answer)) → map length (map (map Some) rows) ≡ map length rows
sized-full [] = refl
sized-full (row ∷ rows) =
    ap (λ n. n ∷ map length (map (map (let f : Answer → Option Answer = Some in f)) rows)) (length-map row Some)
    ∙ ap (λ (rest : List ℕ). length row ∷ rest) (sized-full rows)

-- a place of a full row is not empty
pub not_empty : (answers : List Answer) (place : ℕ)
    → place < length answers
    → get_or (map Some answers) place None ≢ None
not_empty [] place h = absurd (omega arith)
not_empty (a ∷ answers) zero h = λ e. cc
not_empty (a ∷ answers) (suc place) h = not_empty answers place (omega arith)
