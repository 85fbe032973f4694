-- Places hold the answers of entries, one entry at a time.
use Rattle.std.proofs.Common.{◌≡◌, ℕ, ◌-◌, ◌≤◌, Bool, true, false, cond, eqb, List, [], ◌∷◌, ◌++◌, length, map, replicate, Option, Some, None, refl, sym, ap, ◌∙◌, inl, inr, subst, arith, append-nil}
use Rattle.std.proofs.lemmas.Bool.{and_from, and_parts, cases_Bool, eq-eqb, eqb-true, false≢true}
use Rattle.std.proofs.lemmas.List.{length-map, map-append}
use Rattle.std.proofs.lemmas.List.Elements.{All-nil, All-push, filter-append}
use Rattle.std.specs.Option.{option_to_list}
use Rattle.like_promises.specs.declared.log.Ran.{Ran}
use Rattle.like_promises.specs.declared.answer.Answer.{Answer}
use Rattle.like_collection.specs.Entries.{AreGood, IsRequest}
use Rattle.like_promises.specs.Collected.{answer_of, entries_of}
use Rattle.like_collection.specs.Slots.{HoldsAll, slot_at}
use Rattle.like_collection.proofs.Entries.{is_of}
use Rattle.like_collection.proofs.slots.Putting.{Puts}
use Rattle.like_collection.proofs.slots.SlotPlaces.{IsRequest-slot, sized-start, sized-write, slot_at-other, slot_at-same, slot_at-start}

-- an option that gives no element is none
pub none_from_empty : (o : Option Answer) → option_to_list o ≡ [] → o ≡ None
none_from_empty None e = refl
none_from_empty (Some a) e = cc

-- a list whose image is empty is empty
pub empty_from_map : (entries : List Ran) → map answer_of entries ≡ [] → entries ≡ []
empty_from_map [] e = refl
empty_from_map (x ∷ xs) e = cc

-- an option gives one element at most
at_most_one : (o : Option Answer) → length (option_to_list o) ≤ 1
at_most_one None = omega arith
at_most_one (Some a) = omega arith

-- the entries whose answers are held are good
pub AreGood-held : (sizes : List ℕ) (entries : List Ran) (slots : List (List (Option Answer)))
    → HoldsAll sizes entries slots
    → AreGood sizes entries
AreGood-held sizes entries slots held =
    record {
      known = held.known;
      once = λ submitter number.
          let same = length-map (entries_of submitter number entries) answer_of in
          let one = at_most_one (slot_at slots submitter number) in
          let is = ap length (held.each submitter number) in
          omega (arith, same, one, is);
    }

-- a request has no entry exactly where its place is empty
pub slot-from_none : (sizes : List ℕ) (entries : List Ran) (slots : List (List (Option Answer))) (submitter number : ℕ)
    → HoldsAll sizes entries slots
    → entries_of submitter number entries ≡ []
    → slot_at slots submitter number ≡ None
slot-from_none sizes entries slots submitter number held e =
    none_from_empty (slot_at slots submitter number) (sym (held.each submitter number) ∙ ap (map answer_of) e)

pub none-from_slot : (sizes : List ℕ) (entries : List Ran) (slots : List (List (Option Answer))) (submitter number : ℕ)
    → HoldsAll sizes entries slots
    → slot_at slots submitter number ≡ None
    → entries_of submitter number entries ≡ []
none-from_slot sizes entries slots submitter number held e =
    empty_from_map (entries_of submitter number entries) (held.each submitter number ∙ ap option_to_list e)

-- no entry is held at first
pub HoldsAll-start : (sizes : List ℕ) (slots : List (List (Option Answer)))
    → slots ≡ map (λ size. replicate size None) sizes
    → HoldsAll sizes [] slots
HoldsAll-start sizes slots is =
    rw is (record {
      sized = sized-start sizes;
      known = All-nil (λ (e : Ran). IsRequest sizes e.submitter e.number);
      each = λ submitter number. sym (ap option_to_list (slot_at-start sizes submitter number));
    })

-- whether one more entry counts for a request
one_more : (submitter number : ℕ) (entries : List Ran) (e : Ran) (b : Bool) → is_of submitter number e ≡ b
    → map answer_of (entries_of submitter number (entries ++ e ∷ []))
    ≡ map answer_of (entries_of submitter number entries) ++ map answer_of (cond b (e ∷ []) [])
one_more submitter number entries e b is =
    ap (map answer_of)
    (filter-append (is_of submitter number) entries (e ∷ [])
    ∙ ap (λ (c : Bool). entries_of submitter number entries ++ cond c (e ∷ []) []) is) ∙
    map-append answer_of (entries_of submitter number entries) (cond b (e ∷ []) [])

-- the entry is of another request
not_of : (submitter number : ℕ) (e : Ran)
    → is_of submitter number e ≡ false
    → (e.submitter ≡ submitter)
    → (e.number ≡ number)
    → ⊥
not_of submitter number e is s n =
    let of : is_of submitter number e ≡ true =
    and_from (eqb e.submitter submitter) (eqb e.number number) (eq-eqb e.submitter submitter s)
    (eq-eqb e.number number n) in
    false≢true (sym is ∙ of)

-- the entry is of the request
pub of_request : (submitter number : ℕ) (e : Ran)
    → is_of submitter number e ≡ true
    → (e.submitter ≡ submitter) × (e.number ≡ number)
of_request submitter number e is =
    let both = and_parts (eqb e.submitter submitter) (eqb e.number number) is in
    (eqb-true e.submitter submitter both.0, eqb-true e.number number both.1)

-- the answer of one more entry is put at its place
pub HoldsAll-put : (sizes : List ℕ) (entries : List Ran) (old : List (List (Option Answer))) (e : Ran)
    (new : List (List (Option Answer)))
    → HoldsAll sizes entries old
    → Puts old e new
    → HoldsAll sizes (entries ++ e ∷ []) new
HoldsAll-put sizes entries old e new held puts =
    let a = answer_of e in
    let each : (submitter number : ℕ)
    → map answer_of (entries_of submitter number (entries ++ e ∷ []))
    ≡ option_to_list (slot_at new submitter number) = λ submitter number.
    elim (cases_Bool (is_of submitter number e)) [
      | inl is ↦
          let of = of_request submitter number e is in
          let none : map answer_of (entries_of submitter number entries) ≡ [] =
          held.each submitter number
          ∙ ap option_to_list
          (subst (λ (s : ℕ). slot_at old s number ≡ None) of.0
          (subst (λ (n : ℕ). slot_at old e.submitter n ≡ None) of.1 puts.empty)) in
          let there : slot_at new submitter number ≡ Some a =
          subst (λ (s : ℕ). slot_at new s number ≡ Some a) of.0
          (subst (λ (n : ℕ). slot_at new e.submitter n ≡ Some a) of.1
          (rw puts.is (slot_at-same old e.submitter e.number a puts.slot))) in
          one_more submitter number entries e true is
          ∙ (ap (λ (l : List Answer). l ++ a ∷ []) none ∙ sym (ap option_to_list there))
      | inr not ↦
          let kept : slot_at new submitter number ≡ slot_at old submitter number =
          rw puts.is (slot_at-other old e.submitter e.number a submitter number puts.slot
          (not_of submitter number e not)) in
          one_more submitter number entries e false not
          ∙ (append-nil (map answer_of (entries_of submitter number entries))
          ∙ (held.each submitter number ∙ sym (ap option_to_list kept)))
    ]
    in
    record {
      sized = rw puts.is (sized-write old e.submitter (e.number - 1) (Some a) puts.slot.there ∙ held.sized);
      known = All-push (λ (x : Ran). IsRequest sizes x.submitter x.number) entries e held.known
          (IsRequest-slot sizes old e.submitter e.number held.sized puts.slot);
      each = each;
    }
