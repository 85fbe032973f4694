-- How the records of a text follow from its first one.
use Rattle.std.proofs.Common.{◌≡◌, ◌<◌, ◌≤◌, ◌+◌, ◌-◌, ℕ, zero, suc, Bool, true, false, List, [], ◌∷◌, length, Option, Some, None, refl, sym, ap, ◌∙◌, arith, add-one}
use Rattle.csv.specs.Machine.{Read, ends_at_end, field_after, fields_after, is_end, next_record, step}
use Rattle.csv.specs.Reading.{records_from, records_next}
use Rattle.csv.specs.declared.parser.Config.{Config}
use Rattle.csv.specs.declared.parser.State.{State}
use Rattle.csv.specs.declared.parser.State.TheVariants as st

-- a record that the end of the text ends leaves nothing
next-at_end : (cfg : Config) (s : State) (fields : List (List ℕ)) (field : List ℕ) (r : Read)
    → next_record cfg s fields field [] ≡ Some r → (r.1 ≡ st.StartRecord) × (r.2 ≡ [])
unfolding next_record
next-at_end cfg s fields field r e = last (ends_at_end s) refl
  where
    last : (b : Bool) → ends_at_end s ≡ b → (r.1 ≡ st.StartRecord) × (r.2 ≡ [])
    last true at_end = let same = rw at_end at e in (cc, cc)
    last false at_end = cc (rw at_end at e)

-- the text after a record, if there is one
rest_of : Option Read → List ℕ
rest_of None = []
rest_of (Some r) = r.2

-- a record takes at least a byte, where there is one
pub next-shrinks : (cfg : Config) (s : State) (fields : List (List ℕ)) (field xs : List ℕ) (r : Read)
    → next_record cfg s fields field xs ≡ Some r → length r.2 ≤ length xs - 1
unfolding next_record rest_of
next-shrinks cfg s fields field [] r e = let none = ap length (next-at_end cfg s fields field r e).1 in omega arith
next-shrinks cfg s fields field (c ∷ rest) r e =
    by (is_end (step cfg s c).1) refl
    (next-shrinks cfg (step cfg s c).0 (fields_after (step cfg s c).1 fields field)
    (field_after (step cfg s c).1 c field) rest r)
  where
    by : (b : Bool) → is_end (step cfg s c).1 ≡ b
        → (next_record cfg (step cfg s c).0 (fields_after (step cfg s c).1 fields field)
        (field_after (step cfg s c).1 c field) rest ≡ Some r → length r.2 ≤ length rest - 1)
        → length r.2 ≤ length (c ∷ rest) - 1
    by true ends more = let rest_is : rest ≡ r.2 = ap (λ (o : Option Read). rest_of o) (rw ends at e) in
        let size = ap length rest_is in omega arith
    by false ends more = let shorter = more (rw ends at e) in omega arith

-- an empty text has no record
records-none : (cfg : Config) (n : ℕ) → records_from cfg n st.StartRecord [] ≡ []
unfolding next_record records_from
records-none cfg zero = refl
records-none cfg (suc n) = refl

-- two bounds leave out none of the records after the first, where they leave out none of a shorter text's
rest-fuel : (cfg : Config) (n m : ℕ) (s : State) (xs : List ℕ) (p : Read)
    → next_record cfg s [] [] xs ≡ Some p
    → length xs ≤ n
    → length xs ≤ m
    → ((s2 : State) (ys : List ℕ) → length ys < n → length ys < m → records_from cfg n s2 ys ≡ records_from cfg m s2 ys)
    → records_from cfg n p.1 p.2 ≡ records_from cfg m p.1 p.2
rest-fuel cfg n m s [] p e more_n more_m same = let last = next-at_end cfg s [] [] p e in
    rw (last.0, last.1) (records-none cfg n ∙ sym (records-none cfg m))
rest-fuel cfg n m s (c ∷ rest) p e more_n more_m same =
    let shorter = next-shrinks cfg s [] [] (c ∷ rest) p e in
    same p.1 p.2 (omega arith) (omega arith)

-- a bound above the length of a text leaves out none of its records
pub records-fuel : (cfg : Config) (n m : ℕ) (s : State) (xs : List ℕ)
    → length xs < n
    → length xs < m
    → records_from cfg n s xs ≡ records_from cfg m s xs
unfolding records_from
records-fuel cfg zero m s xs more_n more_m = absurd (omega arith)
records-fuel cfg (suc n) zero s xs more_n more_m = absurd (omega arith)
records-fuel cfg (suc n) (suc m) s xs more_n more_m = by (next_record cfg s [] [] xs) refl (records-fuel cfg n m)
  where
    by : (o : Option Read) → next_record cfg s [] [] xs ≡ o
        → ((s2 : State) (ys : List ℕ) → length ys < n → length ys < m
        → records_from cfg n s2 ys ≡ records_from cfg m s2 ys)
        → records_next (records_from cfg n) o ≡ records_next (records_from cfg m) o
    by None e same = refl
    by (Some p) e same =
        ap (λ (rest : List (List (List ℕ))). p.0 ∷ rest) (rest-fuel cfg n m s xs p e (omega arith) (omega arith) same)

-- the records of a text are the first and those of the text after it
pub records-first : (cfg : Config) (s : State) (xs : List ℕ) (p : Read) → next_record cfg s [] [] xs ≡ Some p
    → records_from cfg (length xs + 1) s xs ≡ p.0 ∷ records_from cfg (length p.2 + 1) p.1 p.2
unfolding records_from
records-first cfg s [] p e =
    let last = next-at_end cfg s [] [] p e in
    rw e (ap (λ (more : List (List (List ℕ))). p.0 ∷ more) (sym (rw (last.0, last.1) (records-none cfg 1))))
records-first cfg s (c ∷ rest) p e =
    let shorter = next-shrinks cfg s [] [] (c ∷ rest) p e in
    rw (add-one (length (c ∷ rest)), e)
    (ap (λ (more : List (List (List ℕ))). p.0 ∷ more)
    (records-fuel cfg (length (c ∷ rest)) (length p.2 + 1) p.1 p.2 (omega arith) (omega arith)))

-- a text with no next record has no records
pub records-ended : (cfg : Config) (s : State) (xs : List ℕ)
    → next_record cfg s [] [] xs ≡ None
    → records_from cfg (length xs + 1) s xs ≡ []
unfolding records_from
records-ended cfg s xs e = rw (add-one, e) refl
