-- What a read of CSV's reader does to the records left.
use Rattle.std.proofs.Common.{◌≡◌, ℕ, true, false, List, [], ◌∷◌, Option, Some, None, option_map, refl, sym, ◌∙◌}
use Rattle.csv.specs.Machine.{Read, next_record}
use Rattle.csv.specs.Reading.{NextIs, ReadRecord, ReadsNext, default_config, pending_of, source_of}
use Rattle.csv.specs.declared.parser.State.{State}
use Rattle.csv.specs.declared.reader.Reader.{Reader}
use Rattle.csv.proofs.ReadFacts.{rows-end}
use Rattle.like_records.specs.Reading.{GivesEach, records_from_state}
use Rattle.like_records.proofs.RecordsLeft.{records-ended, records-first}

-- a next record that was found is the first of the text's
next-taken : (s s2 : State) (xs ys : List ℕ) (fields : List (List ℕ)) (o : Option Read)
    → next_record default_config s [] [] xs ≡ o
    → NextIs o true fields s2 ys
    → records_from_state s xs ≡ fields ∷ records_from_state s2 ys
next-taken s s2 xs ys fields None e n = cc n
next-taken s s2 xs ys fields (Some p) e n = rw (n.1, n.2, n.3) (records-first default_config s xs p e)

-- the same, where the bytes may not be known
left-taken : (s s2 : State) (before after : Option (List ℕ)) (fields : List (List ℕ))
    → ReadsNext default_config s before after true fields s2
    → (rows : List (List (List ℕ))) → option_map (records_from_state s) before ≡ Some rows
    → (rest : List (List (List ℕ))) × (rows ≡ fields ∷ rest) × (option_map (records_from_state s2) after ≡ Some rest)
left-taken s s2 None after fields read rows left = cc left
left-taken s s2 (Some xs) None fields read rows left = absurd read
left-taken s s2 (Some xs) (Some ys) fields read rows left =
    let first = next-taken s s2 xs ys fields (next_record default_config s [] [] xs) refl read in
    let same : records_from_state s xs ≡ rows = cc in
    (records_from_state s2 ys, sym same ∙ first, refl)

-- the record that a reader gave is the first of those that were left
pub record-taken : {R : Type 0} (rem : R → Option (List ℕ)) (a b : Reader R) (fields : List (List ℕ))
    → GivesEach a
    → ReadRecord rem a b true fields
    → (rows : List (List (List ℕ))) → option_map (records_from_state a.state) (source_of rem a) ≡ Some rows
    → (rest : List (List (List ℕ))) × (rows ≡ fields ∷ rest)
    × (option_map (records_from_state b.state) (source_of rem b) ≡ Some rest)
record-taken rem a b fields gives read rows left =
    rw read.1 (left-taken a.state b.state (source_of rem a) (pending_of (rem b.rdr) b) fields
    (rw gives.config at read.0) rows left)

-- where a reader gave none, none was left
pub none-taken : {R : Type 0} (rem : R → Option (List ℕ)) (a b : Reader R) (fields : List (List ℕ))
    → GivesEach a
    → ReadRecord rem a b false fields
    → (rows : List (List (List ℕ))) → option_map (records_from_state a.state) (source_of rem a) ≡ Some rows → rows ≡ []
none-taken rem a b fields gives read rows left = ended (source_of rem a) refl left
  where
    ended : (o : Option (List ℕ)) → source_of rem a ≡ o → option_map (records_from_state a.state) o ≡ Some rows
        → rows ≡ []
    ended None e l = cc l
    ended (Some xs) e l =
        let none = records-ended default_config a.state xs
        (rows-end rem a b fields default_config xs gives.config e read) in
        let same : records_from_state a.state xs ≡ rows = cc l in
        sym same ∙ none
