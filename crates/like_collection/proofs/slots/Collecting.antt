-- The entries of logs are collected, log by log.
use Rattle.std.proofs.Common.{◌≡◌, ◌≢◌, ℕ, ◌+◌, ◌<◌, ◌^◌, All, List, [], ◌∷◌, ◌++◌, length, map, get_or, take, drop, Option, Some, sym, ap, ◌∙◌, subst, arith, append-nil, append_assoc}
use Rattle.std.proofs.lemmas.Grind.{flat_map-append}
use Rattle.std.proofs.lemmas.List.{get_or-map, take_more}
use Rattle.std.specs.Option.{option_to_list}
use Rattle.like_promises.specs.declared.log.Ran.{Ran}
use Rattle.like_promises.specs.declared.log.WorkerLog.{WorkerLog}
use Rattle.like_promises.specs.declared.answer.Answer.{Answer}
use Rattle.like_collection.specs.declared.collect_fault.CollectFault.{CollectFault}
use Rattle.like_collection.specs.declared.collect_fault.CollectFault.TheVariants.{Stranger, Double, Missing, Memory}
use Rattle.like_collection.specs.CollectFaults.{IsCollectFault, IsEntryFault}
use Rattle.like_promises.specs.Collected.{IsCollected, entries_in, entries_of}
use Rattle.like_collection.specs.Entries.{IsRequest}
use Rattle.like_collection.specs.Slots.{HoldsAll, IsSlotsFault}
use Rattle.like_collection.proofs.slots.Holding.{AreGood-held, none-from_slot, slot-from_none}
use Rattle.like_collection.proofs.Lists.{parts_at}
use Rattle.like_collection.proofs.slots.Putting.{RefusesEntry}
use Rattle.like_collection.proofs.slots.SlotPlaces.{IsRequest-slot, IsSlot-request, sized-full, slot_at-full}

-- an entry that is refused is the first that is bad
pub IsEntryFault-refused : (sizes : List ℕ) (before : List Ran) (slots : List (List (Option Answer))) (e : Ran)
    (after entries : List Ran) (fault : CollectFault)
    → HoldsAll sizes before slots
    → entries ≡ before ++ e ∷ after
    → RefusesEntry slots e fault
    → IsEntryFault sizes entries fault
IsEntryFault-refused sizes before slots e after entries (Stranger submitter number) held parts refused =
    record {
      before = before;
      entry = e;
      after = after;
      parts = parts;
      is_submitter = sym refused.0;
      is_number = sym refused.1;
      good = AreGood-held sizes before slots held;
      bad = λ request.
          let r = subst (λ (n : ℕ). IsRequest sizes e.submitter n) refused.1
          (subst (λ (s : ℕ). IsRequest sizes s number) refused.0 request) in
          refused.2 (IsSlot-request sizes slots e.submitter e.number held.sized r);
    }
IsEntryFault-refused sizes before slots e after entries (Double submitter number) held parts refused =
    let request = IsRequest-slot sizes slots e.submitter e.number held.sized refused.2 in
    let other : entries_of e.submitter e.number before ≢ [] =
    λ none. refused.3 (slot-from_none sizes before slots e.submitter e.number held none) in
    record {
      before = before;
      entry = e;
      after = after;
      parts = parts;
      is_submitter = sym refused.0;
      is_number = sym refused.1;
      good = AreGood-held sizes before slots held;
      bad = (
        subst (λ (n : ℕ). IsRequest sizes submitter n) (sym refused.1)
            (subst (λ (s : ℕ). IsRequest sizes s e.number) (sym refused.0) request),
        subst (λ (n : ℕ). entries_of submitter n before ≢ []) (sym refused.1)
            (subst (λ (s : ℕ). entries_of s e.number before ≢ []) (sym refused.0) other),
      );
    }
IsEntryFault-refused sizes before slots e after entries (Missing submitter number) held parts refused = absurd refused
IsEntryFault-refused sizes before slots e after entries Memory held parts refused = absurd refused

-- the first bad entry is the first in a longer list too
pub IsEntryFault-longer : (sizes : List ℕ) (front more entries : List Ran) (fault : CollectFault)
    → entries ≡ front ++ more
    → IsEntryFault sizes front fault
    → IsEntryFault sizes entries fault
IsEntryFault-longer sizes front more entries (Stranger submitter number) is f =
    record {
      before = f.before;
      entry = f.entry;
      after = f.after ++ more;
      parts = is ∙ (ap (λ (x : List Ran). x ++ more) f.parts ∙ append_assoc f.before (f.entry ∷ f.after) more);
      is_submitter = f.is_submitter;
      is_number = f.is_number;
      good = f.good;
      bad = f.bad;
    }
IsEntryFault-longer sizes front more entries (Double submitter number) is f =
    record {
      before = f.before;
      entry = f.entry;
      after = f.after ++ more;
      parts = is ∙ (ap (λ (x : List Ran). x ++ more) f.parts ∙ append_assoc f.before (f.entry ∷ f.after) more);
      is_submitter = f.is_submitter;
      is_number = f.is_number;
      good = f.good;
      bad = f.bad;
    }
IsEntryFault-longer sizes front more entries (Missing submitter number) is f = absurd f
IsEntryFault-longer sizes front more entries Memory is f = absurd f

-- and the fault of the whole
collect_fault : (sizes : List ℕ) (entries : List Ran) (fault : CollectFault)
    → IsEntryFault sizes entries fault
    → IsCollectFault sizes entries fault
collect_fault sizes entries (Stranger submitter number) f = f
collect_fault sizes entries (Double submitter number) f = f
collect_fault sizes entries (Missing submitter number) f = absurd f
collect_fault sizes entries Memory f = absurd f

-- the entries of one more log
pub entries_in-more : (logs : List WorkerLog) (i : ℕ) (log : WorkerLog)
    → i < length logs
    → log ≡ get_or logs i log
    → entries_in (take (i + 1) logs) ≡ entries_in (take i logs) ++ log.ran.items
entries_in-more logs i log there is =
    ap entries_in (take_more logs i log there ∙ ap (λ (l : WorkerLog). take i logs ++ l ∷ []) (sym is)) ∙
    (flat_map-append (λ (l : WorkerLog). l.ran.items) (take i logs) (log ∷ [])
    ∙ ap (λ (x : List Ran). entries_in (take i logs) ++ x) (append-nil log.ran.items))

-- the first bad entry of a log is the fault of all logs, where those before it were held
pub IsCollectFault-log : (sizes : List ℕ) (logs : List WorkerLog) (i : ℕ) (log : WorkerLog) (fault : CollectFault)
    → i < length logs
    → log ≡ get_or logs i log
    → IsEntryFault sizes (entries_in (take i logs) ++ log.ran.items) fault
    → IsCollectFault sizes (entries_in logs) fault
IsCollectFault-log sizes logs i log fault there is f =
    let parts : entries_in logs ≡ entries_in (take i logs) ++ (log.ran.items ++ entries_in (drop (i + 1) logs)) =
    ap entries_in (parts_at logs i log there ∙ ap (λ (l : WorkerLog). take i logs ++ l ∷ drop (i + 1) logs) (sym is))
    ∙ flat_map-append (λ (l : WorkerLog). l.ran.items) (take i logs) (log ∷ drop (i + 1) logs)
    in
    let whole = parts ∙ sym (append_assoc (entries_in (take i logs)) log.ran.items (entries_in (drop (i + 1) logs))) in
    collect_fault sizes (entries_in logs) fault
    (IsEntryFault-longer sizes (entries_in (take i logs) ++ log.ran.items) (entries_in (drop (i + 1) logs))
    (entries_in logs) fault whole f)

-- where every place is full, all is collected
pub IsCollected-held : (sizes : List ℕ) (entries : List Ran) (slots : List (List (Option Answer)))
    (rows : List (List Answer))
    → HoldsAll sizes entries slots
    → slots ≡ map (map Some) rows
    → IsCollected sizes entries rows
IsCollected-held sizes entries slots rows held full =
    let h = subst (λ (s : List (List (Option Answer))). HoldsAll sizes entries s) full held in
    record {
      sized = sym (sized-full rows) ∙ h.sized;
      each = λ submitter number. h.each submitter number ∙ ap option_to_list (slot_at-full rows submitter number);
    }

-- the first empty place is that of the least missing request
pub IsCollectFault-empty : (sizes : List ℕ) (entries : List Ran) (slots : List (List (Option Answer)))
    (fault : CollectFault)
    → HoldsAll sizes entries slots
    → IsSlotsFault 0 slots fault
    → IsCollectFault sizes entries fault
IsCollectFault-empty sizes entries slots (Missing submitter number) held (row, is, f) =
    let at : row ≡ submitter = omega (arith, is) in
    subst (λ s. IsCollectFault sizes entries (Missing s number)) at (
      AreGood-held sizes entries slots held,
      record {
        is = IsRequest-slot sizes slots row number held.sized f.is;
        lacks = none-from_slot sizes entries slots row number held f.lacks;
        least = λ s m request earlier none.
            f.least s m (IsSlot-request sizes slots s m held.sized request) earlier
            (slot-from_none sizes entries slots s m held none);
      },
    )
IsCollectFault-empty sizes entries slots Memory held f = tt
IsCollectFault-empty sizes entries slots (Stranger submitter number) held f = absurd f
IsCollectFault-empty sizes entries slots (Double submitter number) held f = absurd f

-- a row is as long as its submitter has requests
pub short_rows : (sizes : List ℕ) (slots : List (List (Option Answer)))
    → map length slots ≡ sizes
    → ((k : ℕ) → get_or sizes k 0 < 2 ^ 32)
    → All (λ (row : List (Option Answer)). length row < 2 ^ 32) slots
short_rows sizes slots sized short k d there =
    let same : get_or (map length slots) k 0 ≡ length (get_or slots k d) = get_or-map length slots k d 0 there in
    subst (λ n. n < 2 ^ 32) (sym (ap (λ (s : List ℕ). get_or s k 0) sized) ∙ same) (short k)
