use Rattle.std.proofs.Common.{◌≡◌, ◌∷◌, ◌∙◌, ap, None, Some, List, Result, Ok, Err, MatchResult, inl, inr, ⊎_elim, ◌⊎◌}
use Rattle.like_records.specs.Reading.{Reading, TakesRecord}
use Rattle.like_records.specs.declared.fault.RecordsFault.{RecordsFault}
use Rattle.like_records.specs.declared.fault.RecordsFault.TheVariants as told
use Rattle.like_records.specs.Rows.{Behind, Excuses, FailsSome, IsFirstFailed, IsHeadless, PassAll, Record}
use Rattle.like_records.proofs.RowsRead.{ends-file, ends-told}
use Rattle.like_records.proofs.rows.read_records.Goals as goal

-- what the rows behind the header make is what the file makes
of_rows : {M T : Type 0} (fault_of : RecordsFault → T) (Made : M → List Record → Type 0)
    (Failed : T → List Record → Type 0) (header first : Record) (headless : T)
    (rows body : List Record) (r : Result M T) → rows ≡ first ∷ body → first ≡ header
    → MatchResult r (λ made. Made made body) (λ fault. Excuses fault_of fault ⊎ Failed fault body)
    → MatchResult r (λ made. Behind header (Made made) rows)
    (λ fault. Excuses fault_of fault ⊎ IsHeadless header headless rows fault ⊎ Behind header (Failed fault) rows)
of_rows fault_of Made Failed header first headless rows body (Ok made) all same done =
    (body, all ∙ ap (λ r. r ∷ body) same, done)
of_rows fault_of Made Failed header first headless rows body (Err fault) all same why =
    ⊎_elim inl (λ failed. inr (inr (body, all ∙ ap (λ r. r ∷ body) same, failed))) why

pub returns-in-Ok-clause-file : goal.returns-in-Ok-clause-file
returns-in-Ok-clause-file g c = λ rows known.
    let next : TakesRecord c.args.records.now c.read_next.new.self × (c.read_next.new.self.stopped ≡ None) =
    rw c.if-not-found.false at c.in-Ok.ensures.next in
    let (rest, first, more) = next.0 rows known in
    of_rows g.K.FileKind.fault_of
    (λ made body. PassAll g.K.FileKind.asks g.K.FileKind.tests body × g.K.FileKind.holds c.args.kind.now made body)
    (λ fault body. IsFirstFailed g.K.FileKind.asks g.K.FileKind.tests body fault) _ c.read_next.new.self.fields
    c.args.headless rows rest c.read_rows.result first
    (c.fields_are.ensures.0 c.if-not-fields_are.false) (c.read_rows.ensures.rows rest more)

pub returns-in-Ok-clause-ends : goal.returns-in-Ok-clause-ends
returns-in-Ok-clause-ends g c =
    ends-file g.K.FileKind.fault_of (c.read_rows.new.records.stopped ≡ Some told.Read)
    (FailsSome g.K.FileKind.asks g.K.FileKind.tests) c.args.headless c.read_rows.result c.read_rows.ensures.ends

pub returns-clause-ends : goal.returns-clause-ends
returns-clause-ends g c =
    let stopped = ap (λ (r : Reading). r.stopped) c.in-Err.ensures.next in
    rw c.fault.ensures
    (inr (ends-told g.K.FileKind.fault_of (c.read_next.new.self.stopped ≡ Some told.Read)
    (FailsSome g.K.FileKind.asks g.K.FileKind.tests) c.in-Err.why (λ is. stopped ∙ ap Some is)))
