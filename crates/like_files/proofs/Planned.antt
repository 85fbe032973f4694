-- The plans that the request files give, one file after the other.
use Rattle.std.proofs.Common.{◌≡◌, ℕ, zero, suc, ◌<◌, List, [], ◌∷◌, ◌++◌, length, map, get_or, take, Option, None, Some, Result, Ok, Err, MatchResult, Vec, Global, refl, sym, ap, ◌∙◌, subst, inl, inr, arith, option_map}
use Rattle.std.proofs.lemmas.List.{length-map, map-append, take-map}
use Rattle.std.proofs.lemmas.Option.{get_or_from_slice_get, slice_get-map, slice_get_read, slice_get_within}
use Rattle.std.proofs.lemmas.Slice.Zip.{AllZip-long, AllZip-right}
use Rattle.std.specs.List.{AllZip, slice_get, slice_index_or}
use Rattle.std.specs.Prelude.{IsSomeAnd, MatchOption, ◌⊎◌}
use Rattle.like_records.specs.Reading.{records_of}
use Rattle.like_requests.specs.Pages.{Page}
use Rattle.like_records.specs.Rows.{Record}
use Rattle.like_requests.specs.declared.request.Request.{Request}
use Rattle.like_requests.specs.declared.requests_file.RequestsFault.{RequestsFault}
use Rattle.like_requests.specs.declared.requests_file.RequestsFault.TheVariants.{Memory}
use Rattle.like_promises.proofs.Lists.{AllZip-more}
use Rattle.like_replies.proofs.Lists.{AllZip-by_place}
use Rattle.like_files.specs.Faults.{submitter_at}
use Rattle.like_files.specs.Inputs.{GivesPlan, GivesPlans, OfRecords, RefusesPlan, RefusesPlans}
use Rattle.like_files.specs.Plans.{Answer, IsFirstStop, Stops}
use Rattle.like_files.specs.declared.fault.DriverFault.{DriverFault}
use Rattle.like_files.specs.declared.fault.DriverFault.TheVariants as driver

-- what holds of each answer for the records of a file holds of it
pub of_records : {A E : Type 0} (source : Option (List ℕ)) (P : List Record → A → Type 0) (Q : List Record → E → Type 0)
    (r : Result A E)
    → ((rows : List Record) → option_map records_of source ≡ Some rows → MatchResult r (P rows) (Q rows))
    → MatchResult r (λ x. OfRecords source (λ rows. P rows x)) (λ e. OfRecords source (λ rows. Q rows e))
of_records source P Q (Ok x) h = h
of_records source P Q (Err e) h = h

-- ---- lists that match

-- the first pairs match
AllZip-take : {A B : Type 0} (R : A → B → Type 0) (n : ℕ) (xs : List A) (ys : List B)
    → AllZip R xs ys
    → AllZip R (take n xs) (take n ys)
AllZip-take R zero xs ys h = tt
AllZip-take R (suc n) [] [] h = tt
AllZip-take R (suc n) [] (y ∷ ys) h = absurd h
AllZip-take R (suc n) (x ∷ xs) [] h = absurd h
AllZip-take R (suc n) (x ∷ xs) (y ∷ ys) h = (h.0, AllZip-take R n xs ys h.1)

-- ---- files that are read one after the other

abbrev pub requests_of : Vec Request Global → List Request
requests_of plan = plan.items

-- what the reader of a file answers is its plan, or why it is refused
abbrev pub Reads : {R : Type 0} → (R → Option (List ℕ)) → List Page → R → Answer → Type 0
Reads source_of pages reader answer =
    MatchResult answer (λ plan. GivesPlan pages (source_of reader) plan.items) (RefusesPlan (source_of reader))

-- why the file is refused whose answer adds no plan
refused_by : {R : Type 0} (source_of : R → Option (List ℕ)) (pages : List Page) (reader : R) (answer : Answer)
    (why : RequestsFault)
    → Reads source_of pages reader answer
    → (answer ≡ Err why) ⊎ (why ≡ Memory) → RefusesPlan (source_of reader) why
refused_by source_of pages reader answer why reads (inl is) = subst (Reads source_of pages reader) is reads
refused_by source_of pages reader answer why reads (inr is) =
    subst (RefusesPlan (source_of reader)) (sym is) (λ rows there. tt)

-- the answer is a plan, which was added
pub record AddsPlan (answer : Answer) (old new : List (Vec Request Global)) : Type 0 where
  pub plan : Vec Request Global
  pub given : answer ≡ Ok plan
  pub added : new ≡ old ++ plan ∷ []

-- so it is where the answers are as many as the plans
adds-plan : (answer : Answer) (old new : List (Vec Request Global)) → map Ok new ≡ map Ok old ++ answer ∷ []
    → AddsPlan answer old new
adds-plan answer [] [] is = absurd (cc is)
adds-plan answer [] (plan ∷ []) is = record { plan = plan; given = cc is; added = refl }
adds-plan answer [] (plan ∷ other ∷ new) is = absurd (cc is)
adds-plan answer (plan ∷ old) [] is = absurd (cc is)
adds-plan answer (plan ∷ old) (first ∷ new) is =
    let same : first ≡ plan = cc is in
    let rest : map Ok new ≡ map Ok old ++ answer ∷ [] = cc is in
    let more = adds-plan answer old new rest in
    record { plan = more.plan; given = more.given; added = (λ i. same i ∷ more.added i) }

pub added-plan : (answer : Answer) (plan : Vec Request Global) (old new : List (Vec Request Global)) → answer ≡ Ok plan
    → new ≡ old ++ plan ∷ [] → map Ok new ≡ map Ok old ++ answer ∷ []
added-plan answer plan old new given added =
    ap (λ (plans : List (Vec Request Global)). map Ok plans) added
    ∙ (map-append Ok old (plan ∷ []) ∙ ap (λ (a : Answer). map Ok old ++ a ∷ []) (sym given))

-- the plan of the next file was added
pub GivesPlans-next : {R : Type 0} (source_of : R → Option (List ℕ)) (pages : List Page) (done : List R) (reader : R)
    (answer : Answer) (old new : List (Vec Request Global))
    → GivesPlans pages (map source_of done) (map requests_of old)
    → Reads source_of pages reader answer
    → map Ok new ≡ map Ok old ++ answer ∷ []
    → GivesPlans pages (map source_of (done ++ reader ∷ [])) (map requests_of new)
GivesPlans-next source_of pages done reader answer old new given reads added =
    let adds : AddsPlan answer old new = adds-plan answer old new added in
    let plan : GivesPlan pages (source_of reader) adds.plan.items =
    subst (Reads source_of pages reader) adds.given reads in
    rw (adds.added, map-append source_of done (reader ∷ []), map-append requests_of old (adds.plan ∷ []))
    (AllZip-more (GivesPlan pages) (map source_of done) (map requests_of old)
    (source_of reader) adds.plan.items given plan)

-- the next file gave none
pub RefusesPlans-next : {R : Type 0} (source_of : R → Option (List ℕ)) (pages : List Page) (readers done : List R)
    (reader : R) (answer : Answer) (plans : List (Vec Request Global)) (fault : DriverFault)
    → take (length done) readers ≡ done → length done < length readers → reader ≡ get_or readers (length done) reader
    → GivesPlans pages (map source_of done) (map requests_of plans)
    → Reads source_of pages reader answer
    → Stops answer (length plans) fault
    → RefusesPlans pages (map source_of readers) fault
RefusesPlans-next source_of pages readers done reader answer plans fault front there is given reads stops =
    let size : length plans ≡ length done =
    sym (length-map plans requests_of)
    ∙ (AllZip-long (GivesPlan pages) (map source_of done) (map requests_of plans) given
    ∙ length-map done source_of) in
    let at : slice_get (map source_of readers) (length done) ≡ Some (source_of reader) =
    slice_get-map source_of readers (length done)
    ∙ ap (λ o. option_map source_of o)
    (slice_get_read readers (length readers) (length done) reader refl there is) in
    let before : take (length done) (map source_of readers) ≡ map source_of done =
    take-map source_of (length done) readers ∙ ap (map source_of) front in
    subst (RefusesPlans pages (map source_of readers)) (sym stops.named) (
      length done,
      ap submitter_at size,
      (map requests_of plans, rw before given),
      rw at (refused_by source_of pages reader answer stops.why reads stops.stood),
    )

-- ---- files that are read at once

-- a call's answer, of which the fact holds with the reader at this place
pub record AnswersJob {J R : Type 0} (P : J → R → Type 0) (jobs : List J) (place : ℕ) (answer : R) : Type 0 where
  pub job : J
  pub is_job : (d : J) → slice_index_or jobs place d ≡ job
  pub holds : P job answer

-- what the readers' calls answer matches the readers
pub AllZip-jobs : {J R : Type 0} (P : J → R → Type 0) (jobs : List J) (answers : List R) → length answers ≡ length jobs
    → ((i : ℕ) (d : R) → i < length jobs → AnswersJob P jobs i (slice_index_or answers i d)) → AllZip P jobs answers
AllZip-jobs {J = Job} {R = Reply} P jobs answers same each = AllZip-by_place P jobs answers same by_place where
  by_place : (i : ℕ) (x : Job) (y : Reply) → slice_get jobs i ≡ Some x → slice_get answers i ≡ Some y → P x y
  by_place i x y at there =
      let given : AnswersJob P jobs i (slice_index_or answers i y) = each i y (slice_get_within jobs i x at) in
      let source : given.job ≡ x = sym (given.is_job x) ∙ get_or_from_slice_get jobs i x x at in
      subst (λ r. P x r) (get_or_from_slice_get answers i y y there)
      (subst (λ j. P j (slice_index_or answers i y)) source given.holds)

-- all files gave their plans
pub GivesPlans-in_parallel : {R : Type 0} (source_of : R → Option (List ℕ)) (pages : List Page) (readers : List R)
    (answers : List Answer) (plans : List (Vec Request Global))
    → AllZip (Reads source_of pages) readers answers
    → answers ≡ map Ok plans
    → GivesPlans pages (map source_of readers) (map requests_of plans)
GivesPlans-in_parallel source_of pages readers answers plans reads is =
    by_lists readers plans (subst (AllZip (Reads source_of pages) readers) is reads) where
      by_lists : (rs : List _) (ps : List (Vec Request Global)) → AllZip (Reads source_of pages) rs (map Ok ps)
          → GivesPlans pages (map source_of rs) (map requests_of ps)
      by_lists [] [] h = tt
      by_lists [] (p ∷ ps) h = absurd h
      by_lists (r ∷ rs) [] h = absurd h
      by_lists (r ∷ rs) (p ∷ ps) h = (h.0, by_lists rs ps h.1)

-- the first file may always be refused for want of memory
pub RefusesPlans-memory : {R : Type 0} (source_of : R → Option (List ℕ)) (pages : List Page) (readers : List R)
    → 0 < length readers
    → RefusesPlans pages (map source_of readers) (driver.Requests 0 Memory)
RefusesPlans-memory source_of pages [] some = absurd (let no : 0 < 0 = some in omega (arith, no))
RefusesPlans-memory source_of pages (reader ∷ readers) some =
    (0, refl, ([], tt), λ rows there. tt)

-- the first that gave none is refused
pub RefusesPlans-in_parallel : {R : Type 0} (source_of : R → Option (List ℕ)) (pages : List Page) (readers : List R)
    (answers : List Answer) (fault : DriverFault)
    → AllZip (Reads source_of pages) readers answers
    → IsFirstStop answers fault
    → RefusesPlans pages (map source_of readers) fault
RefusesPlans-in_parallel source_of pages readers answers fault reads first =
    by_answer (slice_get answers first.place) first.stops
    (AllZip-right (Reads source_of pages) readers answers reads first.place) where
      sources : List (Option (List ℕ))
      sources = map source_of readers

      before : GivesPlans pages (take first.place sources) (map requests_of first.plans)
      before =
          rw (take-map source_of first.place readers)
          (GivesPlans-in_parallel source_of pages (take first.place readers) (take first.place answers) first.plans
          (AllZip-take (Reads source_of pages) first.place readers answers reads) first.before)

      by_reader : (o : Option _) (answer : Answer) → slice_get readers first.place ≡ o → Stops answer first.place fault
          → IsSomeAnd o (λ reader. Reads source_of pages reader answer) → RefusesPlans pages sources fault
      by_reader None answer at stops reads_it = absurd reads_it
      by_reader (Some reader) answer at stops reads_it =
          let source : slice_get sources first.place ≡ Some (source_of reader) =
          slice_get-map source_of readers first.place ∙ ap (λ o. option_map source_of o) at in
          let refused : RefusesPlan (source_of reader) stops.why =
          refused_by source_of pages reader answer stops.why reads_it stops.stood in
          subst (RefusesPlans pages sources) (sym stops.named)
          (first.place, refl, (map requests_of first.plans, before), rw source refused)

      by_answer : (o : Option Answer) → IsSomeAnd o (λ answer. Stops answer first.place fault)
          → MatchOption o (Unit {0})
          (λ answer. IsSomeAnd (slice_get readers first.place) (λ reader. Reads source_of pages reader answer))
          → RefusesPlans pages sources fault
      by_answer None stops reads_it = absurd stops
      by_answer (Some answer) stops reads_it = by_reader (slice_get readers first.place) answer refl stops reads_it

-- so the plans of all files are given, or the first fault stands
pub in_parallel : {R : Type 0} (source_of : R → Option (List ℕ)) (pages : List Page) (readers : List R)
    (answers : List Answer) (result : Result (Vec (Vec Request Global) Global) DriverFault)
    → AllZip (Reads source_of pages) readers answers
    → MatchResult result (λ plans. answers ≡ map Ok plans.items) (IsFirstStop answers)
    → MatchResult result (λ plans. GivesPlans pages (map source_of readers) (map requests_of plans.items))
    (RefusesPlans pages (map source_of readers))
in_parallel source_of pages readers answers (Ok plans) reads gathered =
    GivesPlans-in_parallel source_of pages readers answers plans.items reads gathered
in_parallel source_of pages readers answers (Err fault) reads gathered =
    RefusesPlans-in_parallel source_of pages readers answers fault reads gathered
