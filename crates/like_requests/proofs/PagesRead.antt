-- What the reading of its rows says of a pages file.
use Rattle.std.proofs.Common.{◌≡◌, ◌≢◌, ◌+◌, List, [], ◌∷◌, ◌++◌, Option, Some, None, Result, IfErr, MatchOption, MatchResult, length, map, take, refl, sym, ap, ◌∙◌, ◌⊎◌}
use Rattle.std.specs.Option.{ok_or}
use Rattle.std.proofs.lemmas.List.{length-map, map-append}
use Rattle.like_records.specs.declared.fault.RecordsFault.{RecordsFault}
use Rattle.like_records.specs.declared.fault.RecordsFault.TheVariants as records
use Rattle.like_records.specs.Rows.{Behind, EndsReading, Excuses, FailsSome, IsFirstFailed, IsHeadless, PassAll, Record, field}
use Rattle.like_records.proofs.RowsRead.{among, only-failed, stopped}
use Rattle.like_requests.specs.Pages.{Page, names}
use Rattle.like_requests.specs.PagesFile.{AsksPageRecord, IsPagesFault, IsPagesFile, fault_of, page_of, page_tests, pages_header}
use Rattle.like_requests.specs.declared.pages_file.PagesFault.{PagesFault}
use Rattle.like_requests.specs.declared.pages_file.PagesFault.TheVariants.{Read, Header, Fields, Name, Duplicate, Count, Split, TooMany, Empty, Memory}

-- the names of the pages that records list
names-page_of : (done : List Record) → names (map page_of done) ≡ map (λ e. field e 0) done
names-page_of [] = refl
names-page_of (r ∷ done) = ap (λ ns. field r 0 ∷ ns) (names-page_of done)

-- the names so far are those that the records before list, of which there are as many
pub names-listed : (pages : List Page) (done : List Record)
    → pages ≡ map page_of done
    → names pages ≡ map (λ e. field e 0) done
names-listed pages done same = ap names same ∙ names-page_of done

pub count-listed : (pages : List Page) (done : List Record) → pages ≡ map page_of done → length pages ≡ length done
count-listed pages done same = ap (λ (ps : List Page). length ps) same ∙ length-map done page_of

-- one record more lists one page more
pub page-listed : (entries old : List Page) (done : List Record) (r : Record) (page : Page)
    → old ≡ map page_of done
    → page_of r ≡ page
    → entries ≡ old ++ page ∷ []
    → entries ≡ map page_of (done ++ r ∷ [])
page-listed entries old done r page same is added = added ∙ rw (same, ← is) (sym (map-append page_of done (r ∷ [])))

-- the file is stopped by a record, and not by its header or its end
abbrev StopsAtRecord : PagesFault → Type 0
StopsAtRecord Header = ⊥
StopsAtRecord Empty = ⊥
StopsAtRecord fault = Unit {0}

at_record : (body : List Record) (fault : PagesFault)
    → IsFirstFailed AsksPageRecord page_tests body fault
    → StopsAtRecord fault
at_record body fault h =
    among (AsksPageRecord (take h.0 body) h.1) StopsAtRecord (page_tests (h.0 + 1)) fault
    (tt, (tt, (tt, (tt, (tt, (tt, tt)))))) h.4

-- a record that fails a test is why the file has no pages
stops_file : (rows : List Record) (fault : PagesFault)
    → Behind pages_header (λ body. IsFirstFailed AsksPageRecord page_tests body fault) rows
    → IsPagesFault rows fault
stops_file rows Read h = tt
stops_file rows Memory h = tt
stops_file rows Header h = absurd (at_record h.0 Header h.2)
stops_file rows Empty h = absurd (at_record h.0 Empty h.2)
stops_file rows (Fields row) h = h
stops_file rows (Name row) h = h
stops_file rows (Duplicate row) h = h
stops_file rows (Count row) h = h
stops_file rows (Split row) h = h
stops_file rows TooMany h = h

-- a record that could not be had says nothing of the file
excused : (rows : List Record) (why : RecordsFault) → IsPagesFault rows (fault_of why)
excused rows records.Read = tt
excused rows records.Memory = tt

-- why the file was not read is why it has no pages
pub pages-stopped : (rows : List Record) (fault : PagesFault)
    → Excuses fault_of fault ⊎ IsHeadless pages_header Header rows fault
    ⊎ Behind pages_header (λ body. IsFirstFailed AsksPageRecord page_tests body fault) rows
    → IsPagesFault rows fault
pages-stopped rows fault why =
    stopped (IsPagesFault rows) fault_of pages_header Header
    (λ why. Behind pages_header (λ body. IsFirstFailed AsksPageRecord page_tests body why) rows) rows fault
    (excused rows) (λ none. none) (stops_file rows fault) why

-- no record lists no page
none_listed : (body : List Record) → [] ≡ map page_of body → body ≡ []
none_listed [] e = refl
none_listed (r ∷ body) e = cc

-- the entries that were read are the file's pages, where there are any
pub pages-read : (rows : List Record) (entries : List Page) (some : Option (List Page))
    (r : Result (List Page) PagesFault)
    → Behind pages_header (λ body. PassAll AsksPageRecord page_tests body × (entries ≡ map page_of body)) rows
    → MatchOption some (entries ≡ []) (λ pages. (pages ≡ entries) × (entries ≢ []))
    → r ≡ ok_or some Empty
    → MatchResult r (IsPagesFile rows) (IsPagesFault rows)
pages-read rows entries (Some pages) r (body, whole, made) same e =
    rw e (body, whole, (λ none. same.1 (made.1 ∙ ap (λ rows. map page_of rows) none)), made.0, same.0 ∙ made.1)
pages-read rows entries None r (body, whole, made) none e =
    rw e (whole ∙ ap (λ rows. pages_header ∷ rows) (none_listed body (sym none ∙ made.1)))

-- of the faults of a pages file, that of a failed read stands only where a read failed
pub pages-only-failed : (Failed : Type 0) (fault : PagesFault)
    → (fault ≡ Header) ⊎ EndsReading fault_of Failed (FailsSome AsksPageRecord page_tests) fault
    → fault ≡ Read
    → Failed
pages-only-failed Failed fault why =
    only-failed fault_of Failed AsksPageRecord page_tests Header Read fault (λ e. cc e) (λ e. cc e)
    (λ row. ((λ e. cc e), ((λ e. cc e), ((λ e. cc e), ((λ e. cc e), ((λ e. cc e), ((λ e. cc e), tt))))))) why

-- and a file with no page is none of a failed read
pub empty-not-read : (Failed : Type 0) (some : Option (List Page)) (r : Result (List Page) PagesFault)
    → r ≡ ok_or some Empty
    → IfErr r (λ fault. fault ≡ Read → Failed)
empty-not-read Failed (Some pages) r e = rw e tt
empty-not-read Failed None r e = rw e (λ is. cc is)
