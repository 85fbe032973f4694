-- What the reading of its rows says of a requests file.
use Rattle.std.proofs.Common.{◌≡◌, ◌+◌, List, Vec, Global, Result, Ok, Err, IfErr, MatchResult, map, take, ◌⊎◌}
use Rattle.like_records.specs.declared.fault.RecordsFault.{RecordsFault}
use Rattle.like_records.specs.declared.fault.RecordsFault.TheVariants as records
use Rattle.like_records.specs.Rows.{Behind, EndsReading, Excuses, FailsSome, IsFirstFailed, IsHeadless, PassAll, Record}
use Rattle.like_records.proofs.RowsRead.{among, only-failed, stopped}
use Rattle.like_requests.specs.Pages.{Page}
use Rattle.like_requests.specs.RequestsFile.{AsksRequestRecord, IsRequestsFault, IsRequestsFile, fault_of, request_made, request_tests, requests_header}
use Rattle.like_requests.specs.declared.request.Request.{Request}
use Rattle.like_requests.specs.declared.requests_file.RequestsFault.{RequestsFault}
use Rattle.like_requests.specs.declared.requests_file.RequestsFault.TheVariants.{Read, Header, Fields, Op, User, TooMany, Memory}

-- the file is stopped by a record, and not by its header
abbrev StopsAtRecord : RequestsFault → Type 0
StopsAtRecord Header = ⊥
StopsAtRecord fault = Unit {0}

at_record : (body : List Record) (fault : RequestsFault)
    → IsFirstFailed AsksRequestRecord request_tests body fault
    → StopsAtRecord fault
at_record body fault h =
    among (AsksRequestRecord (take h.0 body) h.1) StopsAtRecord (request_tests (h.0 + 1)) fault
    (tt, (tt, (tt, (tt, tt)))) h.4

-- a record that fails a test is why the file has no requests
stops_file : (rows : List Record) (fault : RequestsFault)
    → Behind requests_header (λ body. IsFirstFailed AsksRequestRecord request_tests body fault) rows
    → IsRequestsFault rows fault
stops_file rows Read h = tt
stops_file rows Memory h = tt
stops_file rows Header h = absurd (at_record h.0 Header h.2)
stops_file rows (Fields row) h = h
stops_file rows (Op row) h = h
stops_file rows (User row) h = h
stops_file rows TooMany h = h

-- a record that could not be had says nothing of the file
excused : (rows : List Record) (why : RecordsFault) → IsRequestsFault rows (fault_of why)
excused rows records.Read = tt
excused rows records.Memory = tt

-- what was read of the file is what it says
pub requests-read : (pages : List Page) (rows : List Record) (r : Result (Vec Request Global) RequestsFault)
    → MatchResult r
    (λ requests. Behind requests_header
    (λ body. PassAll AsksRequestRecord request_tests body × (requests.items ≡ map (request_made pages) body)) rows)
    (λ fault. Excuses fault_of fault ⊎ IsHeadless requests_header Header rows fault
    ⊎ Behind requests_header (λ body. IsFirstFailed AsksRequestRecord request_tests body fault) rows)
    → MatchResult r (λ requests. IsRequestsFile pages rows requests.items) (IsRequestsFault rows)
requests-read pages rows (Ok requests) made = (made.0, made.1, made.2.0, made.2.1)
requests-read pages rows (Err fault) why =
    stopped (IsRequestsFault rows) fault_of requests_header Header
    (λ why. Behind requests_header (λ body. IsFirstFailed AsksRequestRecord request_tests body why) rows) rows fault
    (excused rows) (λ none. none) (stops_file rows fault) why

-- of the faults of a requests file, that of a failed read stands only where a read failed
pub requests-only-failed : (Failed : Type 0) (r : Result (Vec Request Global) RequestsFault)
    → IfErr r (λ fault. (fault ≡ Header)
    ⊎ EndsReading fault_of Failed (FailsSome AsksRequestRecord request_tests) fault)
    → IfErr r (λ fault. fault ≡ Read → Failed)
requests-only-failed Failed (Ok requests) why = tt
requests-only-failed Failed (Err fault) why =
    only-failed fault_of Failed AsksRequestRecord request_tests Header Read fault (λ e. cc e) (λ e. cc e)
    (λ row. ((λ e. cc e), ((λ e. cc e), ((λ e. cc e), ((λ e. cc e), tt))))) why
