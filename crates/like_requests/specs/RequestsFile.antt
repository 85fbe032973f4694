-- What a requests file says: the records that CSV gives of it, and the requests or the fault.
use Rattle.std.specs.Prelude.{◌≡◌, ◌≢◌, ◌⊎◌, ◌<◌, ℕ, List, [], ◌∷◌, length, map, bytes_eq, codes, if◌then◌else◌, Option, Some, None, ⊤}
use Rattle.like_limits.specs.Limits.{max_requests, max_user}
use Rattle.like_records.specs.Decimal.{IsDecimal, decimal_value}
use Rattle.like_records.specs.Rows.{Behind, IsFirstFailed, PassAll, Record, field}
use Rattle.like_records.specs.declared.fault.RecordsFault.{RecordsFault, RecordsFault as records}
use Rattle.like_requests.specs.Pages.{Page, number_of}
use Rattle.like_requests.specs.Types.{Known, Like, Look, Op, PageRef, Request, RequestsFault, RequestsFault as fault}
use Rattle.like_requests.specs.Types.{Unknown}

abbrev pub requests_header : Record
requests_header = codes "op" ∷ codes "user" ∷ codes "page" ∷ []

-- a text names an operation
abbrev pub IsOp : List ℕ → Type 0
IsOp text = (text ≡ codes "like") ⊎ (text ≡ codes "look")

-- the operation that it names
abbrev pub op_of : List ℕ → Op
op_of text = if bytes_eq text (codes "like") then Like else Look

-- the page with this number, if there is one
abbrev pub page_ref : Option ℕ → PageRef
page_ref None = Unknown
page_ref (Some number) = Known number

-- the request that a record makes
abbrev pub request_made : List Page → Record → Request
request_made pages r = record {
  op = op_of (field r 0);
  user = decimal_value (field r 1);
  page = page_ref (number_of pages (field r 2));
}

-- what the test with this fault asks of a record after this many others
abbrev pub AsksRequest : ℕ → Record → RequestsFault → Type 0
AsksRequest earlier r (fault.Fields row) = length r ≡ 3
AsksRequest earlier r (fault.Op row) = IsOp (field r 0)
AsksRequest earlier r (fault.User row) = IsDecimal 10 max_user (field r 1)
AsksRequest earlier r fault.TooMany = earlier < max_requests
AsksRequest earlier r why = ⊤

-- what the test with this fault asks of a record after these earlier ones
abbrev pub AsksRequestRecord : List Record → Record → RequestsFault → Type 0
AsksRequestRecord earlier r why = AsksRequest (length earlier) r why

-- the tests of the record at a row, in order
abbrev pub request_tests : ℕ → List RequestsFault
request_tests row = fault.Fields row ∷ fault.Op row ∷ fault.User row ∷ fault.TooMany ∷ []

-- the fault when a record could not be read
abbrev pub fault_of : RecordsFault → RequestsFault
fault_of records.Read = fault.Read
fault_of records.Memory = fault.Memory

-- why a file with these records has no requests
abbrev pub IsRequestsFault : List Record → RequestsFault → Type 0
IsRequestsFault rows fault.Read = ⊤
IsRequestsFault rows fault.Memory = ⊤
IsRequestsFault rows fault.Header = (body : List Record) → rows ≢ requests_header ∷ body
IsRequestsFault rows why = Behind requests_header (λ body. IsFirstFailed AsksRequestRecord request_tests body why) rows

-- the requests of a file with these records, where these are the pages
abbrev pub IsRequestsFile : List Page → List Record → List Request → Type 0
IsRequestsFile pages rows requests =
    (body : List Record) × (rows ≡ requests_header ∷ body) × PassAll AsksRequestRecord request_tests body
    × (requests ≡ map (request_made pages) body)
