-- What a pages file says: the records that CSV gives of it, and the pages or the fault.
use Rattle.std.specs.Prelude.{◌≡◌, ◌≢◌, ◌⊎◌, ◌<◌, ℕ, List, [], ◌∷◌, length, map, Contains, bytes_eq, codes, ⊤}
use Rattle.like_limits.specs.Limits.{max_count, max_pages}
use Rattle.like_records.specs.Decimal.{IsDecimal, decimal_value}
use Rattle.like_records.specs.Rows.{Behind, IsFirstFailed, PassAll, Record, field}
use Rattle.like_records.specs.declared.fault.RecordsFault.{RecordsFault, RecordsFault as records}
use Rattle.like_requests.specs.declared.pages_file.PagesFault.TheVariants.{Count, Duplicate, Empty, Fields, Header}
use Rattle.like_requests.specs.declared.pages_file.PagesFault.TheVariants.{Memory, Name, Read, Split, TooMany}
use Rattle.like_requests.specs.{Pages.IsName, Pages.Page, Types.PagesFault}

abbrev pub pages_header : Record
pages_header = codes "name" ∷ codes "count" ∷ codes "split" ∷ []

-- the page that a record lists
abbrev pub page_of : Record → Page
page_of r = record { name = field r 0; count = decimal_value (field r 1); split = bytes_eq (field r 2) (codes "yes") }

-- a field says whether a page is marked split
abbrev pub IsSplitMark : List ℕ → Type 0
IsSplitMark text = (text ≡ codes "yes") ⊎ (text ≡ codes "no")

-- what the test with this fault asks of a record after those that list pages with these names
abbrev pub AsksPage : List (List ℕ) → Record → PagesFault → Type 0
AsksPage earlier r (Fields row) = length r ≡ 3
AsksPage earlier r (Name row) = IsName (field r 0)
AsksPage earlier r (Duplicate row) = ¬ Contains earlier (field r 0)
AsksPage earlier r (Count row) = IsDecimal 19 max_count (field r 1)
AsksPage earlier r (Split row) = IsSplitMark (field r 2)
AsksPage earlier r TooMany = length earlier < max_pages
AsksPage earlier r fault = ⊤

-- what the test with this fault asks of a record after these earlier ones
abbrev pub AsksPageRecord : List Record → Record → PagesFault → Type 0
AsksPageRecord earlier r fault = AsksPage (map (λ e. field e 0) earlier) r fault

-- the tests of the record at a row, in order
abbrev pub page_tests : ℕ → List PagesFault
page_tests row = Fields row ∷ Name row ∷ Duplicate row ∷ Count row ∷ Split row ∷ TooMany ∷ []

-- the fault when a record could not be read
abbrev pub fault_of : RecordsFault → PagesFault
fault_of records.Read = Read
fault_of records.Memory = Memory

-- why a file with these records has no pages
abbrev pub IsPagesFault : List Record → PagesFault → Type 0
IsPagesFault rows Read = ⊤
IsPagesFault rows Memory = ⊤
IsPagesFault rows Header = (body : List Record) → rows ≢ pages_header ∷ body
IsPagesFault rows Empty = rows ≡ pages_header ∷ []
IsPagesFault rows fault = Behind pages_header (λ body. IsFirstFailed AsksPageRecord page_tests body fault) rows

-- the pages of a file with these records
abbrev pub IsPagesFile : List Record → List Page → Type 0
IsPagesFile rows pages =
    (body : List Record) × (rows ≡ pages_header ∷ body) × (body ≢ [])
    × PassAll AsksPageRecord page_tests body × (pages ≡ map page_of body)
