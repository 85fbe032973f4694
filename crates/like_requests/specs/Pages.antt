-- The pages of a run, as the pages file lists them.
use Rattle.std.specs.Prelude.{ℕ, Bool, ◌<◌, ◌≤◌, List, length, map, position, bytes_eq, Option, All, IsUtf8}
use Rattle.std.specs.List.{IsDistinct}
use Rattle.like_limits.specs.Limits.{max_count, max_name, max_pages}

-- a page: its name in bytes, its initial count, and whether it is marked split
pub record Page : Type 0 where
  pub name : List ℕ
  pub count : ℕ
  pub split : Bool

-- the names of pages, in their order
abbrev pub names : List Page → List (List ℕ)
names pages = map (λ p. p.name) pages

-- the number of the page with this name, if there is one
abbrev pub number_of : List Page → List ℕ → Option ℕ
number_of pages name = position (bytes_eq name) (names pages)

-- whether each page is marked as split
abbrev pub marks_of : List Page → List Bool
marks_of pages = map (λ p. p.split) pages

-- the initial count of each page
abbrev pub counts_of : List Page → List ℕ
counts_of pages = map (λ p. p.count) pages

-- a page's name is 1 to 64 bytes of UTF-8
pub record IsName (name : List ℕ) : Type 0 where
  pub some : 0 < length name
  pub short : length name ≤ max_name
  pub text : IsUtf8 name

-- there are at most 1,024 pages, with distinct names and counts of at most 10^18
pub record AreEntries (pages : List Page) : Type 0 where
  pub few : length pages ≤ max_pages
  pub named : All (λ p. IsName p.name) pages
  pub counted : All (λ p. p.count ≤ max_count) pages
  pub distinct : IsDistinct bytes_eq (names pages)

-- there are 1 to 1,024 pages, with distinct names and counts of at most 10^18
pub record ArePages (pages : List Page) : Type 0 where
  pub some : 0 < length pages
  pub entries : AreEntries pages
