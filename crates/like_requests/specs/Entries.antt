-- The pages that the entries of a map from names are.
use Rattle.std.specs.Prelude.{◌≡◌, ℕ, List, Vec, map, string_bytes}
use Rattle.std.specs.declared.alloc.Global.{Global}
use Rattle.like_requests.specs.{Pages.Page, Pages.names, declared.entries.Listed.Listed}

-- an entry: the bytes of a page's name, and the page
abbrev pub NamedPage : Type 0
NamedPage = Vec ℕ Global × Listed

abbrev pub page_of_entry : NamedPage → Page
page_of_entry e = record { name = string_bytes e.1.name; count = e.1.initial.count; split = e.1.initial.split }

abbrev pub listed_pages : List NamedPage → List Page
listed_pages entries = map page_of_entry entries

-- each entry's key is its page's name
abbrev pub AreKeyed : List NamedPage → Type 0
AreKeyed entries = map (λ e. e.0.items) entries ≡ names (listed_pages entries)
