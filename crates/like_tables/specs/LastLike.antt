-- How the page of a last like, or none, is kept in four bytes.
use Rattle.std.specs.Prelude.{ℕ, ◌==◌, if◌then◌else◌, Option, Some, None}

-- the number for no page: no page has it
abbrev pub no_page : ℕ
no_page = 4294967295

-- the page with this number, if it is a page's
abbrev pub page_in : ℕ → Option ℕ
page_in number = if number == no_page then None else Some number

-- the number of a page, or `no_page`
abbrev pub page_or_none : Option ℕ → ℕ
page_or_none (Some page) = page
page_or_none None = no_page
