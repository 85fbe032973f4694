-- The sections of rows that a report and its places are written by.
use Rattle.std.specs.Prelude.{◌≡◌, ◌<◌, ◌+◌, ◌^◌, ⊤, ℕ, All, List, [], ◌∷◌, length, map, flat_map}
use Rattle.std.specs.Option.{ForSome}
use Rattle.like_requests.specs.Pages.{Page}
use Rattle.like_replies.specs.Rows.{IsShowable, answer_rows, header_row, hot_rows, liker_rows, page_rows}
use Rattle.like_replies.specs.declared.report.section.Section.TheVariants.{Answers, Counts, Header, Hot, Places, Users}
use Rattle.like_replies.specs.{PlaceRows.place_row, declared.report.section.Section.Section}

-- the rows of a section
abbrev pub section_rows : List Page → Section → List (List (List ℕ))
section_rows pages Header = header_row ∷ []
section_rows pages (Answers submitter before answers) = answer_rows pages submitter before answers.now
section_rows pages (Counts counts) = page_rows pages counts.now
section_rows pages (Users before last) = liker_rows pages before last.now
section_rows pages (Hot hot) = hot_rows pages hot.now
section_rows pages (Places page places) = map (place_row pages page) places.now

-- a section shows replies that can be shown and pages that are there, and its numbers have at most 64 bits
abbrev pub HasRows : List Page → Section → Type 0
HasRows pages Header = ⊤
HasRows pages (Answers submitter before answers) =
    (before + 1 + length answers.now < 2 ^ 64) × All (λ a. IsShowable pages a.reply) answers.now
HasRows pages (Counts counts) = length counts.now ≡ length pages
HasRows pages (Users before last) =
    (before + length last.now < 2 ^ 64) × All (λ page. ForSome page (λ p. p < length pages)) last.now
HasRows pages (Hot hot) = ⊤
HasRows pages (Places page places) = page < length pages

-- the rows of sections
abbrev pub rows_in : List Page → List Section → List (List (List ℕ))
rows_in pages sections = flat_map (section_rows pages) sections

-- sections have these rows
pub record AreSections (pages : List Page) (rows : List (List (List ℕ))) (sections : List Section) : Type 0 where
  pub same : rows_in pages sections ≡ rows
  pub each : All (HasRows pages) sections
