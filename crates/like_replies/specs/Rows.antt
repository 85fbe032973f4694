-- The rows of a report, and their text.
use Rattle.std.specs.Prelude.{◌≡◌, ◌≢◌, ◌<◌, ◌+◌, ⊤, ℕ, All, length, List, [], ◌∷◌, ◌++◌, map, filter, codes, decimal, slice_get, Option, option_map, filter_map, flat_map}
use Rattle.std.specs.{List.enumerate_from, List.range_with_len, Option.ForSome, Option.option_map_or}
use Rattle.csv.specs.Writing.{default_writer, row_text}
use Rattle.like_requests.specs.{Pages.Page, Types.Accepted, Types.OtherHome, Types.UnknownPage, Types.UnknownUser}
use Rattle.like_core.specs.Phase.{is_hot}
use Rattle.like_promises.specs.Types.{Answer, Chosen, Liked, Refused, Reply, Seen}
use Rattle.like_replies.specs.Reported.{Reported}

-- the name of a page
abbrev pub name_of : List Page → ℕ → List ℕ
name_of pages page = option_map_or (λ p. p.name) (slice_get pages page) []

-- the word of a reply; an accepted request is not refused
abbrev pub answer_word : Reply → List ℕ
answer_word Liked = codes "liked"
answer_word (Seen last count) = codes "seen"
answer_word (Refused UnknownUser) = codes "unknown-user"
answer_word (Refused OtherHome) = codes "other-home"
answer_word (Refused UnknownPage) = codes "unknown-page"
answer_word (Refused Accepted) = []

-- what a reply shows: its word, and for a look the name of the page liked last and the count
abbrev pub shown_fields : List Page → Reply → List (List ℕ)
shown_fields pages (Seen last count) = codes "seen" ∷ option_map_or (name_of pages) last [] ∷ decimal count ∷ []
shown_fields pages reply = answer_word reply ∷ [] ∷ [] ∷ []

abbrev pub header_row : List (List ℕ)
header_row =
    codes "row" ∷ codes "id" ∷ codes "number" ∷ codes "phase" ∷ codes "answer" ∷ codes "page" ∷ codes "count" ∷ []

-- the row of a submitter's request with this number
abbrev pub reply_row : List Page → ℕ → ℕ → Answer → List (List ℕ)
reply_row pages submitter number a =
    codes "reply" ∷ decimal submitter ∷ decimal number ∷ decimal a.phase ∷ shown_fields pages a.reply

-- the row of a page with its final count
abbrev pub page_row : List Page → ℕ → ℕ → List (List ℕ)
page_row pages page count =
    codes "page" ∷ decimal page ∷ [] ∷ [] ∷ [] ∷ name_of pages page ∷ decimal count ∷ []

-- the row of a user whose last like is of this page
abbrev pub user_row : List Page → ℕ → ℕ → List (List ℕ)
user_row pages user page = codes "user" ∷ decimal user ∷ [] ∷ [] ∷ [] ∷ name_of pages page ∷ [] ∷ []

-- the row of a page that is hot in a phase
abbrev pub hot_row : List Page → ℕ → ℕ → List (List ℕ)
hot_row pages phase page =
    codes "hot" ∷ decimal page ∷ [] ∷ decimal phase ∷ [] ∷ name_of pages page ∷ [] ∷ []

-- the rows of a submitter's requests after the first `before`, by their numbers
abbrev pub answer_rows : List Page → ℕ → ℕ → List Answer → List (List (List ℕ))
answer_rows pages submitter before answers =
    map (λ p. reply_row pages submitter p.0 p.1) (enumerate_from (before + 1) answers)

-- the rows of all requests, by submitter and number
abbrev pub reply_rows : List Page → List (List Answer) → List (List (List ℕ))
reply_rows pages replies = flat_map (λ p. answer_rows pages p.0 0 p.1) (enumerate_from 0 replies)

-- the rows of the pages, by their numbers from 0
abbrev pub page_rows : List Page → List ℕ → List (List (List ℕ))
page_rows pages counts = map (λ p. page_row pages p.0 p.1) (enumerate_from 0 counts)

-- the rows of the users from number `before` on that have an accepted like, by their numbers
abbrev pub liker_rows : List Page → ℕ → List (Option ℕ) → List (List (List ℕ))
liker_rows pages before last = filter_map (λ p. option_map (user_row pages p.0) p.1) (enumerate_from before last)

-- the rows of the hot pages, by phase
abbrev pub hot_rows : List Page → List Chosen → List (List (List ℕ))
hot_rows pages hot =
    flat_map (λ c. map (hot_row pages c.phase) (filter (is_hot c.mask) (range_with_len 0 (length pages)))) hot

-- the rows of a report: the header, the requests, the pages, the users, the hot pages
abbrev pub report_rows : List Page → Reported → List (List (List ℕ))
report_rows pages r =
    header_row
    ∷ (reply_rows pages r.replies ++ page_rows pages r.counts ++ liker_rows pages 0 r.last ++ hot_rows pages r.hot)

-- the text of rows
abbrev pub rows_text : List (List (List ℕ)) → List ℕ
rows_text rows = flat_map (row_text default_writer) rows

-- a reply can be shown: the page that it shows is there, and no accepted request is refused
abbrev pub IsShowable : List Page → Reply → Type 0
IsShowable pages Liked = ⊤
IsShowable pages (Seen last count) = ForSome last (λ page. page < length pages)
IsShowable pages (Refused verdict) = verdict ≢ Accepted

-- a report counts each page, and shows pages that are there and replies that can be
pub record IsWritable (pages : List Page) (r : Reported) : Type 0 where
  pub counted : length r.counts ≡ length pages
  pub shown : All (All (λ a. IsShowable pages a.reply)) r.replies
  pub liked : All (λ last. ForSome last (λ page. page < length pages)) r.last
