-- The text of each kind of row: fixed words, numbers and the text of a name.
use Rattle.std.proofs.Common.{◌≡◌, ℕ, List, Option, [], ◌∷◌, ◌++◌, refl, ap, append-nil, append_assoc}
use Rattle.std.specs.Prelude.{codes, decimal}
use Rattle.std.specs.Option.{option_map_or}
use Rattle.csv.specs.Writing.{default_writer, end_text, field_text, fields_text, is_blank, row_text}
use Rattle.like_requests.specs.Pages.{Page}
use Rattle.like_requests.specs.declared.verdict.Verdict.TheVariants.{OtherHome, UnknownPage, UnknownUser}
use Rattle.like_promises.specs.declared.reply.Reply.{Reply}
use Rattle.like_promises.specs.declared.reply.Reply.TheVariants.{Liked, Refused, Seen}
use Rattle.like_promises.specs.declared.answer.Answer.{Answer}
use Rattle.like_promises.specs.declared.place.Place.{Place}
use Rattle.like_replies.specs.PlaceRows.{place_row}
use Rattle.like_replies.specs.RowParts.{phase_text, place_start, reply_start, shown_text}
use Rattle.like_replies.specs.Rows.{answer_word, hot_row, name_of, page_row, reply_row, shown_fields, user_row}

-- the text of a number
abbrev pub number_text : ℕ → List ℕ
number_text number = field_text default_writer (decimal number)

-- the text of a page's name
abbrev pub name_text : List Page → ℕ → List ℕ
name_text pages page = field_text default_writer (name_of pages page)

-- how the rows of a submitter's requests begin
pub start-text : (submitter : ℕ) → reply_start submitter ≡ (codes "reply," ++ number_text submitter) ++ 44 ∷ []
unfolding fields_text
start-text submitter = ap (λ t. codes "reply," ++ (t ++ 44 ∷ [])) (append-nil (number_text submitter))

-- the phase of a row
pub phase-text : (phase : ℕ) → phase_text phase ≡ codes "," ++ number_text phase
unfolding fields_text
phase-text phase = ap (λ t. codes "," ++ t) (append-nil (number_text phase))

-- what a like shows
pub liked-text : (pages : List Page) → shown_text pages Liked ≡ codes ",liked,,\n"
unfolding fields_text
liked-text pages = refl

-- what a refusal shows
pub unknown_user-text : (pages : List Page) → shown_text pages (Refused UnknownUser) ≡ codes ",unknown-user,,\n"
unfolding fields_text
unknown_user-text pages = refl

pub other_home-text : (pages : List Page) → shown_text pages (Refused OtherHome) ≡ codes ",other-home,,\n"
unfolding fields_text
other_home-text pages = refl

pub unknown_page-text : (pages : List Page) → shown_text pages (Refused UnknownPage) ≡ codes ",unknown-page,,\n"
unfolding fields_text
unknown_page-text pages = refl

-- what a look shows
seen_in_parts : (page count : List ℕ) → (page ++ 44 ∷ (count ++ [])) ++ 10 ∷ [] ≡ page ++ 44 ∷ (count ++ 10 ∷ [])
seen_in_parts page count = simp (append_assoc, append-nil)

pub seen-text : (pages : List Page) (last : Option ℕ) (count : ℕ)
    → shown_text pages (Seen last count)
    ≡ codes ",seen,"
    ++ (field_text default_writer (option_map_or (name_of pages) last []) ++ 44 ∷ (number_text count ++ 10 ∷ []))
unfolding fields_text
seen-text pages last count =
    ap (λ t. codes ",seen," ++ t)
    (seen_in_parts (field_text default_writer (option_map_or (name_of pages) last [])) (number_text count))

-- the row of a request: its head, its phase and what its reply shows
reply_in_parts : (submitter number phase answer page count : List ℕ)
    → (submitter ++ 44 ∷ (number ++ 44 ∷ (phase ++ 44 ∷ (answer ++ 44 ∷ (page ++ 44 ∷ (count ++ [])))))) ++ 10 ∷ []
    ≡ (((submitter ++ []) ++ 44 ∷ []) ++ number)
    ++ (44 ∷ (phase ++ []) ++ ((44 ∷ (answer ++ 44 ∷ (page ++ 44 ∷ (count ++ [])))) ++ 10 ∷ []))
reply_in_parts submitter number phase answer page count = simp (append_assoc, append-nil)

reply_fields : (submitter number phase : ℕ) (answer page count : List ℕ)
    → row_text default_writer
    (codes "reply" ∷ decimal submitter ∷ decimal number ∷ decimal phase ∷ answer ∷ page ∷ count ∷ [])
    ≡ (reply_start submitter ++ number_text number)
    ++ (phase_text phase
    ++ (fields_text default_writer (answer ∷ page ∷ count ∷ []) ++ end_text default_writer.terminator))
unfolding fields_text is_blank
reply_fields submitter number phase answer page count =
    ap (λ t. codes "reply," ++ t)
    (reply_in_parts (number_text submitter) (number_text number) (number_text phase)
    (field_text default_writer answer) (field_text default_writer page) (field_text default_writer count))

pub reply-text : (pages : List Page) (submitter number : ℕ) (a : Answer)
    → row_text default_writer (reply_row pages submitter number a)
    ≡ (reply_start submitter ++ number_text number) ++ (phase_text a.phase ++ shown_text pages a.reply)
reply-text pages submitter number a = by a.reply where
  by : (reply : Reply)
      → row_text default_writer
      (codes "reply" ∷ decimal submitter ∷ decimal number ∷ decimal a.phase ∷ shown_fields pages reply)
      ≡ (reply_start submitter ++ number_text number) ++ (phase_text a.phase ++ shown_text pages reply)
  by Liked = reply_fields submitter number a.phase (codes "liked") [] []
  by (Seen last count) =
      reply_fields submitter number a.phase (codes "seen") (option_map_or (name_of pages) last []) (decimal count)
  by (Refused verdict) = reply_fields submitter number a.phase (answer_word (Refused verdict)) [] []

-- the row of a page
page_in_parts : (page name count : List ℕ)
    → (page ++ 44 ∷ 44 ∷ 44 ∷ 44 ∷ (name ++ 44 ∷ (count ++ []))) ++ 10 ∷ []
    ≡ page ++ 44 ∷ 44 ∷ 44 ∷ 44 ∷ (name ++ 44 ∷ (count ++ 10 ∷ []))
page_in_parts page name count = simp (append_assoc, append-nil)

pub page-text : (pages : List Page) (page count : ℕ)
    → row_text default_writer (page_row pages page count)
    ≡ codes "page,"
    ++ (number_text page ++ (codes ",,,," ++ (name_text pages page ++ 44 ∷ (number_text count ++ 10 ∷ []))))
unfolding fields_text is_blank
page-text pages page count =
    ap (λ t. codes "page," ++ t) (page_in_parts (number_text page) (name_text pages page) (number_text count))

-- the row of a user
user_in_parts : (user name : List ℕ)
    → (user ++ 44 ∷ 44 ∷ 44 ∷ 44 ∷ (name ++ 44 ∷ [])) ++ 10 ∷ [] ≡ user ++ 44 ∷ 44 ∷ 44 ∷ 44 ∷ (name ++ 44 ∷ 10 ∷ [])
user_in_parts user name = simp append_assoc

pub user-text : (pages : List Page) (user page : ℕ)
    → row_text default_writer (user_row pages user page)
    ≡ codes "user," ++ (number_text user ++ (codes ",,,," ++ (name_text pages page ++ codes ",\n")))
unfolding fields_text is_blank
user-text pages user page = ap (λ t. codes "user," ++ t) (user_in_parts (number_text user) (name_text pages page))

-- the row of a hot page
hot_in_parts : (page phase name : List ℕ)
    → (page ++ 44 ∷ 44 ∷ (phase ++ 44 ∷ 44 ∷ (name ++ 44 ∷ []))) ++ 10 ∷ []
    ≡ page ++ 44 ∷ 44 ∷ (phase ++ 44 ∷ 44 ∷ (name ++ 44 ∷ 10 ∷ []))
hot_in_parts page phase name = simp append_assoc

pub hot-text : (pages : List Page) (phase page : ℕ)
    → row_text default_writer (hot_row pages phase page)
    ≡ codes "hot,"
    ++ (number_text page
    ++ (codes ",," ++ (number_text phase ++ (codes ",," ++ (name_text pages page ++ codes ",\n")))))
unfolding fields_text is_blank
hot-text pages phase page =
    ap (λ t. codes "hot," ++ t) (hot_in_parts (number_text page) (number_text phase) (name_text pages page))

-- how the row of a place begins
start_in_parts : (page worker phase : List ℕ)
    → (page ++ 44 ∷ (worker ++ 44 ∷ (phase ++ []))) ++ 44 ∷ [] ≡ page ++ 44 ∷ (worker ++ 44 ∷ (phase ++ 44 ∷ []))
start_in_parts page worker phase = simp (append_assoc, append-nil)

pub place_start-text : (page : ℕ) (p : Place)
    → place_start page p
    ≡ codes "place," ++ (number_text page ++ 44 ∷ (number_text p.worker ++ 44 ∷ (number_text p.phase ++ 44 ∷ [])))
unfolding fields_text
place_start-text page p =
    ap (λ t. codes "place," ++ t) (start_in_parts (number_text page) (number_text p.worker) (number_text p.phase))

-- the row of a place
place_in_parts : (page worker phase old name n : List ℕ)
    → (page ++ 44 ∷ (worker ++ 44 ∷ (phase ++ 44 ∷ (old ++ 44 ∷ (name ++ 44 ∷ (n ++ [])))))) ++ 10 ∷ []
    ≡ ((page ++ 44 ∷ (worker ++ 44 ∷ (phase ++ []))) ++ 44 ∷ []) ++ (old ++ 44 ∷ (name ++ 44 ∷ (n ++ 10 ∷ [])))
place_in_parts page worker phase old name n = simp (append_assoc, append-nil)

pub place-text : (pages : List Page) (page : ℕ) (p : Place)
    → row_text default_writer (place_row pages page p)
    ≡ place_start page p ++ (number_text p.old ++ 44 ∷ (name_text pages page ++ 44 ∷ (number_text p.n ++ 10 ∷ [])))
unfolding fields_text is_blank
place-text pages page p =
    ap (λ t. codes "place," ++ t)
    (place_in_parts (number_text page) (number_text p.worker) (number_text p.phase) (number_text p.old)
    (name_text pages page) (number_text p.n))
