-- The parts of a reply's row, as text.
use Rattle.std.specs.Prelude.{ℕ, List, [], ◌∷◌, ◌++◌, codes, decimal}
use Rattle.csv.specs.Writing.{default_writer, end_text, fields_text, row_body}
use Rattle.like_requests.specs.Pages.{Page}
use Rattle.like_promises.specs.Types.{Place, Reply}
use Rattle.like_replies.specs.Rows.{shown_fields}

-- the first two fields of the rows of a submitter's requests, and the comma after them
abbrev pub reply_start : ℕ → List ℕ
reply_start submitter =
    row_body default_writer (codes "reply" ∷ decimal submitter ∷ [])
    ++ default_writer.delimiter ∷ []

-- how a row with a number begins: a start, and then the number
pub record RowHead : Type 0 where
  pub start : List ℕ
  pub number : ℕ

-- the first four fields of the row of a place, and the comma after them
abbrev pub place_start : ℕ → Place → List ℕ
place_start page p =
    row_body default_writer (codes "place" ∷ decimal page ∷ decimal p.worker ∷ decimal p.phase ∷ [])
    ++ default_writer.delimiter ∷ []

-- the fourth field of the row of a reply, after its comma
abbrev pub phase_text : ℕ → List ℕ
phase_text phase = fields_text default_writer (decimal phase ∷ [])

-- the last three fields of the row of a reply, each after its comma, and the end of the row
abbrev pub shown_text : List Page → Reply → List ℕ
shown_text pages reply =
    fields_text default_writer (shown_fields pages reply) ++ end_text default_writer.terminator
