-- The numbers of a report, and their text.
use Rattle.std.specs.Prelude.{ℕ, Bool, false, true, List, ◌++◌, ◌+◌, length, codes, decimal, fold, bit_or, count_by, count_ones, sum_by, bytes_eq}
use Rattle.like_promises.specs.Types.{Chosen, Refused, Replies, Reply, Report}
use Rattle.like_replies.specs.{Rows.answer_word, declared.summary.Summary.Summary}

-- how many requests have a reply
abbrev pub requests_in : Replies → ℕ
requests_in replies = sum_by (λ row. length row.items) replies.rows.items

-- how many replies pass a test
abbrev pub count_replies : (Reply → Bool) → Replies → ℕ
count_replies test replies = sum_by (λ row. count_by (λ a. test a.reply) row.items) replies.rows.items

-- how many replies have this answer
abbrev pub answered : List ℕ → Replies → ℕ
answered word replies = count_replies (λ reply. bytes_eq (answer_word reply) word) replies

-- a reply refuses its request
abbrev pub is_refusal : Reply → Bool
is_refusal (Refused verdict) = true
is_refusal reply = false

-- how many pages were hot in some phase
abbrev pub hot_pages : List Chosen → ℕ
hot_pages hot = count_ones (fold (λ mask c. bit_or mask c.mask) 0 hot)

-- the numbers of a report
abbrev pub summary_of : Report → Summary
summary_of r = record {
  requests = requests_in r.replies;
  refused = count_replies is_refusal r.replies;
  liked = answered (codes "liked") r.replies;
  seen = answered (codes "seen") r.replies;
  unknown_user = answered (codes "unknown-user") r.replies;
  other_home = answered (codes "other-home") r.replies;
  unknown_page = answered (codes "unknown-page") r.replies;
  phases = r.phases + 1;
  hot_phases = length r.hot.items;
  hot_pages = hot_pages r.hot.items;
}

-- a line with a name and a number
abbrev pub number_line : List ℕ → ℕ → List ℕ
number_line name n = name ++ codes ": " ++ decimal n ++ codes "\n"

-- the text of a summary
abbrev pub summary_text : Summary → List ℕ
summary_text s =
    number_line (codes "requests") s.requests
    ++ number_line (codes "liked") s.liked
    ++ number_line (codes "seen") s.seen
    ++ number_line (codes "unknown-user") s.unknown_user
    ++ number_line (codes "other-home") s.other_home
    ++ number_line (codes "unknown-page") s.unknown_page
    ++ number_line (codes "phases") s.phases
    ++ number_line (codes "phases with hot pages") s.hot_phases
    ++ number_line (codes "hot pages") s.hot_pages
