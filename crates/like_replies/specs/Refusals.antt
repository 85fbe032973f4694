-- The line on the refused requests of a report.
use Rattle.std.specs.Prelude.{ℕ, List, ◌++◌, codes, decimal}
use Rattle.like_replies.specs.declared.summary.Summary.{Summary}

-- how many of the requests were refused
abbrev pub refused_text : ℕ → ℕ → List ℕ
refused_text refused requests =
    codes "likes: refused " ++ decimal refused ++ codes " of " ++ decimal requests ++ codes " requests: "

-- how many requests were answered with a word
abbrev pub kind_text : ℕ → List ℕ → List ℕ → List ℕ
kind_text n word end = decimal n ++ codes " " ++ word ++ end

-- the line on refused requests
abbrev pub refusals_line : Summary → List ℕ
refusals_line s =
    refused_text s.refused s.requests
    ++ kind_text s.unknown_user (codes "unknown-user") (codes ", ")
    ++ kind_text s.other_home (codes "other-home") (codes ", ")
    ++ kind_text s.unknown_page (codes "unknown-page") (codes "\n")
