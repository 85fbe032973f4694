use Rattle.std.proofs.Common.{◌≡◌, ◌++◌, ℕ, Result, Ok, Err, List, ap, length, arith, drop, map, subst, sym, ◌∙◌, take}
use Rattle.std.proofs.lemmas.List.{take_all}
use Rattle.std.specs.List.{flat_map}
use Rattle.std.specs.Io.KnownBytes.{Appends}
use Rattle.std.specs.Prelude.{MatchResult, Option}
use Rattle.like_replies.specs.Output.{HasBegun, Writes}
use Rattle.like_replies.specs.declared.report.section.Section.{Section}
use Rattle.like_replies.specs.Rows.{rows_text}
use Rattle.like_replies.specs.Sections.{rows_in}
use Rattle.like_replies.proofs.InParallel.{rows-parts, texts-in_parallel}
use Rattle.like_replies.proofs.Begun.{begun-longer}
use Rattle.like_replies.proofs.report.sheets.write_group.Goals as goal

-- the texts of sheets, or of the first so many, as those of sections
writes-group : {A E F : Type 0} (old new : Option (List ℕ)) (r : Result A E) (sheets : List (Result (List ℕ) F))
    (group : List Section) (whole : List ℕ) (text_of : ℕ → List ℕ) (rest_of : ℕ → List ℕ)
    → ((count : ℕ) (texts : List (List ℕ)) → take count sheets ≡ map Ok texts
    → flat_map (λ text. text) texts ≡ text_of count)
    → whole ≡ text_of (length sheets)
    → ((count : ℕ) → whole ≡ text_of count ++ rest_of count)
    → MatchResult r
    (λ _. (texts : List (List ℕ)) × (sheets ≡ map Ok texts) × Appends old new (flat_map (λ text. text) texts))
    (λ _. (texts : List (List ℕ)) × (count : ℕ) × (take count sheets ≡ map Ok texts)
    × HasBegun old new (flat_map (λ text. text) texts))
    → Writes old new r whole
writes-group old new (Ok x) sheets group whole text_of rest_of texts all parts made =
    subst (Appends old new)
    (texts (length sheets) made.0 (take_all (length sheets) sheets (omega arith) ∙ made.1) ∙ sym all) made.2
writes-group old new (Err e) sheets group whole text_of rest_of texts all parts made =
    subst (HasBegun old new) (sym (parts made.1))
    (begun-longer old new (text_of made.1) (rest_of made.1)
    (subst (HasBegun old new) (texts made.1 made.0 made.2) made.3))

pub returns-clause-written : goal.returns-clause-written
returns-clause-written g c =
    let pages = c.args.names.now in
    let group : List Section = c.args.group.now in
    let sheets = c.for_each_mut.new.s in
    let same : length sheets ≡ length group =
    omega (arith, c.for_each_mut.auto.s, c.split_at_mut-sheets.ensures.front_len, c.requires.enough) in
    writes-group _ _ c.write_all.result sheets group (rows_text (rows_in pages group))
    (λ count. rows_text (rows_in pages (take count group)))
    (λ count. rows_text (rows_in pages (drop count group)))
    (λ count texts made.
    texts-in_parallel pages group sheets count texts same
    (λ i s d at there. let given = (c.for_each_mut.ensures i d (omega (arith, there, c.for_each_mut.auto.s))).1 in
    rw (← given.left) (given.call s at)) made)
    (ap (λ xs. rows_text (rows_in pages xs)) (sym (take_all (length sheets) group (omega (arith, same)))))
    (rows-parts pages group) c.write_all.ensures.written
