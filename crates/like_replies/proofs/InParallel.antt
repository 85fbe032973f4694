-- The text of sections that are made in parallel.
use Rattle.std.proofs.Common.{◌≡◌, ℕ, zero, suc, ◌<◌, List, [], ◌∷◌, ◌++◌, Result, Ok, None, Some, Option, IfOk, drop, length, map, min, option_map, refl, sym, take, take-append-drop, ap, ◌∙◌, subst}
use Rattle.std.proofs.lemmas.Grind.{flat_map-append}
use Rattle.std.proofs.lemmas.List.{length-map, length-take}
use Rattle.std.proofs.lemmas.Option.{get_or_from_slice_get, slice_get-map, slice_get_within}
use Rattle.std.specs.Io.KnownBytes.{Appends}
use Rattle.std.specs.List.{AllZip, flat_map, slice_get, slice_index_or}
use Rattle.csv.specs.Writing.{default_writer, row_text}
use Rattle.like_requests.specs.Pages.{Page}
use Rattle.like_replies.specs.declared.report.section.Section.{Section}
use Rattle.like_replies.specs.Output.{HasBegun}
use Rattle.like_replies.specs.Rows.{rows_text}
use Rattle.like_replies.specs.Sections.{rows_in, section_rows}
use Rattle.like_replies.proofs.Begun.{begun-after}
use Rattle.like_replies.proofs.Lists.{AllZip-by_place}

-- the texts of sections, one of each, are the text of all
texts-of_each : (pages : List Page) (sections : List Section) (texts : List (List ℕ))
    → AllZip (λ s text. text ≡ rows_text (section_rows pages s)) sections texts
    → flat_map (λ text. text) texts ≡ rows_text (rows_in pages sections)
texts-of_each pages [] [] h = refl
texts-of_each pages [] (t ∷ ts) h = absurd h
texts-of_each pages (s ∷ more) [] h = absurd h
texts-of_each pages (s ∷ more) (t ∷ ts) h =
    ap (λ text. text ++ flat_map (λ u. u) ts) h.0
    ∙ ap (λ text. rows_text (section_rows pages s) ++ text) (texts-of_each pages more ts h.1)
    ∙ sym (flat_map-append (row_text default_writer) (section_rows pages s) (rows_in pages more))

-- the text of sections, and of more
pub rows-append : (pages : List Page) (sections more : List Section)
    → rows_text (rows_in pages (sections ++ more)) ≡ rows_text (rows_in pages sections) ++ rows_text (rows_in pages more)
rows-append pages sections more =
    ap rows_text (flat_map-append (section_rows pages) sections more)
    ∙ flat_map-append (row_text default_writer) (rows_in pages sections) (rows_in pages more)

-- an element of a front stands at its place in the whole list
slice_get-front : {X : Type 0} (n : ℕ) (xs : List X) (i : ℕ) (x : X) → slice_get (take n xs) i ≡ Some x
    → slice_get xs i ≡ Some x
slice_get-front zero xs i x at = let no : None ≡ Some x = at in cc no
slice_get-front (suc n) [] i x at = let no : None ≡ Some x = at in cc no
slice_get-front (suc n) (y ∷ ys) zero x at = at
slice_get-front (suc n) (y ∷ ys) (suc i) x at = slice_get-front n ys i x at

-- sheets that each have the text of one section, or none: if the first so many have one, these are the texts of as many
-- sections
pub texts-in_parallel : {E : Type 0} (pages : List Page) (sections : List Section) (sheets : List (Result (List ℕ) E))
    (count : ℕ) (texts : List (List ℕ))
    → length sheets ≡ length sections
    → ((i : ℕ) (s : Section) (d : Result (List ℕ) E) → slice_get sections i ≡ Some s → i < length sheets
    → IfOk (slice_index_or sheets i d) (λ text. text ≡ rows_text (section_rows pages s)))
    → take count sheets ≡ map Ok texts
    → flat_map (λ text. text) texts ≡ rows_text (rows_in pages (take count sections))
texts-in_parallel {E = Fault} pages sections sheets count texts same makes made =
    texts-of_each pages (take count sections) texts
    (AllZip-by_place _ (take count sections) texts
    (sym (length-map texts Ok) ∙ ap length (sym made) ∙ length-take count sheets ∙ ap (min count) same
    ∙ sym (length-take count sections)) by_place) where
      by_place : (i : ℕ) (s : Section) (t : List ℕ) → slice_get (take count sections) i ≡ Some s
          → slice_get texts i ≡ Some t
          → t ≡ rows_text (section_rows pages s)
      by_place i s t at there =
          let at_whole : slice_get sections i ≡ Some s = slice_get-front count sections i s at in
          let inside : i < length sections = slice_get_within sections i s at_whole in
          let among : slice_get (take count sheets) i ≡ Some (Ok t) =
          rw made (slice_get-map Ok texts i ∙ ap (λ o. option_map Ok o) there) in
          let is : slice_index_or sheets i (Ok t) ≡ Ok t =
          get_or_from_slice_get sheets i (Ok t) (Ok t) (slice_get-front count sheets i (Ok t) among) in
          subst (λ (r : Result (List ℕ) Fault). IfOk r (λ text. text ≡ rows_text (section_rows pages s))) is
          (makes i s (Ok t) at_whole (rw same inside))

-- the text of the first so many sections, and that of the others
pub rows-parts : (pages : List Page) (sections : List Section) (count : ℕ)
    → rows_text (rows_in pages sections)
    ≡ rows_text (rows_in pages (take count sections)) ++ rows_text (rows_in pages (drop count sections))
rows-parts pages sections count =
    ap (λ xs. rows_text (rows_in pages xs)) (sym (take-append-drop count sections))
    ∙ rows-append pages (take count sections) (drop count sections)

-- a front of the text of all sections was written: that of those that are done, and a front of the next
pub begun-sections : (pages : List Page) (sections done group rest : List Section) (a b c : Option (List ℕ))
    → sections ≡ done ++ (group ++ rest)
    → Appends a b (rows_text (rows_in pages done))
    → HasBegun b c (rows_text (rows_in pages group))
    → HasBegun a c (rows_text (rows_in pages sections))
begun-sections pages sections done group rest a b c whole written begun =
    let text : rows_text (rows_in pages sections)
    ≡ rows_text (rows_in pages done) ++ (rows_text (rows_in pages group) ++ rows_text (rows_in pages rest)) =
    ap (λ xs. rows_text (rows_in pages xs)) whole ∙ rows-append pages done (group ++ rest)
    ∙ ap (λ t. rows_text (rows_in pages done) ++ t) (rows-append pages group rest) in
    rw text
    (begun-after a b c (rows_text (rows_in pages done)) (rows_text (rows_in pages group)) (rows_text (rows_in pages rest))
    written begun)
