-- How the text of rows grows, and what was written of it.
use Rattle.std.proofs.Common.{◌≡◌, ℕ, ◌+◌, cond, refl, List, [], ◌∷◌, ◌++◌, length, map, Option, sym, ap, ◌∙◌, arith, append_assoc, append-nil, zero-add, get_or, subst, ◌<◌, All, option_map}
use Rattle.std.proofs.KnownBytes.{Appends-trans}
use Rattle.std.proofs.lemmas.Grind.{flat_map-append}
use Rattle.std.proofs.lemmas.List.{length-map, map-append, map-id}
use Rattle.std.proofs.lemmas.List.FromFn.{map-range_with_len_more}
use Rattle.std.proofs.Math.ListN.{get_or-map}
use Rattle.std.proofs.lemmas.List.Elements.{filter-append, filter_map-append}
use Rattle.std.specs.Io.KnownBytes.{Appends}
use Rattle.std.specs.List.{enumerate_from, filter, filter_map, flat_map, range_with_len}
use Rattle.csv.specs.Writing.{default_writer, row_text}
use Rattle.like_requests.specs.Pages.{Page}
use Rattle.like_core.specs.Phase.{is_hot}
use Rattle.like_promises.specs.declared.chosen.Chosen.{Chosen}
use Rattle.like_promises.specs.declared.answer.Answer.{Answer}
use Rattle.like_promises.specs.declared.place.Place.{Place}
use Rattle.like_collection.proofs.Lists.{enumerate_from-append}
use Rattle.like_replies.specs.PlaceRows.{place_row, place_rows}
use Rattle.like_replies.specs.Rows.{answer_rows, hot_row, hot_rows, liker_rows, page_row, page_rows, reply_row, reply_rows, rows_text, user_row}

-- the text of one more row
pub rows_text-push : (rows : List (List (List ℕ))) (row : List (List ℕ))
    → rows_text (rows ++ row ∷ []) ≡ rows_text rows ++ row_text default_writer row
rows_text-push rows row =
    flat_map-append (row_text default_writer) rows (row ∷ [])
    ∙ ap (λ t. rows_text rows ++ t) (append-nil (row_text default_writer row))

-- the rows of more answers
pub answer_rows-append : (pages : List Page) (submitter before : ℕ) (answers more : List Answer)
    → answer_rows pages submitter before (answers ++ more)
    ≡ answer_rows pages submitter before answers ++ answer_rows pages submitter (before + length answers) more
answer_rows-append pages submitter before answers more =
    let e : before + 1 + length answers ≡ before + length answers + 1 = omega arith in
    let row : ℕ × Answer → List (List ℕ) = λ p. reply_row pages submitter p.0 p.1 in
    ap (map row) (enumerate_from-append (before + 1) answers more)
    ∙ map-append row (enumerate_from (before + 1) answers) (enumerate_from (before + 1 + length answers) more)
    ∙ ap (λ k. answer_rows pages submitter before answers ++ map row (enumerate_from k more)) e

-- the row of one more page
pub page_rows-push : (pages : List Page) (counts : List ℕ) (count : ℕ)
    → page_rows pages (counts ++ count ∷ []) ≡ page_rows pages counts ++ page_row pages (length counts) count ∷ []
page_rows-push pages counts count =
    let e : enumerate_from 0 (counts ++ count ∷ []) ≡ enumerate_from 0 counts ++ (length counts, count) ∷ [] =
    simp (enumerate_from-append, zero-add) in
    ap (map (λ p. page_row pages p.0 p.1)) e
    ∙ map-append (λ p. page_row pages p.0 p.1) (enumerate_from 0 counts) ((length counts, count) ∷ [])

-- the rows of more users
pub liker_rows-append : (pages : List Page) (before : ℕ) (last more : List (Option ℕ))
    → liker_rows pages before (last ++ more)
    ≡ liker_rows pages before last ++ liker_rows pages (before + length last) more
liker_rows-append pages before last more =
    let row : ℕ × Option ℕ → Option (List (List ℕ)) = λ p. option_map (user_row pages p.0) p.1 in
    ap (filter_map row) (enumerate_from-append before last more)
    ∙ filter_map-append row (enumerate_from before last) (enumerate_from (before + length last) more)

-- the rows of one more submitter
pub reply_rows-push : (pages : List Page) (replies : List (List Answer)) (answers : List Answer)
    → reply_rows pages (replies ++ answers ∷ [])
    ≡ reply_rows pages replies ++ answer_rows pages (length replies) 0 answers
reply_rows-push pages replies answers =
    let e : enumerate_from 0 (replies ++ answers ∷ []) ≡ enumerate_from 0 replies ++ (length replies, answers) ∷ [] =
    simp (enumerate_from-append, zero-add) in
    ap (flat_map (λ p. answer_rows pages p.0 0 p.1)) e
    ∙ flat_map-append (λ p. answer_rows pages p.0 0 p.1) (enumerate_from 0 replies)
    ((length replies, answers) ∷ [])
    ∙ ap (λ r. reply_rows pages replies ++ r) (append-nil (answer_rows pages (length replies) 0 answers))

-- the rows of one more page, where it is hot and where it is not
range-more : (a n : ℕ) → range_with_len a (n + 1) ≡ range_with_len a n ++ (a + n) ∷ []
range-more a n =
    sym (map-id (range_with_len a (n + 1))) ∙ map-range_with_len_more (λ (k : ℕ). k) a n (a + n) refl
    ∙ ap (λ xs. xs ++ (a + n) ∷ []) (map-id (range_with_len a n))

-- the rows of a phase's hot pages with numbers below this one
abbrev pub hot_rows_below : List Page → Chosen → ℕ → List (List (List ℕ))
hot_rows_below pages c below = map (hot_row pages c.phase) (filter (is_hot c.mask) (range_with_len 0 below))

pub hot_rows-more : (pages : List Page) (c : Chosen) (page : ℕ)
    → hot_rows_below pages c (page + 1)
    ≡ hot_rows_below pages c page ++ map (hot_row pages c.phase) (cond (is_hot c.mask page) (page ∷ []) [])
hot_rows-more pages c page =
    ap (λ xs. map (hot_row pages c.phase) (filter (is_hot c.mask) xs))
    (range-more 0 page ∙ ap (λ k. range_with_len 0 page ++ k ∷ []) (zero-add page))
    ∙ ap (map (hot_row pages c.phase)) (filter-append (is_hot c.mask) (range_with_len 0 page) (page ∷ []))
    ∙ map-append (hot_row pages c.phase) (filter (is_hot c.mask) (range_with_len 0 page))
    (cond (is_hot c.mask page) (page ∷ []) [])

-- the rows of one more phase
pub hot_rows-push : (pages : List Page) (hot : List Chosen) (c : Chosen)
    → hot_rows pages (hot ++ c ∷ []) ≡ hot_rows pages hot ++ hot_rows_below pages c (length pages)
hot_rows-push pages hot c =
    flat_map-append (λ (x : Chosen). hot_rows_below pages x (length pages)) hot (c ∷ [])
    ∙ ap (λ r. hot_rows pages hot ++ r) (append-nil (hot_rows_below pages c (length pages)))

-- the rows of the places of one more page
pub place_rows-push : (pages : List Page) (rows : List (List Place)) (row : List Place)
    → place_rows pages (rows ++ row ∷ []) ≡ place_rows pages rows ++ map (place_row pages (length rows)) row
place_rows-push pages rows row =
    let e : enumerate_from 0 (rows ++ row ∷ []) ≡ enumerate_from 0 rows ++ (length rows, row) ∷ [] =
    simp (enumerate_from-append, zero-add) in
    ap (flat_map (λ p. map (place_row pages p.0) p.1)) e
    ∙ flat_map-append (λ p. map (place_row pages p.0) p.1) (enumerate_from 0 rows) ((length rows, row) ∷ [])
    ∙ ap (λ r. place_rows pages rows ++ r) (append-nil (map (place_row pages (length rows)) row))

-- one more row was added to a sheet
pub AddsRow : (first sheet more : List ℕ) (rows : List (List (List ℕ))) (row : List (List ℕ))
    → sheet ≡ first ++ rows_text rows
    → more ≡ sheet ++ row_text default_writer row
    → more ≡ first ++ rows_text (rows ++ row ∷ [])
AddsRow first sheet more rows row had added =
    added ∙ ap (λ t. t ++ row_text default_writer row) had
    ∙ append_assoc first (rows_text rows) (row_text default_writer row)
    ∙ ap (λ t. first ++ t) (sym (rows_text-push rows row))

-- rows were added to a sheet, and then more rows
pub AddsRows : (first sheet more : List ℕ) (rows others : List (List (List ℕ)))
    → sheet ≡ first ++ rows_text rows → more ≡ sheet ++ rows_text others → more ≡ first ++ rows_text (rows ++ others)
AddsRows first sheet more rows others had added =
    added ∙ ap (λ t. t ++ rows_text others) had ∙ append_assoc first (rows_text rows) (rows_text others)
    ∙ ap (λ t. first ++ t) (sym (flat_map-append (row_text default_writer) rows others))

-- rows were written, and then more rows
pub Appends-rows : (a b c : Option (List ℕ)) (rows more : List (List (List ℕ)))
    → Appends a b (rows_text rows)
    → Appends b c (rows_text more)
    → Appends a c (rows_text (rows ++ more))
Appends-rows a b c rows more p q =
    rw (flat_map-append (row_text default_writer) rows more) (Appends-trans a b c (rows_text rows) (rows_text more) p q)

-- a fact of each image holds of the image of an element
pub All-image : {X Y : Type 0} (P : Y → Type 0) (f : X → Y) (xs : List X) (i : ℕ) (x : X)
    → All P (map f xs)
    → i < length xs
    → x ≡ get_or xs i x
    → P (f x)
All-image P f xs i x all h is =
    let n : i < length (map f xs) = simp length-map h in
    let e : get_or (map f xs) i (f x) ≡ f x = get_or-map f xs i x ∙ ap f (sym is) in
    subst P e (all i (f x) n)
