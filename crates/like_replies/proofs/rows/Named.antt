-- The texts of the pages' names.
use Rattle.std.proofs.Common.{◌≡◌, ℕ, zero, suc, ◌<◌, List, Vec, Global, [], ◌∷◌, length, map, get_or, slice_get, Some, option_map, ap, ◌∙◌, arith}
use Rattle.csv.specs.Writing.{default_writer, field_text}
use Rattle.like_requests.specs.Pages.{Page}
use Rattle.like_replies.specs.Rows.{name_of}

-- the text of the name of a page
abbrev pub text_of_name : Page → List ℕ
text_of_name page = field_text default_writer page.name

-- the bytes in a vector
abbrev pub bytes_in : Vec ℕ Global → List ℕ
bytes_in text = text.items

-- the text of a name that is there
pub text-named : (pages : List Page) (page : ℕ) (name : List ℕ)
    → option_map (λ p. p.name) (slice_get pages page) ≡ Some name
    → option_map text_of_name (slice_get pages page) ≡ Some (field_text default_writer name)
text-named [] page name h = absurd (cc h)
text-named (p ∷ ps) zero name h = let same : p.name ≡ name = cc h in ap (λ n. Some (field_text default_writer n)) same
text-named (p ∷ ps) (suc page) name h = text-named ps page name h

-- the text at a page's place is that of its name
pub text-at : (texts : List (Vec ℕ Global)) (pages : List Page) (page : ℕ) (text : Vec ℕ Global)
    → page < length pages
    → map bytes_in texts ≡ map text_of_name pages
    → text ≡ get_or texts page text
    → text.items ≡ field_text default_writer (name_of pages page)
text-at texts [] page text there same is = absurd (omega arith)
text-at [] (p ∷ ps) page text there same is = absurd (cc same)
text-at (t ∷ ts) (p ∷ ps) zero text there same is = let first : t.items ≡ text_of_name p = cc same in
    ap bytes_in is ∙ first
text-at (t ∷ ts) (p ∷ ps) (suc page) text there same is =
    let others : map bytes_in ts ≡ map text_of_name ps = cc same in
    text-at ts ps page text (omega arith) others is
