-- The rows of sections, one after the other.
use Rattle.std.proofs.Common.{ℕ, List, [], ◌∷◌, ◌++◌, All, length, ap, ◌∙◌, subst, append-nil}
use Rattle.std.proofs.lemmas.Grind.{flat_map-append}
use Rattle.std.proofs.lemmas.List.Elements.{All-drop, All-push, All-take}
use Rattle.std.proofs.Math.Seq.{drop-append_seam, take-append_seam}
use Rattle.like_requests.specs.Pages.{Page}
use Rattle.like_replies.specs.declared.report.section.Section.{Section}
use Rattle.like_replies.specs.Sections.{AreSections, HasRows, section_rows}

-- one more section
pub AreSections-push : (pages : List Page) (rows : List (List (List ℕ))) (sections : List Section) (s : Section)
    → AreSections pages rows sections
    → HasRows pages s
    → AreSections pages (rows ++ section_rows pages s) (sections ++ s ∷ [])
AreSections-push pages rows sections s are has = record {
  same =
      flat_map-append (section_rows pages) sections (s ∷ []) ∙ ap (λ r. r ++ (section_rows pages s ++ [])) are.same
      ∙ ap (λ r. rows ++ r) (append-nil (section_rows pages s));
  each = All-push (HasRows pages) sections s are.each has;
}

-- what holds of each element of a list holds of those of a part
pub All-part : {X : Type 0} (P : X → Type 0) (xs ys zs : List X) → All P (xs ++ (ys ++ zs)) → All P ys
All-part P xs ys zs all =
    let rest : All P (ys ++ zs) =
    subst (All P) (drop-append_seam xs (ys ++ zs)) (All-drop P (length xs) (xs ++ (ys ++ zs)) all) in
    subst (All P) (take-append_seam ys zs) (All-take P (length ys) (ys ++ zs) rest)
