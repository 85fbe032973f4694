-- The law of answers.
use Rattle.std.proofs.Common.{List, [], ◌∷◌, ◌++◌, get_or, refl, sym, subst}
use Rattle.std.specs.List.{All}
use Rattle.std.proofs.lemmas.List.Elements.{All-nil}
use Rattle.like_core.specs.declared.page_step.PageCall.TheVariants.{Glance}
use Rattle.like_live.specs.LiveView.{LiveView}
use Rattle.like_live.specs.Answers.{AnswersAreReads, IsGlanced, IsRead, Shown, found_count}
use Rattle.like_live.specs.History.{HasDone, Told}
use Rattle.like_live.proofs.Histories.{told-does, whole_at_first}
use Rattle.like_live.proofs.Keeping.{AreFound, IsRead-later, Keeps, Keeps-all, Keeps-both, called-later}
use Rattle.like_live.proofs.Telling.{IsWhole}
use Rattle.like_live.proofs.CallsKeep.{Keeps-does}
use Rattle.like_live.proofs.Showing.{IfShown-map, IsJustGlanced, shows}

-- what calls keep, one after the other
record Comes (v after : LiveView) : Type 0 where
  whole : IsWhole after
  keeps : Keeps v after

comes : (told : List Told) (v after : LiveView) → IsWhole v → HasDone v told after → Comes v after
comes [] v after whole is = subst (Comes v) (sym is) (record { whole = whole; keeps = Keeps-all v })
comes (t ∷ told) v after whole d =
    let now = d.0 in
    let first = Keeps-does t v now whole.sized d.1.0 in
    let rest = comes told now after (told-does t v now whole d.1.0).whole d.1.1 in
    record { whole = rest.whole; keeps = Keeps-both v now after first rest.keeps }

-- what was glanced at right after a call was so at the end
still : (now after : LiveView) (s : Shown) → Keeps now after → IsJustGlanced now s → IsGlanced now after s
still now after s keeps g = record {
  split = g.split;
  later = keeps.more ++ [];
  earlier = g.earlier;
  board = g.board;
  sliced = get_or now.station.slice s.page 0;
  glanced = called-later now after keeps.more s.phase s.page g.board Glance [] g.earlier keeps.did keeps.worker g.glanced;
  sliced_is = refl;
  count_is = g.count_is;
  own = g.own;
  kept = (keeps.held s.phase s.page [] _ g.held).1;
}

pub answers_are_reads : AnswersAreReads
answers_are_reads v now after t unused is =
    let first = comes is.earlier v is.before (whole_at_first v unused) is.first in
    let none : AreFound v =
    subst (All (λ f. IsRead v (found_count f))) (sym unused.new.found) (All-nil (λ f. IsRead v (found_count f))) in
    let whole = (told-does t is.before now first.whole is.call).whole in
    let rest = comes is.later now after whole is.rest in
    IfShown-map (IsRead now) (IsJustGlanced now) (IsRead after) (IsGlanced now after)
    (λ s r. IsRead-later now after s rest.keeps r)
    (λ s h. still now after s rest.keeps h)
    now t
    (shows t is.before now (first.keeps.found none) is.call)
