use Rattle.std.proofs.Common.{◌≡◌, List, [], ◌∷◌, ◌++◌, length, map, rules, ap, sym, ◌∙◌, arith, append_assoc}
use Rattle.std.proofs.lemmas.List.{length_push, map-append, reverse-append}
use Rattle.std.specs.Global.{Global}
use Rattle.std.specs.Prelude.{reverse}
use Rattle.std_alloc.specs.declared.boxed.Box.{Box}
use Rattle.like_live.specs.LiveView.{LiveView}
use Rattle.like_c.specs.Opened.{seat_in}
use Rattle.like_c.specs.declared.opened.BoxedSeat.{BoxedSeat}
use Rattle.like_c.proofs.opened.boxed.Goals as goal

-- the last seat that is left is the next in a box
next-boxed : (left rest all : List LiveView) (boxed : List (Box BoxedSeat Global)) (s : LiveView) (b : Box BoxedSeat Global)
    → left ≡ rest ++ s ∷ [] → seat_in b ≡ s
    → left ++ reverse (map seat_in boxed) ≡ all
    → rest ++ reverse (map seat_in (boxed ++ b ∷ [])) ≡ all
next-boxed left rest all boxed s b popped same were =
    let done = reverse (map seat_in boxed) in
    ap (λ (xs : List LiveView). rest ++ reverse xs) (map-append seat_in boxed (b ∷ []))
    ∙ ap (λ (xs : List LiveView). rest ++ xs) (reverse-append (map seat_in boxed) (seat_in b ∷ []))
    ∙ sym (append_assoc rest (seat_in b ∷ []) done)
    ∙ ap (λ (x : LiveView). (rest ++ x ∷ []) ++ done) same
    ∙ ap (λ (xs : List LiveView). xs ++ done) (sym popped)
    ∙ were

pub loop-live-preserved : goal.loop-live-preserved
loop-live-preserved c =
    let l = c.loop-live in
    let b = c.in_ok-in_box.field-0 in
    let more = c.push_reserved.ensures.items in
    record {
      all = ap (λ (xs : List (Box BoxedSeat Global)). c.pop.new.self.items ++ reverse (map seat_in xs)) more
          ∙ next-boxed l.seats.items c.pop.new.self.items c.args.seats.items l.boxed.items c.in-Some.live b
          c.in-Some.ensures.items (ap (λ (x : BoxedSeat). x.live) c.in_ok-in_box.ensures.boxed) l.invariant.all;
      len = omega (
        arith,
        ap (λ (xs : List (Box BoxedSeat Global)). length xs) more,
        length_push l.boxed.items b,
        ap (λ (xs : List LiveView). length xs) c.in-Some.ensures.items,
        length_push c.pop.new.self.items c.in-Some.live,
        l.invariant.len,
      );
      room = search rules;
    }
