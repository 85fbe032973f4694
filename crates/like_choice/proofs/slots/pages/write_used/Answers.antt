use Rattle.std.proofs.Common.{◌≡◌, ◌+◌, ◌<◌, List, [], ◌∷◌, ◌++◌, ℕ, length, take, drop, get_or, sym, ap, ◌∙◌, arith, refl}
use Rattle.std.proofs.Math.Seq.{take-nil}
use Rattle.std.proofs.lemmas.List.{drop-set-lt, length-set, length-take-le, take_more_set}
use Rattle.like_limits.specs.Limits.{hot_pages}
use Rattle.like_choice.specs.Slots.{pages_below}
use Rattle.like_choice.proofs.Written.{drop-more, more-unused, more-used, none-below, take-full, take-room}
use Rattle.like_choice.proofs.slots.pages.write_used.Goals as goal
use Rattle.like_choice.proofs.slots.pages.write_used.Goals.{then-has_bit+then-many-pages, else-has_bit, else-has_bit-via-then-has_bit+else-many-pages, else-has_bit-via-else-has_bit}

pub loop-slot-init : goal.loop-slot-init
loop-slot-init c =
    let none = ap (take (length c.args.pages.now)) (none-below c.args.slots.now c.args.bits)
    ∙ take-nil (length c.args.pages.now) in
    record { len = refl; few = omega arith; pages = sym none; rest = refl }

pub loop-slot-preserved : goal.loop-slot-preserved
loop-slot-preserved c =
    let l = c.loop-slot in
    let room = length c.args.pages.now in
    let below = pages_below c.args.slots.now c.args.bits l.slot in
    let page = get_or c.args.slots.now l.slot 0 in
    let written : length (take room below) ≡ l.many =
    ap (λ (xs : List ℕ). length xs) (sym l.invariant.pages)
    ∙ length-take-le l.many l.pages (omega (arith, l.invariant.len, l.invariant.few)) in
    elim c.if-has_bit.branch [
      | then-has_bit+then-many-pages w ↦
          let there : l.many < length l.pages = omega (arith, w.if-many-pages.true) in
          let more = more-used c.args.slots.now c.args.bits l.slot (sym c.has_bit.ensures ∙ w.if-has_bit.true) in
          let less : l.many < l.many + 1 = omega arith in
          record {
            len = ap (λ (xs : List ℕ). length xs) w.pages-is ∙ length-set l.pages l.many page ∙ l.invariant.len;
            few = omega (arith, w.many-is, there, l.invariant.len);
            pages = (λ m. take (w.many-is m) (w.pages-is m)) ∙ take_more_set l.pages l.many page there
                ∙ ap (λ (xs : List ℕ). xs ++ page ∷ []) l.invariant.pages
                ∙ sym (ap (take room) more
                ∙ take-room room l.many page below written (omega (arith, there, l.invariant.len)));
            rest = (λ m. drop (w.many-is m) (w.pages-is m))
                ∙ drop-set-lt (l.many + 1) l.pages l.many page less
                ∙ drop-more l.many l.pages c.args.pages.now l.invariant.rest
                ∙ sym (ap (λ n. drop n c.args.pages.now) w.many-is);
          }
      | else-has_bit w ↦ record {
        len = ap (λ (xs : List ℕ). length xs) w.pages-is ∙ l.invariant.len;
        few = omega (arith, w.many-is, l.invariant.few);
        pages = (λ m. take (w.many-is m) (w.pages-is m)) ∙ l.invariant.pages ∙ sym (
            elim w.else-has_bit.branch [
              | else-has_bit-via-then-has_bit+else-many-pages v ↦
                  ap (take room)
                  (more-used c.args.slots.now c.args.bits l.slot (sym c.has_bit.ensures ∙ v.if-has_bit.true))
                  ∙ take-full room l.many page below written
                  (omega (arith, v.if-many-pages.false, l.invariant.len))
              | else-has_bit-via-else-has_bit v ↦
                  ap (take room)
                  (more-unused c.args.slots.now c.args.bits l.slot (sym c.has_bit.ensures ∙ v.if-has_bit.false))
            ]
            );
        rest = (λ m. drop (w.many-is m) (w.pages-is m)) ∙ l.invariant.rest
            ∙ sym (ap (λ n. drop n c.args.pages.now) w.many-is);
      }
    ]

pub returns-clause-pages : goal.returns-clause-pages
returns-clause-pages c =
    let last : c.loop-slot.slot ≡ hot_pages = omega (arith, c.loop-slot-test.false, c.loop-slot.auto.slot-end) in
    c.loop-slot.invariant.pages
    ∙ ap (λ n. take (length c.args.pages.now) (pages_below c.args.slots.now c.args.bits n)) last
