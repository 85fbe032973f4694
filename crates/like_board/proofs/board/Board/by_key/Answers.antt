use Rattle.std.proofs.Common.{ℕ, List, length, ap, subst, sym, arith}
use Rattle.like_core.proofs.views.Apart.{word_of-past}
use Rattle.like_board.proofs.Opens.{AreFirst, opens_key}
use Rattle.like_board.proofs.board.Board.by_key.Goals as goal

pub first_words-requires : goal.first_words-requires
first_words-requires c =
    let few = c.requires.opening.few_pages in
    let low = c.requires.opening.limits.pages in
    let long = ap length c.requires.counts in
    omega arith

pub of_words-requires : goal.of_words-requires
of_words-requires c =
    let made = c.in_ok-words.ensures in
    opens_key c.args.key c.first-first.result c.in_ok-words.words.items c.as_slice.result.now
    c.first-first.ensures
    c.as_slice.ensures.value
    (subst (λ (counts : List ℕ). AreFirst c.in_ok-words.words.items c.first-first.result counts)
    (sym c.requires.counts) (record {
      width = made.len;
      phase = made.phase_word;
      pages = made.counts;
      mask = made.mask_word;
      slots = made.slots;
    }))
    c.requires.opening

pub invariant_of-board : goal.invariant_of-board
invariant_of-board c =
    let made = c.in_ok-table.ensures in
    let many = word_of-past (length c.args.counts.now) in
    let items = c.as_slice.ensures.value in
    let long = ap length items in
    let words = c.in_ok-words.ensures.len in
    let count = made.0 in
    record { some_word = omega arith; no_slot = made.1 }
