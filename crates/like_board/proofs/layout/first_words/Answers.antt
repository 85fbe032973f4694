use Rattle.std.proofs.Common.{◌≡◌, ◌≢◌, ℕ, ◌<◌, List, rules, length, get_or, set, replicate, ◌∙◌, ap, arith}
use Rattle.std.proofs.Math.ListN.{length-set}
use Rattle.std.proofs.lemmas.List.{get_or-replicate, get_or-set_same, get_or-set_other}
use Rattle.like_core.specs.views.Layout.{mask_place, slot_place, word_of}
use Rattle.like_core.proofs.views.Apart.{word_of-past, word_of-order}
use Rattle.like_board.proofs.Written.{counts_written}
use Rattle.like_board.proofs.layout.first_words.Goals as goal

pub index_mut-requires : goal.index_mut-requires
index_mut-requires c =
    let past = word_of-past (length c.args.counts.now) in
    let sized = c.in_ok-words.ensures.len in
    let word = c.word_of.ensures in
    omega arith

-- the words before any is written are 0, and writing the first leaves the others
zeros_but_first : (words : List ℕ) (size word place : ℕ)
    → words ≡ replicate size 0
    → place < size
    → place ≢ 0
    → get_or (set words 0 word) place 0 ≡ 0
zeros_but_first words size word place zeros within other =
    get_or-set_other words 0 place word 0 other ∙
    (ap (λ (xs : List ℕ). get_or xs place 0) zeros ∙ get_or-replicate size place 0 0 within)

pub loop-page-init : goal.loop-page-init
loop-page-init c =
    let past = word_of-past (length c.args.counts.now) in
    let sized = c.in_ok-words.ensures.len in
    let word = c.word_of.ensures in
    let words = c.in_ok-words.words in
    let zeros : words.items ≡ replicate c.word_of.result 0 =
    c.in_ok-words.ensures.items_if_clones_equal (λ y same. search rules) in
    record {
      len = length-set words.items 0 c.args.phase_word ∙ omega arith;
      phase_word = get_or-set_same words.items 0 c.args.phase_word 0 (omega arith);
      mask_word = zeros_but_first words.items c.word_of.result c.args.phase_word mask_place zeros (omega arith)
          (λ eq. absurd (omega (arith, eq)));
      slots = λ slot below.
          zeros_but_first words.items c.word_of.result c.args.phase_word (slot_place slot) zeros (omega arith)
          (λ eq. absurd (omega (arith, eq)));
      counts = λ k none. absurd (omega arith);
    }

pub index_mut-requires-in-loop-page : goal.index_mut-requires-in-loop-page
index_mut-requires-in-loop-page c =
    let there = word_of-order c.loop-page.page (length c.args.counts.now) c.loop-page-test.true in
    let sized = c.loop-page.invariant.len in
    let word = c.word_of-in-loop-page.ensures in
    omega arith

pub loop-page-preserved : goal.loop-page-preserved
loop-page-preserved c =
    let past = word_of-past c.loop-page.page in
    let counts = c.args.counts.now in
    let page = c.loop-page.page in
    let words = c.loop-page.words.items in
    rw c.word_of-in-loop-page.ensures record {
      len = length-set words (word_of page) (get_or counts page 0) ∙ c.loop-page.invariant.len;
      phase_word = get_or-set_other words (word_of page) 0 (get_or counts page 0) 0 (λ eq. absurd (omega arith))
          ∙ c.loop-page.invariant.phase_word;
      mask_word = get_or-set_other words (word_of page) mask_place (get_or counts page 0) 0 (λ eq. absurd (omega arith))
          ∙ c.loop-page.invariant.mask_word;
      slots = λ slot below.
          get_or-set_other words (word_of page) (slot_place slot) (get_or counts page 0) 0 (λ eq. absurd (omega arith))
          ∙ c.loop-page.invariant.slots slot below;
      counts = counts_written words counts page c.loop-page.invariant.len c.loop-page-test.true
          c.loop-page.invariant.counts;
    }
