use Rattle.std.proofs.Common.{◌≡◌, ℕ, ◌<◌, length, slice_index}
use Rattle.like_limits.specs.Limits.{hot_pages}
use Rattle.like_core.specs.views.Layout.{mask_place, phase_place, slot_in, word_of}
use Rattle.like_board.proofs.layout.first_words.Given as goal

abbrev pub invariant-loop-page : goal.invariant-loop-page
invariant-loop-page l = record {
  len : length l.words.items ≡ word_of (length l.counts);
  phase_word : slice_index l.words.items phase_place ≡ l.phase_word;
  mask_word : slice_index l.words.items mask_place ≡ 0;
  slots : (slot : ℕ) → slot < hot_pages → slot_in l.words.items slot ≡ 0;
  counts : (k : ℕ) → k < l.page → slice_index l.words.items (word_of k) ≡ slice_index l.counts k;
}
