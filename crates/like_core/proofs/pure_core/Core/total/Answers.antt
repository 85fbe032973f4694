use Rattle.std.proofs.Common.{◌≡◌, ℕ, ◌+◌, slice_index, slice_index_or, List, [], ap, ◌∙◌, arith}
use Rattle.std.proofs.lemmas.List.{get_or_read}
use Rattle.like_core.specs.core.Core.{numbers_of}
use Rattle.like_core.proofs.Sums.{sum_below-suc, sum_below-mono}
use Rattle.like_core.proofs.pure_core.Core.total.Goals as goal

pub overflow_add-sum : goal.overflow_add-sum
overflow_add-sum c =
    let core = c.args.self.now in
    let n = numbers_of core in
    let page = c.args.page in
    let i = c.loop-row.row-index in
    let f : ℕ → ℕ = λ j. n.unmerged j page in
    let items = c.deref-row-items.ensures.value in
    let is = c.row-item.is ∙ ap (λ (rows : List (List ℕ)). slice_index_or rows i c.row-item.result) items in
    let row = get_or_read core.unmerged.items i c.row-item.result (omega arith) is [] in
    let read : c.get-sum-in-loop-row.result ≡ f i =
    c.get-sum-in-loop-row.ensures ∙ ap (λ (r : List ℕ). slice_index r page) row in
    let more = sum_below-suc f i in
    let fewer = sum_below-mono f (i + 1) n.workers (omega arith) in
    let room = core.bounded page c.requires in
    omega arith
