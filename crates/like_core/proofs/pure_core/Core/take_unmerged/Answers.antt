use Rattle.std.proofs.Common.{◌≡◌, ◌+◌, ℕ, List, [], slice_index, ap, ◌∙◌, arith}
use Rattle.std.proofs.lemmas.List.{get_or_read}
use Rattle.like_core.specs.core.Numbers.{Numbers, total}
use Rattle.like_core.specs.core.Core.{numbers_of}
use Rattle.like_core.proofs.Updates.{update-same}
use Rattle.like_core.proofs.core.KeptWrites.{total-with_unmerged}
use Rattle.like_core.proofs.core.CoreWrites.{WritesRow, written_numbers, written_sizes, written_bounds}
use Rattle.like_core.proofs.pure_core.Core.take_unmerged.Goals as goal

pub invariant_of-self-clause-rows_sized : goal.invariant_of-self-clause-rows_sized
invariant_of-self-clause-rows_sized c =
    let core = c.args.self.now in
    let row = get_or_read core.unmerged.items c.args.worker c.index_mut-row.result.now c.requires.worker
    c.index_mut-row.ensures.value [] in
    let read : c.get-likes.result ≡ (numbers_of core).unmerged c.args.worker c.args.page =
    c.get-likes.ensures ∙ ap (λ (r : List ℕ). slice_index r c.args.page) row
    in
    let writes : WritesRow core c.args.worker c.args.page (0) c.index_mut-row.result.now c.set.new.self =
    record {
      has_worker = c.requires.worker;
      has_page = c.requires.page;
      was = c.index_mut-row.ensures.value;
      is = c.set.ensures;
    }
    in
    written_sizes core c.args.worker c.args.page (0) _ _ writes

pub invariant_of-self-clause-bounded : goal.invariant_of-self-clause-bounded
invariant_of-self-clause-bounded c =
    let core = c.args.self.now in
    let row = get_or_read core.unmerged.items c.args.worker c.index_mut-row.result.now c.requires.worker
    c.index_mut-row.ensures.value [] in
    let read : c.get-likes.result ≡ (numbers_of core).unmerged c.args.worker c.args.page =
    c.get-likes.ensures ∙ ap (λ (r : List ℕ). slice_index r c.args.page) row
    in
    let writes : WritesRow core c.args.worker c.args.page (0) c.index_mut-row.result.now c.set.new.self =
    record {
      has_worker = c.requires.worker;
      has_page = c.requires.page;
      was = c.index_mut-row.ensures.value;
      is = c.set.ensures;
    }
    in
    let bounds = core.bounded c.args.page c.requires.page in
    written_bounds core c.args.worker c.args.page (0) _ _ writes (omega arith)

pub returns-clause-empty : goal.returns-clause-empty
returns-clause-empty c =
    let core = c.args.self.now in
    let row = get_or_read core.unmerged.items c.args.worker c.index_mut-row.result.now c.requires.worker
    c.index_mut-row.ensures.value [] in
    let read : c.get-likes.result ≡ (numbers_of core).unmerged c.args.worker c.args.page =
    c.get-likes.ensures ∙ ap (λ (r : List ℕ). slice_index r c.args.page) row
    in
    let writes : WritesRow core c.args.worker c.args.page (0) c.index_mut-row.result.now c.set.new.self =
    record {
      has_worker = c.requires.worker;
      has_page = c.requires.page;
      was = c.index_mut-row.ensures.value;
      is = c.set.ensures;
    }
    in
    written_numbers core c.args.worker c.args.page (0) _ _ writes

pub returns-clause-room : goal.returns-clause-room
returns-clause-room c =
    let core = c.args.self.now in
    let row = get_or_read core.unmerged.items c.args.worker c.index_mut-row.result.now c.requires.worker
    c.index_mut-row.ensures.value [] in
    let read : c.get-likes.result ≡ (numbers_of core).unmerged c.args.worker c.args.page =
    c.get-likes.ensures ∙ ap (λ (r : List ℕ). slice_index r c.args.page) row
    in
    let writes : WritesRow core c.args.worker c.args.page (0) c.index_mut-row.result.now c.set.new.self =
    record {
      has_worker = c.requires.worker;
      has_page = c.requires.page;
      was = c.index_mut-row.ensures.value;
      is = c.set.ensures;
    }
    in
    let old = numbers_of core in
    let now = written_numbers core c.args.worker c.args.page 0 _ _ writes in
    let moved = total-with_unmerged old c.args.worker c.args.page 0 c.args.page c.requires.worker in
    let empty = update-same (old.unmerged c.args.worker) c.args.page 0 in
    ap (λ (n : Numbers). total n c.args.page + c.get-likes.result) now ∙ omega arith
