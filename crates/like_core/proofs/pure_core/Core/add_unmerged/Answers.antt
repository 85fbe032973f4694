use Rattle.std.proofs.Common.{◌≡◌, ◌+◌, ℕ, List, [], slice_index, slice_set, ap, ◌∙◌, arith}
use Rattle.std.proofs.lemmas.List.{get_or_read}
use Rattle.like_core.specs.core.Core.{numbers_of}
use Rattle.like_core.proofs.core.KeptWrites.{unmerged-le-total}
use Rattle.like_core.proofs.core.CoreWrites.{WritesRow, written_numbers, written_sizes, written_bounds}
use Rattle.like_core.proofs.pure_core.Core.add_unmerged.Goals as goal

pub overflow_add-likes : goal.overflow_add-likes
overflow_add-likes c =
    let core = c.args.self.now in
    let row = get_or_read core.unmerged.items c.args.worker c.index_mut-row.result.now c.requires.worker
    c.index_mut-row.ensures.value [] in
    let read : c.get-likes.result ≡ (numbers_of core).unmerged c.args.worker c.args.page =
    c.get-likes.ensures ∙ ap (λ (r : List ℕ). slice_index r c.args.page) row
    in
    let part = unmerged-le-total (numbers_of core) c.args.worker c.args.page c.requires.worker in
    omega arith

pub invariant_of-self-clause-rows_sized : goal.invariant_of-self-clause-rows_sized
invariant_of-self-clause-rows_sized c =
    let core = c.args.self.now in
    let row = get_or_read core.unmerged.items c.args.worker c.index_mut-row.result.now c.requires.worker
    c.index_mut-row.ensures.value [] in
    let read : c.get-likes.result ≡ (numbers_of core).unmerged c.args.worker c.args.page =
    c.get-likes.ensures ∙ ap (λ (r : List ℕ). slice_index r c.args.page) row
    in
    let writes : WritesRow core c.args.worker c.args.page
    ((numbers_of core).unmerged c.args.worker c.args.page + 1) c.index_mut-row.result.now c.set.new.self =
    record {
      has_worker = c.requires.worker;
      has_page = c.requires.page;
      was = c.index_mut-row.ensures.value;
      is = c.set.ensures ∙ ap (λ likes. slice_set c.index_mut-row.result.now c.args.page (likes + 1)) read;
    }
    in
    written_sizes core c.args.worker c.args.page ((numbers_of core).unmerged c.args.worker c.args.page + 1) _ _ writes

pub invariant_of-self-clause-bounded : goal.invariant_of-self-clause-bounded
invariant_of-self-clause-bounded c =
    let core = c.args.self.now in
    let row = get_or_read core.unmerged.items c.args.worker c.index_mut-row.result.now c.requires.worker
    c.index_mut-row.ensures.value [] in
    let read : c.get-likes.result ≡ (numbers_of core).unmerged c.args.worker c.args.page =
    c.get-likes.ensures ∙ ap (λ (r : List ℕ). slice_index r c.args.page) row
    in
    let writes : WritesRow core c.args.worker c.args.page
    ((numbers_of core).unmerged c.args.worker c.args.page + 1) c.index_mut-row.result.now c.set.new.self =
    record {
      has_worker = c.requires.worker;
      has_page = c.requires.page;
      was = c.index_mut-row.ensures.value;
      is = c.set.ensures ∙ ap (λ likes. slice_set c.index_mut-row.result.now c.args.page (likes + 1)) read;
    }
    in
    let room = c.requires.room in
    written_bounds core c.args.worker c.args.page ((numbers_of core).unmerged c.args.worker c.args.page + 1) _ _ writes
    (omega arith)

pub returns : goal.returns
returns c =
    let core = c.args.self.now in
    let row = get_or_read core.unmerged.items c.args.worker c.index_mut-row.result.now c.requires.worker
    c.index_mut-row.ensures.value [] in
    let read : c.get-likes.result ≡ (numbers_of core).unmerged c.args.worker c.args.page =
    c.get-likes.ensures ∙ ap (λ (r : List ℕ). slice_index r c.args.page) row
    in
    let writes : WritesRow core c.args.worker c.args.page
    ((numbers_of core).unmerged c.args.worker c.args.page + 1) c.index_mut-row.result.now c.set.new.self =
    record {
      has_worker = c.requires.worker;
      has_page = c.requires.page;
      was = c.index_mut-row.ensures.value;
      is = c.set.ensures ∙ ap (λ likes. slice_set c.index_mut-row.result.now c.args.page (likes + 1)) read;
    }
    in
    written_numbers core c.args.worker c.args.page ((numbers_of core).unmerged c.args.worker c.args.page + 1) _ _ writes
