use Rattle.std.proofs.Common.{ℕ, slice_index, List, [], ap, sym, ◌∙◌}
use Rattle.std.proofs.lemmas.List.{get_or_read}
use Rattle.like_core.proofs.Rows.{all_zero}
use Rattle.like_core.proofs.pure_core.Core.has_no_unmerged.Goals as goal

pub returns : goal.returns
returns c =
    let row = get_or_read c.args.self.now.unmerged.items c.args.worker c.index.result.now c.requires
    c.index.ensures [] in
    let at = λ (page : ℕ). ap (λ (r : List ℕ). slice_index r page) row in (
      λ zero page. sym (at page) ∙ all_zero c.index.result.now (c.is_zero.ensures.0 zero) page,
      λ zero. c.is_zero.ensures.1 (λ page _. at page ∙ zero page),
    )
