use Rattle.std.proofs.Common.{◌≡◌, ℕ, length, ap, sym, subst, ◌∙◌}
use Rattle.like_tables.specs.SplitSlice.{IsSplitSlice, SplitSlice, likes_in, no_slice, slice_by}
use Rattle.like_tables.proofs.Sliced.{IsSplitSlice-none, counts-replicate}
use Rattle.like_tables.proofs.split_slice.SplitSlice.clear.Goals as goal

pub returns : goal.returns
returns g c =
    let i = c.self.inside in
    let old : SplitSlice = slice_by i.splits (g.C.Counts.view i.counts) in
    let none = subst (λ (s : SplitSlice). (page : ℕ) → likes_in s page ≡ 0) (sym c.self.view_is) c.requires in
    ◌∙◌ {b = no_slice i.splits.factor (length old.counts)}
    (λ m. record { splits = c.clear.ensures m; counts = counts-replicate old c.self.invariant none m })
    (ap (λ (s : SplitSlice). no_slice s.splits.factor (length s.counts)) c.self.view_is)

pub invariant_of-self : goal.invariant_of-self
invariant_of-self g c =
    subst IsSplitSlice (sym (returns g c))
    (IsSplitSlice-none _ _ (subst (λ (s : SplitSlice). IsSplitSlice s) c.self.view_is c.self.invariant).pages.factor)
