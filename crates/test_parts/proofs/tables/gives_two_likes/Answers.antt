use Rattle.std.proofs.Common.{◌≡◌, ℕ, None, Some, sym, ap, ◌∙◌}
use Rattle.std.proofs.lemmas.List.{get_or-replicate}
use Rattle.like_limits.specs.Buckets.{bucket, buckets}
use Rattle.like_tables.specs.SplitPages.{beside}
use Rattle.like_tables.specs.SplitSlice.{SplitSlice, no_slice}
use Rattle.like_tables.proofs.Tagged.{bucket-lt}
use Rattle.test_parts.proofs.tables.gives_two_likes.Goals as goal

-- where no page is split, no bucket holds one
none-held : (s : SplitSlice) (factor page : ℕ) → s ≡ no_slice factor buckets → (other : ℕ) → beside s.splits page ≡ Some other
    → other ≡ page
none-held s factor page is other holds =
    absurd (cc (sym holds ∙ ap (λ (t : SplitSlice). beside t.splits page) is
    ∙ get_or-replicate buckets (bucket factor page) None None (bucket-lt factor page)))

pub put-requires-clause-apart : goal.put-requires-clause-apart
put-requires-clause-apart g c = none-held c.args.slice.now _ 64 c.requires
