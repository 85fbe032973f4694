use Rattle.std.proofs.Common.{◌≡◌, take}
use Rattle.like_limits.specs.Limits.{hot_pages}
use Rattle.like_choice.proofs.proposal.Proposal.copy_from.Given as goal

abbrev pub invariant-loop-page : goal.invariant-loop-page
invariant-loop-page l = l.self ≡ take hot_pages (take l.page-index l.pages)
