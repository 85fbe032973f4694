use Rattle.std.proofs.Common.{◌≡◌, take}
use Rattle.like_requests.specs.Pages.{counts_of}
use Rattle.like_requests.proofs.pages.Pages.counts.Given as goal

abbrev pub invariant-loop-page : goal.invariant-loop-page
invariant-loop-page l = l.counts.items ≡ counts_of (take l.page l.self)
