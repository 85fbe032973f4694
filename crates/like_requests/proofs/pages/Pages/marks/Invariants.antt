use Rattle.std.proofs.Common.{◌≡◌, take}
use Rattle.like_requests.specs.Pages.{marks_of}
use Rattle.like_requests.proofs.pages.Pages.marks.Given as goal

abbrev pub invariant-loop-page : goal.invariant-loop-page
invariant-loop-page l = l.marks.items ≡ marks_of (take l.page l.self)
