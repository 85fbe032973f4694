-- The phases of deeds and of steps at pages.
use Rattle.std.proofs.Common.{ℕ}
use Rattle.like_core.specs.declared.page_step.PageStep.{PageStep}
use Rattle.like_live.specs.Deeds.{Deed}

abbrev pub phase_of_deed : Deed → ℕ
phase_of_deed d = d.phase

abbrev pub phase_of_step : PageStep → ℕ
phase_of_step s = s.phase
