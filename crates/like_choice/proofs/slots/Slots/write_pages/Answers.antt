use Rattle.std.proofs.Common.{length, take, ap, ◌∙◌}
use Rattle.like_choice.specs.Slots.{SlotsView, pages_in_use}
use Rattle.like_choice.proofs.slots.Slots.write_pages.Goals as goal

pub returns-clause-pages : goal.returns-clause-pages
returns-clause-pages c =
    c.write_used.ensures.pages
    ∙ ap (λ (v : SlotsView). take (length c.args.pages.now) (pages_in_use v)) c.self.view_is
