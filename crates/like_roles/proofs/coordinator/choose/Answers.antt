use Rattle.std.proofs.Common.{◌≡◌, ◌+◌, ap, sym, ◌∙◌, subst, List}
use Rattle.like_board.proofs.Led.{led-on, leads-on}
use Rattle.like_seat.specs.Lead.{published}
use Rattle.like_promises.specs.declared.chosen.Chosen.{Chosen}
use Rattle.like_roles.specs.coordinator.Choice.{Chooses, choice_of, with_chosen, within_limit}
use Rattle.like_roles.proofs.choice.Choosing.{chooses-board, chooses-limited}
use Rattle.like_roles.proofs.coordinator.choose.Goals as goal

pub returns-clause-case : goal.returns-clause-case
returns-clause-case g c =
    let lead = c.args.lead.now in
    let chosen = c.args.choices.now in
    let m = c.limited-mask.result in
    let noted : c.note.new.self ≡ with_chosen chosen (lead.seat.phase + 1) (within_limit chosen c.choose_at-risen.result) =
    c.note.ensures ∙ (λ i. with_chosen chosen (c.requires.phase i + 1) (c.limited-mask.ensures i)) in
    let published_is = c.publish_at.ensures.published ∙ ap (published c.choose_at-risen.new.self) c.limited-mask.ensures in
    subst (λ (xs : List Chosen). Chooses lead.seat (choice_of lead chosen) c.publish_at.new.self.seat
    (choice_of c.publish_at.new.self xs)) (sym noted)
    (chooses-limited lead c.choose_at-risen.new.self c.publish_at.new.self chosen c.choose_at-risen.result
    c.choose_at-risen.ensures.chooses published_is)

pub publish_at-requires-clause-here : goal.publish_at-requires-clause-here
publish_at-requires-clause-here g c =
    let tells = g.S.LeadsAt.tells in
    let lead = c.args.lead.now in
    let ready = c.choose_at-risen.new.self in
    leads-on (tells c.args.board.now) (tells c.choose_at-risen.new.board) lead.board ready.board lead.seat ready.seat
    c.requires.here (chooses-board _ _ _ c.choose_at-risen.ensures.chooses) c.choose_at-risen.ensures.led

pub returns-clause-led : goal.returns-clause-led
returns-clause-led g c =
    let tells = g.S.LeadsAt.tells in
    led-on (tells c.args.board.now) (tells c.choose_at-risen.new.board) (tells c.publish_at.new.board)
    c.choose_at-risen.new.self.seat c.publish_at.new.self.seat c.choose_at-risen.ensures.led c.publish_at.ensures.led
