use Rattle.std.proofs.Common.{◌≡◌, ℕ, List, Some, length, min, get_or, arith, sym, ap, ◌∙◌, subst}
use Rattle.like_core.specs.declared.opening.Opening.{Opening}
use Rattle.like_core.specs.declared.view.CoordSeatView.{CoordSeatView}
use Rattle.like_limits.specs.Limits.{hot_pages}
use Rattle.like_core.specs.Slots.{mask_of_slots}
use Rattle.like_board.specs.Seats.{coord_board, coord_view}
use Rattle.like_seat.specs.Lead.{LeadView, MayPublishChoice, published_choice, slots_with}
use Rattle.like_seat.proofs.Choosing.{mask-with, may-publish_slots}
use Rattle.like_seat.proofs.lead.shared.LeadOf+CoordSeat.publish_choice.Goals as goal

pub put_pages-requires-clause-may : goal.put_pages-requires-clause-may
put_pages-requires-clause-may c =
    subst (λ (v : LeadView). MayPublishChoice v.seat c.args.pages.now c.args.bits) (sym c.self.view_is) c.requires.may

pub put_pages-requires-clause-held : goal.put_pages-requires-clause-held
put_pages-requires-clause-held c =
    c.requires.held ∙ sym (ap (λ (v : LeadView). v.seat.slots) c.self.view_is)

pub publish_slots-requires-clause-may : goal.publish_slots-requires-clause-may
publish_slots-requires-clause-may c =
    let may = subst (λ (v : LeadView). MayPublishChoice v.seat c.args.pages.now c.args.bits) (sym c.self.view_is)
    c.requires.may in
    may-publish_slots (coord_view c.self.inside.seat) c.args.pages.now c.args.bits (coord_view c.put_pages.new.seat)
    may c.put_pages.ensures.puts (omega arith)

pub invariant_of-self : goal.invariant_of-self
invariant_of-self c =
    let same = ap (λ (d : CoordSeatView). d.opening) c.publish_slots.ensures.view
    ∙ ap (λ (d : CoordSeatView). d.opening) c.put_pages.ensures.puts in
    c.self.invariant ∙ sym (ap (λ (z : Opening). min hot_pages (length z.counts)) same)

pub returns-clause-publishes : goal.returns-clause-publishes
returns-clause-publishes c =
    let inside = c.self.inside in
    let known = coord_view inside.seat in
    let pages = c.args.pages.now in
    let put = coord_view c.put_pages.new.seat in
    let last = coord_view c.publish_slots.new.self in
    let puts = c.put_pages.ensures.puts in
    let slots : List ℕ = slots_with known.slots pages c.args.bits in
    let mask : ℕ = mask_of_slots (λ i. get_or pages i 0) c.args.bits hot_pages in
    let same : mask_of_slots (λ i. get_or put.slots i 0) c.args.bits hot_pages ≡ mask =
    ap (λ (d : CoordSeatView). mask_of_slots (λ i. get_or d.slots i 0) c.args.bits hot_pages) puts
    ∙ mask-with known.slots pages c.args.bits in
    let seat : last ≡ record known { slots = slots; published = Some mask } =
    c.publish_slots.ensures.view ∙ (λ m. record (puts m) { published = Some (same m) }) in
    let after : LeadView =
    record {
      board = coord_board c.publish_slots.new.self;
      seat = last;
      hot = inside.hot;
      before = inside.before.items;
    } in
    subst (λ (x : LeadView). after ≡ published_choice x pages c.args.bits) c.self.view_is (λ m. record {
      board = (c.publish_slots.ensures.board ∙ c.put_pages.ensures.board) m;
      seat = seat m;
      hot = inside.hot;
      before = inside.before.items;
    })

pub returns-clause-held : goal.returns-clause-held
returns-clause-held c =
    c.put_pages.ensures.held ∙ sym (ap (λ (d : CoordSeatView). d.slots) c.publish_slots.ensures.view)
