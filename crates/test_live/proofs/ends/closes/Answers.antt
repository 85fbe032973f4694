use Rattle.std.proofs.Common.{◌≡◌, length, sym, ◌∙◌, subst}
use Rattle.std.proofs.lemmas.Bool.{eqb-true}
use Rattle.like_live.specs.Service.{AreItsSeats}
use Rattle.test_live.proofs.Whole.{back-of, turned-after, two-of}
use Rattle.test_live.proofs.ends.closes.Goals as goal

pub closed-requires : goal.closed-requires
closed-requires g c =
    let none = c.pop-2.new.self in
    let empty : length none.items ≡ 0 =
    sym none.ok.0 ∙ eqb-true none.len 0 (sym c.is_empty.ensures ∙ c.if-not-is_empty.false) in
    let all = two-of c.args.service.seats.items c.pop.new.self.items none.items c.pop.result c.pop-2.result
    c.expect-first.result c.expect-second.result c.pop.ensures.items c.pop-2.ensures.items c.expect-second.ensures
    c.expect-first.ensures empty in
    let back = back-of none.items c.push_reserved.new.self.items c.push_reserved-2.new.self.items c.hosts.new.first
    c.hosts.new.second empty c.push_reserved.ensures.items c.push_reserved-2.ensures.items in
    subst (AreItsSeats c.hosts.new.driver) (sym back)
    (turned-after c.args.service.driver c.hosts.new.driver c.expect-first.result c.expect-second.result
    c.hosts.new.first c.hosts.new.second
    (subst (AreItsSeats c.args.service.driver) all c.requires) c.hosts.ensures.driver c.hosts.ensures.first
    c.hosts.ensures.second)
