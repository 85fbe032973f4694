use Rattle.std.proofs.Common.{◌≡◌, ◌+◌, ◌-◌, ◌<◌, ◌++◌, ap, get_or, length, take, refl, rules, arith}
use Rattle.std.specs.Prelude.{decimal}
use Rattle.like_replies.proofs.rows.Heads.{ends_in, raised, refill_set, renewed}
use Rattle.like_replies.proofs.report.head.Head.next.Goals as goal

pub overflow_sub-last : goal.overflow_sub-last
overflow_sub-last c =
    let inside = c.self.inside in
    let text = inside.text.items in
    let ends = ends_in text inside.place inside.number c.args.self.now c.self.view_is c.requires c.self.invariant.0 in
    omega (arith, ends.within, c.len-last.ensures.value)

pub bounds-deref-last : goal.bounds-deref-last
bounds-deref-last c =
    let inside = c.self.inside in
    let text = inside.text.items in
    let ends = ends_in text inside.place inside.number c.args.self.now c.self.view_is c.requires c.self.invariant.0 in
    omega (arith, ends.within, c.len-last.ensures.value, ap length c.deref.ensures.0)

pub bounds-deref_mut-last : goal.bounds-deref_mut-last
bounds-deref_mut-last c =
    let inside = c.self.inside in
    let text = inside.text.items in
    let ends = ends_in text inside.place inside.number c.args.self.now c.self.view_is c.requires c.self.invariant.0 in
    omega (arith, ends.within, c.len-last.ensures.value, ap length c.deref_mut.ensures.value)

pub bounds-deref_mut-last-then-deref-last-lt57 : goal.bounds-deref_mut-last-then-deref-last-lt57
bounds-deref_mut-last-then-deref-last-lt57 c =
    let inside = c.self.inside in
    let text = inside.text.items in
    let ends = ends_in text inside.place inside.number c.args.self.now c.self.view_is c.requires c.self.invariant.0 in
    omega (arith, ends.within, c.len-last.ensures.value, ap length c.deref_mut.ensures.value)

pub invariant_of-self : goal.invariant_of-self
invariant_of-self c =
    let inside = c.self.inside in
    let text = inside.text.items in
    let last = c.len-last.result - 1 in
    let ends = ends_in text inside.place inside.number c.args.self.now c.self.view_is c.requires c.self.invariant.0 in
    let size : last + 1 ≡ length text = omega (arith, ends.within, c.len-last.ensures.value) in
    let low : get_or text last 0 < 57 = rw (← c.deref.ensures.0) c.if-deref-last-lt57.true in
    let more = raised text inside.place inside.number last (get_or text last 0) ends size refl low in
    (rw (c.deref_mut.ensures.value, refill_set text last (get_or text last 0 + 1)) more.1, c.self.invariant.1)

pub returns-then-deref-last-lt57 : goal.returns-then-deref-last-lt57
returns-then-deref-last-lt57 c =
    let inside = c.self.inside in
    let text = inside.text.items in
    let last = c.len-last.result - 1 in
    let ends = ends_in text inside.place inside.number c.args.self.now c.self.view_is c.requires c.self.invariant.0 in
    let size : last + 1 ≡ length text = omega (arith, ends.within, c.len-last.ensures.value) in
    let low : get_or text last 0 < 57 = rw (← c.deref.ensures.0) c.if-deref-last-lt57.true in
    let more = raised text inside.place inside.number last (get_or text last 0) ends size refl low in
    rw (← c.self.view_is, c.deref_mut.ensures.value, refill_set text last (get_or text last 0 + 1), more.0) refl

pub invariant_of-self-2 : goal.invariant_of-self-2
invariant_of-self-2 c =
    let inside = c.self.inside in
    let text = inside.text.items in
    let ends = ends_in text inside.place inside.number c.args.self.now c.self.view_is c.requires c.self.invariant.0 in
    let is : c.add.new.text.items ≡ take inside.place text ++ decimal (inside.number + 1) = search rules in
    let more = renewed text c.add.new.text.items inside.place inside.number ends is in
    (more.1, c.self.invariant.1)

pub returns : goal.returns
returns c =
    let inside = c.self.inside in
    let text = inside.text.items in
    let ends = ends_in text inside.place inside.number c.args.self.now c.self.view_is c.requires c.self.invariant.0 in
    let is : c.add.new.text.items ≡ take inside.place text ++ decimal (inside.number + 1) = search rules in
    let more = renewed text c.add.new.text.items inside.place inside.number ends is in
    rw (← c.self.view_is, more.0) refl
