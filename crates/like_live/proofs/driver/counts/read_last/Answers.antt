use Rattle.std.proofs.Common.{Bool, true, refl, subst}
use Rattle.like_live.specs.Driver.{LooksForEnd, counted, not_ended}
use Rattle.like_live.proofs.Gone.{end-seen, last-totals}
use Rattle.like_live.proofs.driver.counts.read_last.Goals as goal

pub returns-then-not-is_at_end : goal.returns-then-not-is_at_end
returns-then-not-is_at_end c =
    not_ended (subst (λ (b : Bool). LooksForEnd c.args.lead.now b c.is_at_end.new.lead) c.if-not-is_at_end.true
    c.is_at_end.ensures) refl refl

pub read_counts-requires-clause-saw : goal.read_counts-requires-clause-saw
read_counts-requires-clause-saw c =
    (end-seen _ _ (subst (λ (b : Bool). LooksForEnd c.args.lead.now b c.is_at_end.new.lead) c.if-not-is_at_end.false
    c.is_at_end.ensures)).saw

pub read_counts-requires-clause-joined : goal.read_counts-requires-clause-joined
read_counts-requires-clause-joined c =
    (end-seen _ _ (subst (λ (b : Bool). LooksForEnd c.args.lead.now b c.is_at_end.new.lead) c.if-not-is_at_end.false
    c.is_at_end.ensures)).joined

pub returns : goal.returns
returns c =
    let now = c.is_at_end.new.lead in
    let looks : LooksForEnd c.args.lead.now true now =
    subst (λ (b : Bool). LooksForEnd c.args.lead.now b now) c.if-not-is_at_end.false c.is_at_end.ensures in
    let saw = end-seen _ _ looks in
    let reads = c.read_counts.ensures in
    counted now looks reads.len reads.reads
    (last-totals now c.read_counts.new.self c.args.from c.read_counts.new.counts saw reads.reads (reads.known saw.known))
    refl
