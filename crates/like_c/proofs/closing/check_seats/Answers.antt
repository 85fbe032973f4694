use Rattle.std.proofs.Common.{◌<◌, get_or, length, rules, take, sym, subst, ◌∙◌, arith}
use Rattle.std.specs.List.{All}
use Rattle.std.proofs.Math.Seq.{map-set_same}
use Rattle.std.proofs.lemmas.List.{take_all, take_more}
use Rattle.std.proofs.lemmas.List.Elements.{All-push}
use Rattle.std.proofs.lemmas.Result.{IfErr-weaker}
use Rattle.like_c.specs.Closes.{HoldsGone, PreventEnd, PreventsEnd, home_of}
use Rattle.like_c.proofs.Homes.{gone-at, prevents-at}
use Rattle.like_c.proofs.closing.check_seats.Goals as goal

pub loop-i-preserved : goal.loop-i-preserved
loop-i-preserved c =
    let l = c.loop-i in
    let x = c.index-seats-i.result in
    let first = c.args.seats.now in
    let there : l.i < length first = omega (arith, c.loop-i-test.true) in
    record {
      same = map-set_same home_of l.seats l.i c.check_seat.new.seat x c.check_seat.ensures.same ∙ l.invariant.same;
      gone = subst (All HoldsGone) (sym (take_more first l.i x there))
          (All-push HoldsGone (take l.i first) (get_or first l.i x) l.invariant.gone
          (gone-at first l.seats l.i x x (sym l.invariant.same) there c.in_ok-check_seat.ensures.gone));
    }

pub returns-in_err-check_seat-clause-refused : goal.returns-in_err-check_seat-clause-refused
returns-in_err-check_seat-clause-refused c =
    let l = c.loop-i in
    let x = c.index-seats-i.result in
    let first = c.args.seats.now in
    IfErr-weaker c.from_residual.result (PreventsEnd (get_or l.seats l.i x)) (PreventEnd c.args.opened.now first)
    (λ why. prevents-at c.args.opened.now first l.seats l.i x x why (sym l.invariant.same)
    (omega (arith, c.loop-i-test.true)) l.invariant.gone)
    (search rules)

pub returns-in_err-check_seat-clause-same : goal.returns-in_err-check_seat-clause-same
returns-in_err-check_seat-clause-same c =
    let l = c.loop-i in
    map-set_same home_of l.seats l.i c.check_seat.new.seat c.index-seats-i.result c.check_seat.ensures.same
    ∙ l.invariant.same

pub returns-clause-gone : goal.returns-clause-gone
returns-clause-gone c =
    let l = c.loop-i in
    subst (All HoldsGone) (take_all l.i c.args.seats.now (omega (arith, c.loop-i-test.false))) l.invariant.gone
