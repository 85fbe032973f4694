use Rattle.std.proofs.Common.{◌≡◌, ℕ, ◌<◌, ◌∙◌, ◌++◌, ◌∷◌, [], List, arith, length, get_or, map, sym, ap}
use Rattle.std.proofs.lemmas.List.{get_or-map, length-map, map-id, map_push}
use Rattle.std.proofs.lemmas.Simd.{map-map}
use Rattle.std.proofs.lemmas.Iterator.Adapters.{YieldsList-from_vec}
use Rattle.std.proofs.lemmas.Iterator.Consumers.{YieldsList-end, YieldsList-turn}
use Rattle.like_queue.specs.Line.{LineId, Sender, Taker}
use Rattle.like_queue.specs.Lines.{new_ends}
use Rattle.like_queue.proofs.lines.ends_of.Goals as goal

-- an end more, of a line more
ends-more : {A : Type 0} (end_of : Sender × Taker → A) (ends now : List A) (end : A) (passes : List (Sender × Taker))
    (pass : Sender × Taker)
    → now ≡ ends ++ end ∷ []
    → ends ≡ map end_of passes
    → end ≡ end_of pass
    → now ≡ map end_of (passes ++ pass ∷ [])
ends-more end_of ends now end passes pass pushed before is =
    pushed ∙ ap (λ xs. xs ++ end ∷ []) before ∙ ap (λ e. map end_of passes ++ e ∷ []) is
    ∙ sym (map_push end_of passes pass)

pub loop-send-preserved : goal.loop-send-preserved
loop-send-preserved c =
    let l = c.loop-send in
    record {
      sends = ends-more (λ (p : Sender × Taker). p.0) l.sends.items _ _ l.yielded
          (c.in-Some.send, c.in-Some.take) c.push_reserved.ensures.items l.invariant.sends c.at.ensures;
      takes = ends-more (λ (p : Sender × Taker). p.1) l.takes.items _ _ l.yielded
          (c.in-Some.send, c.in-Some.take) c.push_reserved-in-loop-send.ensures.items l.invariant.takes
          c.at-in-loop-send.ensures;
      room = (
        c.push_reserved.ensures.capacity ∙ l.invariant.room.0,
        c.push_reserved-in-loop-send.ensures.capacity ∙ l.invariant.room.1,
      );
    }

pub returns-clause-sends : goal.returns-clause-sends
returns-clause-sends c =
    let from = c.into_iter-send-iterator.ensures.into_iter_gives in
    let all = YieldsList-from_vec {s = c.into_iter-send-iterator.result} c.args.passes.items from.0
    (from.1 ∙ c.args.passes.ok.0) in
    let t = YieldsList-end all c.loop-send.yielded _ c.loop-send.yielded_by _ c.next.new.self c.in-None.is
    c.next.ensures.steps in
    let whole : c.loop-send.yielded ≡ map new_ends c.args.lines.now =
    sym (map-id c.loop-send.yielded) ∙ t.0 ∙ c.requires in
    c.loop-send.invariant.sends ∙ ap (map (λ (p : Sender × Taker). p.0)) whole
    ∙ map-map (λ (p : Sender × Taker). p.0) new_ends c.args.lines.now

pub returns-clause-takes : goal.returns-clause-takes
returns-clause-takes c =
    let from = c.into_iter-send-iterator.ensures.into_iter_gives in
    let all = YieldsList-from_vec {s = c.into_iter-send-iterator.result} c.args.passes.items from.0
    (from.1 ∙ c.args.passes.ok.0) in
    let t = YieldsList-end all c.loop-send.yielded _ c.loop-send.yielded_by _ c.next.new.self c.in-None.is
    c.next.ensures.steps in
    let whole : c.loop-send.yielded ≡ map new_ends c.args.lines.now =
    sym (map-id c.loop-send.yielded) ∙ t.0 ∙ c.requires in
    c.loop-send.invariant.takes ∙ ap (map (λ (p : Sender × Taker). p.1)) whole
    ∙ map-map (λ (p : Sender × Taker). p.1) new_ends c.args.lines.now

-- a line is left for one end more
line-left : {A : Type 0} (end_of : Sender × Taker → A) (ends : List A) (passes yielded : List (Sender × Taker))
    (lines : List LineId)
    → ends ≡ map end_of yielded
    → passes ≡ map new_ends lines
    → length yielded < length passes
    → length ends < length lines
line-left end_of ends passes yielded lines before are turn =
    omega (arith, turn, ap length before ∙ length-map yielded end_of, ap length are ∙ length-map lines new_ends)

pub bounds-lines-len : goal.bounds-lines-len
bounds-lines-len c =
    let l = c.loop-send in
    let from = c.into_iter-send-iterator.ensures.into_iter_gives in
    let all = YieldsList-from_vec {s = c.into_iter-send-iterator.result} c.args.passes.items from.0
    (from.1 ∙ c.args.passes.ok.0) in
    let turn = YieldsList-turn all l.yielded _ l.yielded_by _ c.next.new.self (c.in-Some.send, c.in-Some.take)
    c.in-Some.is c.next.ensures.steps in
    omega (
      arith,
      c.len.ensures,
      l.sends.ok.0,
      line-left (λ (p : Sender × Taker). p.0) l.sends.items c.args.passes.items l.yielded c.args.lines.now
          l.invariant.sends c.requires turn.0,
    )

pub push_reserved-requires : goal.push_reserved-requires
push_reserved-requires c =
    let l = c.loop-send in
    let from = c.into_iter-send-iterator.ensures.into_iter_gives in
    let all = YieldsList-from_vec {s = c.into_iter-send-iterator.result} c.args.passes.items from.0
    (from.1 ∙ c.args.passes.ok.0) in
    let turn = YieldsList-turn all l.yielded _ l.yielded_by _ c.next.new.self (c.in-Some.send, c.in-Some.take)
    c.in-Some.is c.next.ensures.steps in
    omega (
      arith,
      l.invariant.room.0,
      l.sends.ok.0,
      line-left (λ (p : Sender × Taker). p.0) l.sends.items c.args.passes.items l.yielded c.args.lines.now
          l.invariant.sends c.requires turn.0,
    )

pub push_reserved-requires-in-loop-send : goal.push_reserved-requires-in-loop-send
push_reserved-requires-in-loop-send c =
    let l = c.loop-send in
    let from = c.into_iter-send-iterator.ensures.into_iter_gives in
    let all = YieldsList-from_vec {s = c.into_iter-send-iterator.result} c.args.passes.items from.0
    (from.1 ∙ c.args.passes.ok.0) in
    let turn = YieldsList-turn all l.yielded _ l.yielded_by _ c.next.new.self (c.in-Some.send, c.in-Some.take)
    c.in-Some.is c.next.ensures.steps in
    omega (
      arith,
      l.invariant.room.1,
      l.takes.ok.0,
      line-left (λ (p : Sender × Taker). p.1) l.takes.items c.args.passes.items l.yielded c.args.lines.now
          l.invariant.takes c.requires turn.0,
    )

-- the pass at a place is of the line there
pass-at : (passes : List (Sender × Taker)) (lines : List LineId) (n k : ℕ) (pass : Sender × Taker) (line : LineId)
    → passes ≡ map new_ends lines
    → n < length passes
    → pass ≡ get_or passes n pass
    → k ≡ n
    → line ≡ get_or lines k line
    → pass ≡ new_ends line
pass-at passes lines n k pass line are inside is same at =
    let below : n < length lines = omega (arith, ap length are ∙ length-map lines new_ends) in
    is ∙ (ap (λ (ps : List (Sender × Taker)). get_or ps n pass) are
    ∙ (get_or-map new_ends lines n line pass below
    ∙ ap new_ends (ap (λ (i : ℕ). get_or lines i line) (sym same) ∙ sym at)))

pub loop-send-init : goal.loop-send-init
loop-send-init c = record {
  sends = c.in_ok-sends.ensures.items;
  takes = c.in_ok-takes.ensures.items;
  room = (c.in_ok-sends.ensures.exact, c.in_ok-takes.ensures.exact);
}

pub at-requires : goal.at-requires
at-requires c =
    let l = c.loop-send in
    let from = c.into_iter-send-iterator.ensures.into_iter_gives in
    let all = YieldsList-from_vec {s = c.into_iter-send-iterator.result} c.args.passes.items from.0
    (from.1 ∙ c.args.passes.ok.0) in
    let turn = YieldsList-turn all l.yielded _ l.yielded_by _ c.next.new.self (c.in-Some.send, c.in-Some.take)
    c.in-Some.is c.next.ensures.steps in
    let sent = ap length l.invariant.sends ∙ length-map l.yielded (λ (p : Sender × Taker). p.0) in
    ap (λ (p : Sender × Taker). p.0.line)
    (pass-at c.args.passes.items c.args.lines.now (length l.yielded) c.len.result (c.in-Some.send, c.in-Some.take)
    c.index-lines-len.result c.requires turn.0 turn.1 (omega (arith, c.len.ensures, l.sends.ok.0, sent))
    c.index-lines-len.is)

pub at-requires-in-loop-send : goal.at-requires-in-loop-send
at-requires-in-loop-send c =
    let l = c.loop-send in
    let from = c.into_iter-send-iterator.ensures.into_iter_gives in
    let all = YieldsList-from_vec {s = c.into_iter-send-iterator.result} c.args.passes.items from.0
    (from.1 ∙ c.args.passes.ok.0) in
    let turn = YieldsList-turn all l.yielded _ l.yielded_by _ c.next.new.self (c.in-Some.send, c.in-Some.take)
    c.in-Some.is c.next.ensures.steps in
    let sent = ap length l.invariant.sends ∙ length-map l.yielded (λ (p : Sender × Taker). p.0) in
    ap (λ (p : Sender × Taker). p.1.line)
    (pass-at c.args.passes.items c.args.lines.now (length l.yielded) c.len.result (c.in-Some.send, c.in-Some.take)
    c.index-lines-len.result c.requires turn.0 turn.1 (omega (arith, c.len.ensures, l.sends.ok.0, sent))
    c.index-lines-len.is)
