use Rattle.std.proofs.Common.{◌≡◌, ◌+◌, ◌<◌, ◌≤◌, vec_capacity, List, [], ◌∷◌, ◌++◌, get_or, length, map, take, None, Some, sym, ap, ◌∙◌, subst, arith}
use Rattle.std.specs.List.{All}
use Rattle.std.specs.Option.{option_map}
use Rattle.std.proofs.lemmas.List.{drop-set-lt, drop_more, length_push, map-append, map_more, take_all, take_more_set}
use Rattle.std.proofs.lemmas.List.Elements.{All-push}
use Rattle.std.proofs.lemmas.Grind.{drop_more_same}
use Rattle.std.proofs.lemmas.Option.{same_Some}
use Rattle.like_core.specs.declared.worker_state.WorkerState.TheVariants.{Gone}
use Rattle.like_live.specs.LiveView.{LiveView}
use Rattle.like_live.specs.Service.{AreGone}
use Rattle.like_c.specs.Closes.{home_of, live_in}
use Rattle.like_c.specs.declared.opened.BoxedSeat.{BoxedSeat}
use Rattle.like_c.specs.declared.seat_handle.SeatHandle.{SeatHandle}
use Rattle.like_c.proofs.closing.take_all.Goals as goal
use Rattle.like_c.proofs.closing.take_all.Goals.{in-Some, in_default}

pub loop-i-preserved : goal.loop-i-preserved
loop-i-preserved c =
    let l = c.loop-i in
    let x = c.index-seats-i.result in
    let first = c.args.seats.now in
    let here : l.i < length l.seats = omega (arith, c.loop-i-test.true, l.auto.seats) in
    let there : l.i < length first = omega (arith, c.loop-i-test.true) in
    let item : get_or l.seats l.i x ≡ get_or first l.i x =
    ap (λ (hs : List SeatHandle). get_or hs 0 x)
    (sym (drop_more l.seats l.i x here) ∙ l.invariant.rest ∙ drop_more first l.i x there) in
    let gone = c.requires.gone l.i x there in
    elim c.match-take.branch [
      | in-Some w ↦
          let b = w.in-Some.boxed.value in
          let home : (get_or first l.i x).home ≡ Some b = ap home_of (sym item) ∙ w.in-Some.ensures.taken in
          let items = ap (λ v. v.items) w.back-is ∙ w.push_reserved.ensures.items
          ∙ ap (λ (v : LiveView). l.back.items ++ v ∷ []) (w.live_of.ensures ∙ ap (λ s. s.live) w.into_inner.ensures) in
          record {
            taken = map_more live_in first l.i x there
                ∙ (λ k. l.invariant.taken k ++ option_map (λ (s : BoxedSeat). s.live) (home k) ∷ [])
                ∙ sym (map-append Some l.back.items (b.live ∷ []))
                ∙ ap (map Some) (sym items);
            gone = subst AreGone (sym items)
                (All-push (λ (s : LiveView). s.station.post.state ≡ Gone) l.back.items b.live l.invariant.gone
                (subst (λ (s : BoxedSeat). s.live.station.post.state ≡ Gone)
                (same_Some gone.boxed b (sym gone.held ∙ home)) gone.gone));
            left = subst (All (λ (h : SeatHandle). h.home ≡ None)) (sym (take_more_set l.seats l.i c.take.new.self here))
                (All-push (λ (h : SeatHandle). h.home ≡ None) (take l.i l.seats) c.take.new.self l.invariant.left
                c.take.ensures.left);
            rest = drop-set-lt (l.i + 1) l.seats l.i c.take.new.self (omega arith)
                ∙ drop_more_same l.seats first l.i l.invariant.rest;
            many = ap length items ∙ length_push l.back.items b.live ∙ ap (λ n. n + 1) l.invariant.many;
            room = subst (λ n. length first ≤ n) (sym (ap vec_capacity w.back-is ∙ w.push_reserved.ensures.capacity))
                l.invariant.room;
          }
      | in_default w ↦ absurd (cc (sym gone.held ∙ ap home_of (sym item) ∙ w.in_default.ensures.taken))
    ]

pub returns-clause-left : goal.returns-clause-left
returns-clause-left c =
    let l = c.loop-i in
    subst (All (λ (h : SeatHandle). h.home ≡ None))
    (take_all l.i l.seats (omega (arith, c.loop-i-test.false, l.auto.seats))) l.invariant.left
