use Rattle.std.proofs.Common.{◌≡◌, ℕ, ◌+◌, List, [], ◌∷◌, ◌++◌, length, map, ap, sym, ◌∙◌}
use Rattle.std.proofs.lemmas.List.{length_push, map-append}
use Rattle.std.proofs.lemmas.List.Elements.{All-push}
use Rattle.like_board.specs.declared.worker_seat.WorkerSeat.{WorkerSeat}
use Rattle.like_board.specs.Seats.{board_numbers, seat_board, seat_view}
use Rattle.like_core.specs.declared.view.WorkerSeatView.{WorkerSeatView}
use Rattle.like_live.specs.LiveView.{LiveView}
use Rattle.like_live.specs.Service.{HasMergedOnceGone}
use Rattle.like_live.proofs.driver.give_back.Goals as goal

pub loop-seat-preserved : goal.loop-seat-preserved
loop-seat-preserved c =
    let l = c.loop-seat in
    let seat = c.in-Some.seat in
    let items = c.push_reserved.ensures.items in
    let post_at : LiveView → WorkerSeatView = λ s. s.station.post in
    let numbers : WorkerSeat → List ℕ = λ w. board_numbers (seat_board w) in
    let boards_at : LiveView → List ℕ = λ s. s.station.board in
    let here : numbers c.back.result ≡ seat.station.board =
    ap board_numbers c.back.ensures.board ∙ c.leave.ensures.board in
    let known : seat_view c.back.result ≡ seat.station.post = c.back.ensures.view ∙ c.leave.ensures.post in
    record {
      back = record {
        boards =
            ap (map numbers) items ∙ map-append numbers l.back.items (c.back.result ∷ [])
            ∙ (λ i. l.invariant.back.boards i ++ here i ∷ []) ∙ sym (map-append boards_at l.yielded (seat ∷ []));
        views =
            ap (map seat_view) items ∙ map-append seat_view l.back.items (c.back.result ∷ [])
            ∙ (λ i. l.invariant.back.views i ++ known i ∷ []) ∙ sym (map-append post_at l.yielded (seat ∷ []));
      };
      len = ap length items ∙ length_push l.back.items c.back.result ∙ ap (λ n. n + 1) l.invariant.len
          ∙ sym (length_push l.yielded seat);
      room = c.push_reserved.ensures.capacity ∙ l.invariant.room;
      merged = All-push HasMergedOnceGone l.yielded seat l.invariant.merged c.leave.ensures.slice;
    }
