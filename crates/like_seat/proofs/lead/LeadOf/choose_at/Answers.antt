use Rattle.std.proofs.Common.{◌≡◌, ◌≤◌, ◌++◌, ℕ, false, List, Option, Some, length, min, take, drop, sym, ap, ◌∙◌, subst, arith}
use Rattle.std.proofs.Math.Seq.{take-append_seam}
use Rattle.like_core.specs.declared.opening.Opening.{Opening}
use Rattle.like_core.specs.declared.view.CoordSeatView.{CoordSeatView}
use Rattle.like_limits.specs.Limits.{hot_pages}
use Rattle.like_core.specs.OpeningLimits.{has_slots}
use Rattle.like_core.specs.Phase.{IsJoined}
use Rattle.like_core.specs.views.Views.{MayPublish, SawAllIn}
use Rattle.like_board.specs.Led.{IsLedBy}
use Rattle.like_board.specs.Seats.{BoardId}
use Rattle.like_seat.specs.Lead.{ChoosesRisen, LeadView, counted_from, has_risen, risen, those_risen}
use Rattle.like_board.proofs.Led.{led-none}
use Rattle.like_seat.proofs.Leading.{counted-is, may-publish}
use Rattle.like_seat.proofs.lead.LeadOf.choose_at.Goals as goal

-- what is written back where it was read is all that is there
whole : (old new : List ℕ) (len : ℕ) → length new ≡ len → take len (new ++ drop (length new) old) ≡ new
whole old new len same =
    ap (λ n. take n (new ++ drop (length new) old)) (sym same) ∙ take-append_seam new (drop (length new) old)

-- those that are kept are as many as there were
kept-few : (old new first : List ℕ) (len : ℕ) (c d : CoordSeatView)
    → length new ≡ length first
    → length first ≡ len
    → first ≡ old
    → length old ≡ min hot_pages (length c.opening.counts)
    → d ≡ counted_from c 0 new
    → length (take len (new ++ drop (length new) old)) ≡ min hot_pages (length d.opening.counts)
kept-few old new first len c d many all is few view =
    let opened = ap (λ (e : CoordSeatView). e.opening) (view ∙ counted-is c 0 new) in
    ap (λ (xs : List ℕ). length xs) (whole old new len (many ∙ all)) ∙ many ∙ ap (λ (xs : List ℕ). length xs) is ∙ few
    ∙ ap (λ (z : Opening). min hot_pages (length z.counts)) (sym opened)

-- and they are those by which it chose
kept-chosen : (old new first : List ℕ) (len least m : ℕ) (hot : Option ℕ) (board now : BoardId) (c d : CoordSeatView)
    → hot ≡ Some least
    → length new ≡ length first
    → length first ≡ len
    → first ≡ old
    → m ≡ risen least first new
    → now ≡ board
    → d ≡ counted_from c 0 new
    → ChoosesRisen (record { board = board; seat = c; hot = hot; before = old }) m
    (record { board = now; seat = d; hot = hot; before = take len (new ++ drop (length new) old) })
kept-chosen old new first len least m hot board now c d some many all is risen_is same view =
    those_risen least new some (many ∙ ap (λ (xs : List ℕ). length xs) is)
    (risen_is ∙ ap (λ xs. risen least xs new) is)
    (λ i. record { board = same i; seat = view i; hot = hot; before = whole old new len (many ∙ all) i })

pub count_risen-requires-clause-here : goal.count_risen-requires-clause-here
count_risen-requires-clause-here g c =
    subst (λ (v : LeadView). IsLedBy (g.S.LeadsAt.tells c.args.board.now) v.board v.seat) (sym c.self.view_is)
    c.requires.here

pub invariant_of-self : goal.invariant_of-self
invariant_of-self g c =
    let inside = c.self.inside in
    kept-few inside.before.items c.count_risen.new.counts c.deref_mut.result.now inside.before.len
    (g.S.LeadSeat.view inside.seat) (g.S.LeadSeat.view c.count_risen.new.seat) c.count_risen.ensures.len
    c.deref_mut.ensures.len c.deref_mut.ensures.value c.self.invariant c.count_risen.ensures.view

pub returns-in-Some-clause-chooses : goal.returns-in-Some-clause-chooses
returns-in-Some-clause-chooses g c =
    let inside = c.self.inside in
    let counts = c.count_risen.new.counts in
    let after : LeadView =
    record {
      board = g.S.LeadSeat.board c.count_risen.new.seat;
      seat = g.S.LeadSeat.view c.count_risen.new.seat;
      hot = inside.hot;
      before = take inside.before.len (counts ++ drop (length counts) inside.before.items);
    } in
    subst (λ (x : LeadView). ChoosesRisen x c.count_risen.result after) c.self.view_is
    (kept-chosen inside.before.items counts c.deref_mut.result.now inside.before.len c.in-Some.least
    c.count_risen.result inside.hot (g.S.LeadSeat.board inside.seat) (g.S.LeadSeat.board c.count_risen.new.seat)
    (g.S.LeadSeat.view inside.seat) (g.S.LeadSeat.view c.count_risen.new.seat) c.in-Some.is c.count_risen.ensures.len
    c.deref_mut.ensures.len c.deref_mut.ensures.value c.count_risen.ensures.risen c.count_risen.ensures.board
    c.count_risen.ensures.view)

pub returns-in-Some-clause-few : goal.returns-in-Some-clause-few
returns-in-Some-clause-few g c = invariant_of-self g c

pub returns-in-Some-clause-may : goal.returns-in-Some-clause-may
returns-in-Some-clause-may g c =
    let known = g.S.LeadSeat.view c.self.inside.seat in
    let counts = c.count_risen.new.counts in
    let first = c.deref_mut.result.now in
    let seat_is : c.args.self.now.seat ≡ known = sym (ap (λ (v : LeadView). v.seat) c.self.view_is) in
    let saw : SawAllIn known = subst SawAllIn seat_is c.requires.saw in
    let joined : IsJoined known.phase = subst (λ (d : CoordSeatView). IsJoined d.phase) seat_is c.requires.joined in
    let plain : has_slots known.opening.limits ≡ false =
    subst (λ (d : CoordSeatView). has_slots d.opening.limits ≡ false) seat_is c.requires.plain in
    let there : length first ≤ length known.opening.counts =
    omega (arith, c.self.invariant, ap (λ (xs : List ℕ). length xs) c.deref_mut.ensures.value) in
    subst (λ m. MayPublish (g.S.LeadSeat.view c.count_risen.new.seat) m) (sym c.count_risen.ensures.risen)
    (subst (λ (d : CoordSeatView). MayPublish d (risen c.in-Some.least first counts)) (sym c.count_risen.ensures.view)
    (may-publish known 0 counts (has_risen c.in-Some.least first counts) (length first) saw joined there plain))

pub returns-in-None-clause-led : goal.returns-in-None-clause-led
returns-in-None-clause-led g c =
    let tells = g.S.LeadsAt.tells c.args.board.now in
    led-none tells c.args.self.now.board c.args.self.now.seat c.requires.here
