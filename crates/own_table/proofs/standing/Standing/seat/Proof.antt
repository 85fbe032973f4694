-- Assumes `Logic`.
use Rattle.atomic_table.proofs.Names.{◌≡◌, [], ◌∷◌, refl, a_type, dcons, dnil, named, Val, vptr, inst_fn, SProp, emp, ftrue, ‵, raw, ◌⊛◌, given, ◌$◌, ◌∵◌, !, qed, by, keep, drop, split, fjoin, learn, use0, no_more, and_then, get, agg, returns, enter, alloc_all, pass_all, free_all, look_at, sets, tables, yes, RattleType, owns, types_at, plain, nothing, param, bounded, alive, Stays, stay_dropped, walk_of, Goes-dropped, fact, fact_i, RefOf, usize, shr_vals, shr_Tells, uint_vals, uint_Tells, w64}
use Rattle.atomic_table.proofs.Walks.{proved, leaves}
use mathlib.Core.Option.{some}
use lib.ListN.{get_elem?}
use Rattle.own_table.specs.contracts.own_seat.OwnSeat as seat
use Rattle.own_table.specs.contracts.standing.Standing as standing
use Rattle.own_table.specs.contracts.standing.Standing.seat.{ended, clauses}
use Rattle.own_table.specs.contracts.standing.Standing.seat.Key.{name as #self}
use Rattle.own_table.proofs.Made.{made, SeatData, seat_made}
use Rattle.own_table.proofs.standing.Standing.seat.Statement.{statement}
use Rattle.own_table.proofs.standing.Standing.seat.Code as code

pub seat_spec : {M : Type 1} → statement M
seat_spec 𝓤 𝓛 𝓜 𝓡 wired U Q P _ _ _ g d _ =
    let H = 𝓛.H in let 𝓣 = tables 𝓤 H 𝓜 𝓡 𝓡.env in
    let V : RattleType = param 0 U in let K : RattleType = param 1 Q in let R : RattleType = param 2 P in
    let En = ended U Q P g d in
    let inst = bounded (a_type ∷ a_type ∷ a_type ∷ []) (U, (Q, (P, tt))) (dcons d dnil) in
    let fn = inst_fn inst code.function in
    let c = clauses U Q P g d 𝓛 𝓜.mem 𝓡.returns in
    let Row : RattleType = standing.the_row V K R g in
    let Sr : RattleType = seat.the_row V in
    let here = RefOf (0 ∷ []) tt (plain (λ _. Row)) (λ _. tt) in
    let number = plain (λ _. usize) in
    let hs : Stays En.signature.params En.kept = (stay_dropped here yes, (stay_dropped number yes, tt)) in
    proved 𝓛 En hs c 𝓜 𝓡
    (Goes-dropped 𝓛 4 here yes (λ κs x f. refl), (Goes-dropped 𝓛 4 number yes (λ κs x f. refl), tt))
    (#self inst) fn (code.unfolded 𝓤 H 𝓜 𝓡 wired (U, (Q, (P, tt))) d)
    (λ κs. (shr_vals, (uint_vals w64, tt)))
    (λ κs. (shr_Tells (named 0) κs.0 Row, (uint_Tells w64, tt)))
    (λ κs qs bounds a gh are.
    let u : Val = vptr a.0.ref_ptr.0 a.0.ref_ptr.1 in
    let φ : Type 0 = (v : U.Denot) × (get_elem? a.0.now.views a.1.0 ≡ some v) in
    let y : (walk_of 𝓛 En hs c).Ghost = ((κs, qs, bounds, a, (u ∷ [], (uint_vals w64 a.1.0, tt))), gh) in
    let Post : Val → SProp 𝓤 = (walk_of 𝓛 En hs c).post y in
    qed 𝓛 ((raw (alive 𝓛 En.signature κs qs) ⊛ ‵ (owns (types_at En.signature.params κs) a y.0.4))
    ∷ raw (fact 𝓤 _) ∷ raw (fact 𝓤 _) ∷ raw (fact 𝓤 _) ∷ given φ (‵ ftrue) ∷ []) ∵
    keep ! (4 ∷ 0 ∷ []) $ learn ! (λ known. drop ! $ split ! $ keep ! (0 ∷ []) $
    let r : Sr.Denot = record { marker = record {}; id = a.1.0; me = (known.0, []) } in
    let Told : Type 0 = (r.id ≡ r.id) × (get_elem? a.0.now.views a.1.0 ≡ some r.me.0) × (r.me.1 ≡ r.me.1) in
    enter ! 𝓣.C 𝓣.Λ fn (u ∷ uint_vals w64 a.1.0) Post $ alloc_all ! (λ l. pass_all ! refl (
      (tt, tt),
      ((tt, record { fits = are.1.0.1 }), tt),
    ) $
    sets ! (agg ! (no_more !)) refl (tt, tt) $ sets ! (agg ! (and_then ! (get ! refl) (no_more !))) refl (tt, (tt, tt)) $
    use0 𝓛 (raw (fact 𝓤 Told)) (fact_i 𝓤 Told (emp 𝓤) (refl, known.1, refl)) $
    nothing ! $ use0 𝓛 (‵ ((SeatData V).own_val (tt, tt) (made ∷ []))) (seat_made V 𝓛) $ fjoin ! $
    nothing ! $ nothing ! $ fjoin ! $ nothing ! $ fjoin ! $
    returns ! (look_at ! 0 refl) $ free_all ! refl $ keep ! (3 ∷ 0 ∷ 1 ∷ 2 ∷ []) $
    by ! (leaves 𝓛 En hs c y made r (tt, (tt, tt)) (tt, (tt, tt))))))
