-- Assumes `Logic`.
use Rattle.atomic_table.proofs.Names.{◌≡◌, ℕ, List, [], ◌∷◌, refl, a_type, dcons, dnil, named, Val, vptr, inst_fn, SProp, emp, Fml, ftrue, fsep, flft, ‵, raw, ◌⊛◌, given, ◌$◌, ◌∵◌, !, qed, by, move, keep, drop, split, join, fsplit, fsplit3, fjoin, fjoin3, fpick, learn, use0, feq_i, no_more, and_then, get, agg, returns, enter, alloc_all, pass_all, free_all, look_at, sets, tables, yes, RattleType, owns, types_at, plain, nothing, param, bounded, Stays, stay_dropped, walk_of, Goes-dropped, fact, fact_i, RefOf, u64, usize, mut_vals, mut_Tells, shr_vals, shr_Tells, uint_vals, uint_Tells, opens, closes, stay_ref, Goes-ref, w64}
use Rattle.atomic_table.proofs.Walks.{proved, leaves}
use Rattle.std.proofs.Common.{◌++◌, slice_index, slice_set}
use Rattle.std.specs.Prelude.{⊤}
use mathlib.Core.Option.{none}
use Rattle.atomic_table.specs.Table.{Me, step}
use Rattle.own_table.specs.Standing.{CanStep, stands, state}
use Rattle.own_table.specs.contracts.own_seat.OwnSeat as seat
use Rattle.own_table.specs.contracts.standing.Standing as standing
use Rattle.own_table.specs.contracts.standing.Standing.step.{ended, clauses}
use Rattle.own_table.specs.contracts.standing.Standing.step.Key.{name as #self}
use Rattle.own_table.proofs.Made.{made, SeatData, seat_made}
use Rattle.own_table.proofs.Steps.{steps}
use Rattle.own_table.proofs.standing.Standing.step.Statement.{statement}
use Rattle.own_table.proofs.standing.Standing.step.Code as code

pub step_spec : {M : Type 1} → statement M
step_spec 𝓤 𝓛 𝓜 𝓡 wired U Q P L _ _ _ _ g d j dj _ _ =
    let H = 𝓛.H in let 𝓣 = tables 𝓤 H 𝓜 𝓡 𝓡.env in
    let V : RattleType = param 0 U in let K : RattleType = param 1 Q in let R : RattleType = param 2 P in
    let En = ended U Q P L g d j dj in
    let inst = bounded (a_type ∷ a_type ∷ a_type ∷ a_type ∷ []) (U, (Q, (P, (L, tt)))) (dcons d (dcons dj dnil)) in
    let fn = inst_fn inst code.function in
    let c = clauses U Q P L g d j dj 𝓛 𝓜.mem 𝓡.returns in
    let Row : RattleType = standing.the_row V K R g in
    let Sr : RattleType = seat.the_row V in
    let here = plain (λ _. Row) in
    let sitter = RefOf (1 ∷ []) tt (plain (λ _. Sr)) (λ _. tt) in
    let place = plain (λ _. usize) in
    let number = plain (λ _. u64) in
    let hs : Stays En.signature.params En.kept = (
      stay_ref (0 ∷ []) tt here,
      (stay_dropped sitter yes, (stay_dropped place yes, (stay_dropped number yes, (stay_dropped number yes, tt)))),
    ) in
    proved 𝓛 En hs c 𝓜 𝓡 (
      Goes-ref 𝓛 6 0 tt here,
      (
        Goes-dropped 𝓛 6 sitter yes (λ κs x f. refl),
        (
          Goes-dropped 𝓛 6 place yes (λ κs x f. refl),
          (
            Goes-dropped 𝓛 6 number yes (λ κs x f. refl),
            (Goes-dropped 𝓛 6 number yes (λ κs x f. refl), tt),
          ),
        ),
      ),
    )
    (#self inst) fn (code.unfolded 𝓤 H 𝓜 𝓡 wired (U, (Q, (P, (L, tt)))) d dj)
    (λ κs. (mut_vals, (shr_vals, (uint_vals w64, (uint_vals w64, (uint_vals w64, tt))))))
    (λ κs. (
      mut_Tells (named 0) κs.0 Row,
      (shr_Tells (named 1) κs.1.0 Sr, (uint_Tells w64, (uint_Tells w64, (uint_Tells w64, tt)))),
    ))
    (λ κs qs bounds a gh are.
    let b : ℕ = a.0.ref_ptr.0 in
    let o : ℕ = a.0.ref_ptr.1 in
    let s : Row.Denot = a.0.now in
    let t : Sr.Denot = a.1.0.now in
    let word : ℕ = a.1.1.0 in
    let first : ℕ = a.1.1.1.0 in
    let new : ℕ = a.1.1.1.1.0 in
    let u : Val = vptr a.1.0.ref_ptr.0 a.1.0.ref_ptr.1 in
    let φ : Type 0 = g.holds s.key (state s.words s.views) in
    let then : ℕ → Me ⊤ U.Denot → Type 0 = j.then (step 0 word first 0 none) t.me in
    let Can : Type 0 = CanStep (g.holds s.key) s.words s.views t.id t.me word new then in
    let y : (walk_of 𝓛 En hs c).Ghost = (
      (
        κs,
        qs,
        bounds,
        a,
        (vptr b o ∷ [], (u ∷ [], (uint_vals w64 word, (uint_vals w64 first, (uint_vals w64 new, tt))))),
      ),
      gh,
    ) in
    let Post : Val → SProp 𝓤 = (walk_of 𝓛 En hs c).post y in
    let others : Fml =
    fsep (flft κs.1.0 qs.1.0) (fsep (flft κs.1.1.0 qs.1.1.0) (fsep (flft κs.1.1.1.0 qs.1.1.1.0)
    (fsep (flft κs.1.1.1.1.0 qs.1.1.1.1.0) (fsep (flft κs.1.1.1.1.1.0 qs.1.1.1.1.1.0) ftrue)))) in
    qed 𝓛 (((‵ (flft κs.0 qs.0) ⊛ ‵ others) ⊛ ‵ (owns (types_at En.signature.params κs) a y.0.4))
    ∷ raw (fact 𝓤 _) ∷ raw (fact 𝓤 _) ∷ raw (fact 𝓤 _) ∷ raw (fact 𝓤 _) ∷ given Can (‵ ftrue) ∷ []) ∵
    keep ! (5 ∷ 0 ∷ []) $ learn ! (λ can. drop ! $
    split ! $ split ! $ move ! (2 ∷ []) $ fsplit ! $ fsplit3 ! $ keep ! (1 ∷ 2 ∷ 4 ∷ 5 ∷ []) $
    enter ! 𝓣.C 𝓣.Λ fn (vptr b o ∷ u ∷ uint_vals w64 word ++ uint_vals w64 first ++ uint_vals w64 new) Post $
    alloc_all ! (λ l. pass_all ! refl (
      (tt, tt),
      ((tt, tt), ((tt, record { fits = are.1.1.0.1 }), ((tt, record { fits = are.1.1.1.0.1 }), ((tt, record { fits = are.1.1.1.1.0.1 }), tt)))),
    ) $
    opens ! tt Row b o (λ ts. move ! (1 ∷ []) $ fsplit ! $ move ! (1 ∷ []) $ fpick ! (λ held. drop ! $
    let went = steps (g.holds s.key) s.words s.views t.id t.me word new then can held in
    let m : Me ⊤ U.Denot = went.0 in
    let s' : Row.Denot = record {
      marker = s.marker;
      key = s.key;
      words = slice_set s.words word new;
      views = slice_set s.views t.id m.0;
    } in
    let φ' : Type 0 = g.holds s.key (state s'.words s'.views) in
    let r : Sr.Denot = record { marker = record {}; id = t.id; me = m } in
    let Told : Type 0 = (s'.key ≡ s.key) × (s'.words ≡ s'.words) × (s'.views ≡ s'.views) × (r.id ≡ t.id) × φ
    × then (slice_index s.words word) m in
    use0 𝓛 (‵ (stands φ')) (fact_i 𝓤 φ' (emp 𝓤) went.1) $ move ! (1 ∷ 0 ∷ []) $ fjoin ! $ move ! (1 ∷ 0 ∷ []) $
    closes ! tt Row s' ts b o $ feq_i ! (List Val) (vptr b o ∷ []) (vptr b o ∷ []) refl $ fjoin3 ! $
    nothing ! $ nothing ! $ fjoin ! $ nothing ! $ fjoin ! $ nothing ! $ fjoin ! $ nothing ! $ fjoin ! $
    move ! (1 ∷ 0 ∷ []) $ fjoin ! $ move ! (1 ∷ 2 ∷ []) $ join ! $
    sets ! (agg ! (no_more !)) refl (tt, tt) $ sets ! (agg ! (and_then ! (get ! refl) (no_more !))) refl (tt, (tt, tt)) $
    use0 𝓛 (raw (fact 𝓤 Told)) (fact_i 𝓤 Told (emp 𝓤) (refl, refl, refl, refl, held, went.2)) $
    nothing ! $ use0 𝓛 (‵ ((SeatData V).own_val (tt, tt) (made ∷ []))) (seat_made V 𝓛) $ fjoin ! $
    returns ! (look_at ! 0 refl) $ free_all ! refl $ keep ! (2 ∷ 3 ∷ 0 ∷ 1 ∷ []) $
    by ! (leaves 𝓛 En hs c y made r (s', (tt, (tt, (tt, (tt, tt))))) (tt, (tt, (tt, (tt, (tt, tt)))))))))))
