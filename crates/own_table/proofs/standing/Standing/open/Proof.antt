-- Assumes `Logic`.
use Rattle.atomic_table.proofs.Names.{◌≡◌, [], ◌∷◌, refl, a_type, dcons, dnil, named, Val, vptr, inst_fn, SProp, emp, ftrue, ‵, raw, ◌⊛◌, given, ◌$◌, ◌∵◌, !, qed, by, move, keep, drop, split, fsplit, fjoin, learn, use0, no_more, and_then, get, agg, returns, enter, alloc_all, pass_all, free_all, look_at, sets, tables, yes, RattleType, owns, types_at, plain, nothing, param, bounded, alive, Stays, stay_dropped, walk_of, Goes-dropped, fact, fact_i, RefOf, u64, shr_vals, shr_Tells}
use Rattle.atomic_table.proofs.Walks.{proved, leaves}
use denote.Slice.{slice_val, shr_slice_vals, shr_slice_Tells}
use denote.Triple.Walked.{stay_none_slice, Goes-none_slice}
use Rattle.std.proofs.Common.{length}
use Rattle.own_table.specs.Standing.{stands, state}
use Rattle.own_table.specs.contracts.standing.Standing as standing
use Rattle.own_table.specs.contracts.standing.Standing.open.{ended, clauses}
use Rattle.own_table.specs.contracts.standing.Standing.open.Key.{name as #self}
use Rattle.own_table.proofs.Made.{made, StandingData, standing_made}
use Rattle.own_table.proofs.standing.Standing.open.Statement.{statement}
use Rattle.own_table.proofs.standing.Standing.open.Code as code

pub open_spec : {M : Type 1} → statement M
open_spec 𝓤 𝓛 𝓜 𝓡 wired U Q P F _ _ _ _ g d f df _ _ =
    let H = 𝓛.H in let 𝓣 = tables 𝓤 H 𝓜 𝓡 𝓡.env in
    let V : RattleType = param 0 U in let K : RattleType = param 1 Q in let R : RattleType = param 2 P in
    let En = ended U Q P F g d f df in
    let inst = bounded (a_type ∷ a_type ∷ a_type ∷ a_type ∷ []) (U, (Q, (P, (F, tt)))) (dcons d (dcons df dnil)) in
    let fn = inst_fn inst code.function in
    let c = clauses U Q P F g d f df 𝓛 𝓜.mem 𝓡.returns in
    let Row : RattleType = standing.the_row V K R g in
    let told = RefOf (0 ∷ []) tt (plain (λ _. K)) (λ _. tt) in
    let hs : Stays En.signature.params En.kept =
    (stay_dropped told yes, (stay_none_slice (1 ∷ []) tt (plain (λ _. u64)) yes, tt)) in
    proved 𝓛 En hs c 𝓜 𝓡
    (Goes-dropped 𝓛 6 told yes (λ κs x f. refl), (Goes-none_slice 𝓛 6 (1 ∷ []) tt (plain (λ _. u64)) yes, tt))
    (#self inst) fn (code.unfolded 𝓤 H 𝓜 𝓡 wired (U, (Q, (P, (F, tt)))) d df)
    (λ κs. (shr_vals, (shr_slice_vals, tt)))
    (λ κs. (shr_Tells (named 0) κs.0 K, (shr_slice_Tells (named 1) κs.1.0 u64, tt)))
    (λ κs qs bounds a gh are.
    let u : Val = vptr a.0.ref_ptr.0 a.0.ref_ptr.1 in
    let v : Val = slice_val a.1.0.ref_ptr (length a.1.0.now) in
    let φ : Type 0 = g.holds a.0.now (state a.1.0.now (f.views a.0.now)) in
    let r : Row.Denot = record { marker = record {}; key = a.0.now; words = a.1.0.now; views = f.views a.0.now } in
    let Told : Type 0 = (r.key ≡ r.key) × (r.words ≡ r.words) × (r.views ≡ r.views) in
    let y : (walk_of 𝓛 En hs c).Ghost = ((κs, qs, bounds, a, (u ∷ [], (v ∷ [], tt))), gh) in
    let Post : Val → SProp 𝓤 = (walk_of 𝓛 En hs c).post y in
    qed 𝓛 ((raw (alive 𝓛 En.signature κs qs) ⊛ ‵ (owns (types_at En.signature.params κs) a y.0.4))
    ∷ raw (fact 𝓤 _) ∷ raw (fact 𝓤 _) ∷ raw (fact 𝓤 _) ∷ raw (fact 𝓤 _) ∷ given φ (‵ ftrue) ∷ []) ∵
    keep ! (5 ∷ 0 ∷ []) $ learn ! (λ held. drop ! $ split ! $ move ! (1 ∷ []) $ fsplit ! $ drop ! $ nothing ! $ fjoin ! $
    enter ! 𝓣.C 𝓣.Λ fn (u ∷ v ∷ []) Post $ alloc_all ! (λ l. pass_all ! refl (
      (tt, tt),
      ((tt, (tt, (record { fits = are.1.0.0.1.0 }, tt))), tt),
    ) $
    sets ! (agg ! (no_more !)) refl (tt, tt) $ sets ! (agg ! (and_then ! (get ! refl) (no_more !))) refl (tt, (tt, tt)) $
    use0 𝓛 (raw (fact 𝓤 Told)) (fact_i 𝓤 Told (emp 𝓤) (refl, refl, refl)) $
    use0 𝓛 (‵ (stands φ)) (fact_i 𝓤 φ (emp 𝓤) held) $
    use0 𝓛 (‵ ((StandingData V K R g).own_val (tt, tt) (made ∷ []))) (standing_made V K R g 𝓛) $ fjoin ! $
    returns ! (look_at ! 0 refl) $ free_all ! refl $ keep ! (3 ∷ 2 ∷ 0 ∷ 1 ∷ []) $
    by ! (leaves 𝓛 En hs c y made r (tt, (tt, tt)) (tt, (tt, tt))))))
