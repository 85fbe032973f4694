-- The rule's fact is read, and left. Assumes `Logic`.
use Rattle.atomic_table.proofs.Names.{◌≡◌, ℕ, List, [], ◌∷◌, refl, a_type, dcons, dnil, named, Val, vunit, vptr, inst_fn, SProp, emp, Fml, ftrue, fsep, flft, ‵, raw, ◌⊛◌, ◌$◌, ◌∵◌, !, qed, by, move, keep, split, join, fsplit, fsplit3, fjoin, fjoin3, fpick, drop, use0, feq_i, unit_lit, of_opd, returns, enter, alloc_all, pass_all, free_all, look_at, sets, tables, RattleType, owns, types_at, plain, nothing, param, bounded, Stays, walk_of, fact, fact_i, mut_vals, mut_Tells, opens, closes, stay_ref, Goes-ref}
use Rattle.atomic_table.proofs.Walks.{proved, leaves}
use Rattle.own_table.specs.Standing.{stands, state}
use Rattle.own_table.specs.contracts.standing.Standing as standing
use Rattle.own_table.specs.contracts.standing.Standing.tell.{ended, clauses}
use Rattle.own_table.specs.contracts.standing.Standing.tell.Key.{name as #self}
use Rattle.own_table.proofs.standing.Standing.tell.Statement.{statement}
use Rattle.own_table.proofs.standing.Standing.tell.Code as code

pub tell_spec : {M : Type 1} → statement M
tell_spec 𝓤 𝓛 𝓜 𝓡 wired U Q P _ _ _ g d _ =
    let H = 𝓛.H in let 𝓣 = tables 𝓤 H 𝓜 𝓡 𝓡.env in
    let V : RattleType = param 0 U in let K : RattleType = param 1 Q in let R : RattleType = param 2 P in
    let En = ended U Q P g d in
    let inst = bounded (a_type ∷ a_type ∷ a_type ∷ []) (U, (Q, (P, tt))) (dcons d dnil) in
    let fn = inst_fn inst code.function in
    let Row : RattleType = standing.the_row V K R g in
    let here = plain (λ _. Row) in
    let hs : Stays En.signature.params En.kept = (stay_ref (0 ∷ []) tt here, tt) in
    let c = clauses U Q P g d 𝓛 𝓜.mem 𝓡.returns in
    proved 𝓛 En hs c 𝓜 𝓡 (Goes-ref 𝓛 4 0 tt here, tt) (#self inst) fn
    (code.unfolded 𝓤 H 𝓜 𝓡 wired (U, (Q, (P, tt))) d)
    (λ κs. (mut_vals, tt)) (λ κs. (mut_Tells (named 0) κs.0 Row, tt)) (λ κs qs bounds a gh are.
    let b : ℕ = a.0.ref_ptr.0 in
    let o : ℕ = a.0.ref_ptr.1 in
    let s : Row.Denot = a.0.now in
    let φ : Type 0 = g.holds s.key (state s.words s.views) in
    let y : (walk_of 𝓛 En hs c).Ghost = ((κs, qs, bounds, a, (vptr b o ∷ [], tt)), gh) in
    let Post : Val → SProp 𝓤 = (walk_of 𝓛 En hs c).post y in
    let others : Fml =
    fsep (flft κs.1.0 qs.1.0) (fsep (flft κs.1.1.0 qs.1.1.0) (fsep (flft κs.1.1.1.0 qs.1.1.1.0) ftrue)) in
    qed 𝓛 (((‵ (flft κs.0 qs.0) ⊛ ‵ others) ⊛ ‵ (owns (types_at En.signature.params κs) a y.0.4))
    ∷ raw ((c κs a).requires gh) ∷ []) ∵
    split ! $ split ! $ move ! (2 ∷ []) $ fsplit ! $ fsplit3 ! $ keep ! (1 ∷ 2 ∷ 4 ∷ 5 ∷ []) $
    enter ! 𝓣.C 𝓣.Λ fn (vptr b o ∷ []) Post $ alloc_all ! (λ l. pass_all ! refl ((tt, tt), tt) $
    opens ! tt Row b o (λ ts. move ! (1 ∷ []) $ fsplit ! $ move ! (1 ∷ []) $ fpick ! (λ held. drop ! $
    use0 𝓛 (‵ (stands φ)) (fact_i 𝓤 φ (emp 𝓤) held) $ move ! (1 ∷ 0 ∷ []) $ fjoin ! $ move ! (1 ∷ 0 ∷ []) $
    closes ! tt Row s ts b o $ feq_i ! (List Val) (vptr b o ∷ []) (vptr b o ∷ []) refl $ fjoin3 ! $ nothing ! $
    move ! (1 ∷ 0 ∷ []) $ fjoin ! $ move ! (1 ∷ 2 ∷ []) $ join ! $
    sets ! (of_opd ! (unit_lit !)) refl (tt, tt) $
    use0 𝓛 (raw (fact 𝓤 φ)) (fact_i 𝓤 φ (emp 𝓤) held) $
    use0 𝓛 (raw (fact 𝓤 (s ≡ s))) (fact_i 𝓤 (s ≡ s) (emp 𝓤) refl) $ join ! $
    feq_i ! (List Val) (vunit ∷ []) (vunit ∷ []) refl $
    returns ! (look_at ! 0 refl) $ free_all ! refl $ keep ! (2 ∷ 3 ∷ 0 ∷ 1 ∷ []) $
    by ! (leaves 𝓛 En hs c y vunit tt (s, tt) (tt, tt))))))
