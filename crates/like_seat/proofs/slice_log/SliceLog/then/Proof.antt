-- `then` picks the likes of the new log. Assumes `Logic`.
use Rattle.std.proofs.Common.{◌≡◌, [], ◌∷◌, ◌++◌, length, refl}
use Rattle.std.proofs.raw_atomic.Walks.{proved, leaves}
use mir.Syntax.{a_type, dcons, dnil, named, w32}
use mir.MapTy.{inst_fn}
use mir.Val.{Val, vptr}
use base.Logic.{emp}
use contract.Monad.{fact, fact_i}
use contract.Running.{tables}
use types.Kit.{‵, raw, ◌⊛◌, ◌$◌, ◌∵◌, !, qed, by, keep, split, fjoin, use0}
use types.Run.{enter, returns, no_more}
use types.Part.{agg}
use types.ByLocal.{alloc_all, pass_all, free_all, look_at, sets}
use denote.Builtin.{RefOf, u32}
use denote.Exit.{yes}
use denote.Param.{param, bounded}
use denote.Plain.{uint_vals, uint_Tells}
use denote.RattleType.{owns}
use denote.Ref.{shr_vals, shr_Tells}
use denote.Signature.{types_at, plain}
use denote.Steps.{nothing}
use denote.Triple.Entry.{alive}
use denote.Triple.Walked.{Stays, stay_dropped, walk_of, Goes-dropped}
use Rattle.like_seat.specs.SlicedLike.{sliced_like}
use Rattle.like_seat.specs.contracts.slice_log.SliceLog as SliceLog
use Rattle.like_seat.specs.contracts.slice_log.SliceLog.then as F
use Rattle.like_seat.proofs.SliceLogs.{made, made_log}
use Rattle.like_seat.proofs.slice_log.SliceLog.then.Statement.{statement}
use Rattle.like_seat.proofs.slice_log.SliceLog.then.Code as code

pub then_spec : {M : Type 1} → statement M
then_spec 𝓤 𝓛 𝓜 𝓡 wired P laws g d _ =
    let 𝓣 = tables 𝓤 𝓛.H 𝓜 𝓡 𝓡.env in
    let En = F.ended P g d in
    let c = F.clauses P g d 𝓛 𝓜.mem 𝓡.returns in
    let inst = bounded (a_type ∷ []) (P, tt) (dcons d dnil) in
    let fn = inst_fn inst code.function in
    let log = RefOf (0 ∷ []) tt (plain (λ _. SliceLog.the_row)) (λ _. tt) in
    let post = RefOf (1 ∷ []) tt (plain (λ _. param 0 P)) (λ _. tt) in
    let page = plain (λ _. u32) in
    let hs : Stays En.signature.params En.kept =
    (stay_dropped log yes, (stay_dropped post yes, (stay_dropped page yes, tt))) in
    proved 𝓛 En hs c 𝓜 𝓡 (
      Goes-dropped 𝓛 3 log yes (λ κs x f. refl),
      (Goes-dropped 𝓛 3 post yes (λ κs x f. refl), (Goes-dropped 𝓛 3 page yes (λ κs x f. refl), tt)),
    )
    (F.Key.name inst) fn (code.unfolded 𝓤 𝓛.H 𝓜 𝓡 wired (P, tt) d)
    (λ κs. (shr_vals, (shr_vals, (uint_vals w32, tt))))
    (λ κs. (shr_Tells (named 0) κs.0 SliceLog.the_row, (shr_Tells (named 1) κs.1.0 (param 0 P), (uint_Tells w32, tt))))
    (λ κs qs bounds a gh are.
    let u : Val = vptr a.0.ref_ptr.0 a.0.ref_ptr.1 in
    let v : Val = vptr a.1.0.ref_ptr.0 a.1.0.ref_ptr.1 in
    let looks = length (g.view a.1.0.now).looks in
    let r : SliceLog.the_row.Denot = record { likes = a.0.now.likes ++ sliced_like a.1.1.0 looks ∷ [] } in
    let y : (walk_of 𝓛 En hs c).Ghost =
    ((κs, qs, bounds, a, (u ∷ [], (v ∷ [], (uint_vals w32 a.1.1.0, tt)))), gh) in
    qed 𝓛 ((raw (alive 𝓛 En.signature κs qs) ⊛ ‵ (owns (types_at En.signature.params κs) a y.0.4))
    ∷ raw ((c κs a).requires gh) ∷ []) ∵
    split ! $ keep ! (0 ∷ []) $
    enter ! 𝓣.C 𝓣.Λ fn (u ∷ v ∷ uint_vals w32 a.1.1.0) ((walk_of 𝓛 En hs c).post y) $
    alloc_all ! (λ l. pass_all ! refl ((tt, tt), ((tt, tt), ((tt, record { fits = are.1.1.0.1 }), tt))) $
    sets ! (agg ! (no_more !)) refl (tt, tt) $
    use0 𝓛 (raw (fact 𝓤 (r.likes ≡ r.likes))) (fact_i 𝓤 (r.likes ≡ r.likes) (emp 𝓤) refl) $
    made_log ! r $
    returns ! (look_at ! 0 refl) $ free_all ! refl $
    nothing ! $ nothing ! $ fjoin ! $ nothing ! $ fjoin ! $ nothing ! $ fjoin ! $ keep ! (3 ∷ 0 ∷ 1 ∷ 2 ∷ []) $
    by ! (leaves 𝓛 En hs c y made r (tt, (tt, (tt, tt))) (tt, (tt, (tt, tt))))))
