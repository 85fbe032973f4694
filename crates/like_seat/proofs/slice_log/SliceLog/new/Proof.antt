-- `new` picks no likes. Assumes `Logic`.
use Rattle.std.proofs.Common.{[], ◌∷◌, ◌≡◌, refl}
use Rattle.std.proofs.raw_atomic.Walks.{proved, leaves}
use base.Logic.{emp}
use contract.Monad.{fact, fact_i}
use contract.Running.{tables}
use types.Kit.{‵, raw, ◌⊛◌, ◌$◌, ◌∵◌, !, qed, by, keep, split, use0}
use types.Run.{enter, returns, no_more}
use types.Part.{agg}
use types.ByLocal.{alloc_all, pass_all, free_all, look_at, sets}
use denote.RattleType.{owns}
use denote.Signature.{types_at}
use denote.Steps.{nothing}
use denote.Triple.Entry.{alive}
use denote.Triple.Walked.{walk_of}
use Rattle.like_seat.specs.contracts.slice_log.SliceLog as SliceLog
use Rattle.like_seat.specs.contracts.slice_log.SliceLog.new as F
use Rattle.like_seat.proofs.SliceLogs.{made, made_log}
use Rattle.like_seat.proofs.slice_log.SliceLog.new.Statement.{statement}
use Rattle.like_seat.proofs.slice_log.SliceLog.new.Code as code

pub new_spec : {M : Type 1} → statement M
new_spec 𝓤 𝓛 𝓜 𝓡 wired =
    let 𝓣 = tables 𝓤 𝓛.H 𝓜 𝓡 𝓡.env in
    let En = F.ended in
    let c = F.clauses 𝓛 𝓜.mem 𝓡.returns in
    proved 𝓛 En tt c 𝓜 𝓡 tt F.Key.name code.function (code.unfolded 𝓤 𝓛.H 𝓜 𝓡 wired) (λ κs. tt) (λ κs. tt)
    (λ κs qs bounds a gh are.
    let r : SliceLog.the_row.Denot = record { likes = [] } in
    let y : (walk_of 𝓛 En tt c).Ghost = ((κs, qs, bounds, a, tt), gh) in
    qed 𝓛 ((raw (alive 𝓛 En.signature κs qs) ⊛ ‵ (owns (types_at En.signature.params κs) a y.0.4))
    ∷ raw ((c κs a).requires gh) ∷ []) ∵
    split ! $ keep ! (0 ∷ []) $
    enter ! 𝓣.C 𝓣.Λ code.function [] ((walk_of 𝓛 En tt c).post y) $
    alloc_all ! (λ l. pass_all ! refl tt $
    sets ! (agg ! (no_more !)) refl (tt, tt) $
    use0 𝓛 (raw (fact 𝓤 (r.likes ≡ []))) (fact_i 𝓤 (r.likes ≡ []) (emp 𝓤) refl) $
    made_log ! r $ nothing ! $
    returns ! (look_at ! 0 refl) $ free_all ! refl $ keep ! (3 ∷ 0 ∷ 1 ∷ 2 ∷ []) $
    by ! (leaves 𝓛 En tt c y made r tt tt)))
