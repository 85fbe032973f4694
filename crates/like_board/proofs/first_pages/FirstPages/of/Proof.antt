-- `of` picks the pages. Assumes `Logic`.
use Rattle.std.proofs.Common.{◌≡◌, [], ◌∷◌, length, refl}
use Rattle.std.proofs.raw_atomic.Walks.{proved, leaves}
use mir.Syntax.{named}
use mir.Val.{Val}
use base.Logic.{emp}
use contract.Monad.{fact, fact_i}
use contract.Running.{tables}
use types.Kit.{‵, raw, ◌⊛◌, ◌$◌, ◌∵◌, !, qed, by, keep, split, join, use0}
use types.Run.{enter, returns, no_more}
use types.Part.{agg}
use types.ByLocal.{alloc_all, pass_all, free_all, look_at, sets}
use denote.Builtin.{u64, bool}
use denote.Exit.{yes}
use denote.RattleType.{owns}
use denote.Signature.{types_at, plain}
use denote.Slice.{slice_val, shr_slice_vals, shr_slice_Tells}
use denote.Triple.Entry.{alive}
use denote.Triple.Walked.{Stays, stay_none_slice, walk_of, Goes-none_slice}
use Rattle.like_board.specs.Marks.{marks_of}
use Rattle.like_board.specs.contracts.first_pages.FirstPages as FirstPages
use Rattle.like_board.specs.contracts.first_pages.FirstPages.of as F
use Rattle.like_board.proofs.FirstPages.{made, made_pages}
use Rattle.like_board.proofs.first_pages.FirstPages.of.Statement.{statement}
use Rattle.like_board.proofs.first_pages.FirstPages.of.Code as code

pub of_spec : {M : Type 1} → statement M
of_spec 𝓤 𝓛 𝓜 𝓡 wired =
    let 𝓣 = tables 𝓤 𝓛.H 𝓜 𝓡 𝓡.env in
    let En = F.ended in
    let c = F.clauses 𝓛 𝓜.mem 𝓡.returns in
    let hs : Stays En.signature.params En.kept =
    (stay_none_slice (0 ∷ []) tt (plain (λ _. u64)) yes, (stay_none_slice (1 ∷ []) tt (plain (λ _. bool)) yes, tt)) in
    proved 𝓛 En hs c 𝓜 𝓡 (
      Goes-none_slice 𝓛 2 (0 ∷ []) tt (plain (λ _. u64)) yes,
      (Goes-none_slice 𝓛 2 (1 ∷ []) tt (plain (λ _. bool)) yes, tt),
    )
    F.Key.name code.function (code.unfolded 𝓤 𝓛.H 𝓜 𝓡 wired)
    (λ κs. (shr_slice_vals, (shr_slice_vals, tt)))
    (λ κs. (shr_slice_Tells (named 0) κs.0 u64, (shr_slice_Tells (named 1) κs.1.0 bool, tt)))
    (λ κs qs bounds a gh are.
    let u : Val = slice_val a.0.ref_ptr (length a.0.now) in
    let v : Val = slice_val a.1.0.ref_ptr (length a.1.0.now) in
    let r : FirstPages.the_row.Denot =
    record { counts = a.0.now; marks = marks_of (length a.0.now) a.1.0.now } in
    let y : (walk_of 𝓛 En hs c).Ghost = ((κs, qs, bounds, a, (u ∷ [], (v ∷ [], tt))), gh) in
    qed 𝓛 ((raw (alive 𝓛 En.signature κs qs) ⊛ ‵ (owns (types_at En.signature.params κs) a y.0.4))
    ∷ raw ((c κs a).requires gh) ∷ []) ∵
    split ! $ keep ! (0 ∷ 1 ∷ []) $
    enter ! 𝓣.C 𝓣.Λ code.function (u ∷ v ∷ []) ((walk_of 𝓛 En hs c).post y) $
    alloc_all ! (λ l. pass_all ! refl (
      (tt, (tt, (record { fits = are.0.0.1.0 }, tt))),
      ((tt, (tt, (record { fits = are.1.0.0.1.0 }, tt))), tt),
    ) $
    sets ! (agg ! (no_more !)) refl (tt, tt) $
    use0 𝓛 (raw (fact 𝓤 (r.marks ≡ r.marks))) (fact_i 𝓤 (r.marks ≡ r.marks) (emp 𝓤) refl) $
    use0 𝓛 (raw (fact 𝓤 (r.counts ≡ r.counts))) (fact_i 𝓤 (r.counts ≡ r.counts) (emp 𝓤) refl) $ join ! $
    made_pages ! r $
    returns ! (look_at ! 0 refl) $ free_all ! refl $
    keep ! (2 ∷ 3 ∷ 0 ∷ 1 ∷ []) $
    by ! (leaves 𝓛 En hs c y made r (tt, (tt, tt)) (tt, (tt, tt)))))
