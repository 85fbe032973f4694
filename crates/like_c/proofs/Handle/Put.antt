-- The code of `put_parts` of a handle writes the pointer, and what the parts own goes with it.
use Rattle.std.specs.Prelude.{◌≡◌, Option, Some, None}
use mathlib.Core.Path.{refl, sym, ap, ◌∙◌}
use mathlib.Core.List.{List, [], ◌∷◌, ◌++◌}
use seplogic.Ra.Ura.{Ura}
use base.Fraction.{full_share}
use mir.Raw.{raw as bare}
use mir.Syntax.{named, Fn, Ty, mut, opd_unit, ty_unit, ty_ptr, ty_ref, ty_named, tnil, local, value_local, place, deref, field, copy, rv_opd, seq, assign, return}
use mir.Val.{Val, vptr, vunit, vstruct, of_list, has_ty, WT}
use base.Logic.{ent, fst∗, never}
use base.Fml.{Fml, ftrue, fsep, flft}
use prog.Wp.{WpFn, Tables}
use types.Logic.{Logic, sem}
use contract.Monad.{fact}
use sound.WpLaws.{WpFn-mono}
use types.Kit.{Item, ‵, raw, ◌⊛◌, prop, ◌$◌, ◌∵◌, !, qed, move, keep, drop, split, join, fsplit, fsplit3, fjoin, fpack, fpick, feq_i, feq_l, rewrite, regoal, suffices, frame, done, group}
use types.Part.{whole, sub, store_in}
use types.Run.{stop, fld, unit_lit, of_opd, returns, assigns, enter}
use types.ByLocal.{alloc_all, pass_all, free_all, look_at, get, get_in, through, sets}
use denote.Exit.{yes}
use denote.RattleType.{RattleType, Valss}
use denote.Memory.{cell_at, lone}
use denote.RawPtr.{Ptr, RawPtr, block_ptr, null_ptr, ptr_val, in_a_block}
use denote.Ref.{MutRef, mut_vals}
use denote.Signature.{plain, Slot}
use denote.Steps.{nothing, opens, closes, heard}
use denote.Triple.Walked.{says, Stays, stay_dropped, stay_ref, walk_of, ends_at, walk_Meets, Goes-ref, Goes-dropped}
use Rattle.std_alloc.specs.Box.Ownership.{box_owns}
use Rattle.std_heap.specs.contracts.GlobalAllocator.TheImpl.{ghosts}
use Rattle.std_heap.specs.contracts.Global as Heap
use Rattle.like_c.specs.contracts.parts.Parts as Parts
use lib.Dec.{T as Holds}
use denote.Builtin.{RefMutOf, unit}
use denote.Param.{layout}
use denote.Triple.Clauses.{Ended, Clauses, closing}
use denote.Triple.Spec.{Meets}
use Rattle.std.proofs.alloc.Calls.{handle_tells}
use Rattle.std_alloc.proofs.ResultValues.{and_tt}
use Rattle.like_c.specs.Handle.{the_alloc, handle_owns}
use Rattle.like_c.proofs.Handle.Kind.{HandleType, fields, parts_ty, parts_word, the_al, word, σ}

-- the code as it is generated
abbrev pub function : HandleType → Fn
function T = record {
  lifetimes = 1;
  outlives = [];
  ty_params = [];
  givens = 0;
  params = 2;
  locals = local ty_unit value_local ∷ local (ty_ref (named 0) mut (ty_named (T.name, []) tnil)) value_local ∷ local (parts_ty T) value_local ∷ local ty_ptr value_local ∷ local ty_ptr value_local ∷ [];
  body = seq (assign (place 3 []) (rv_opd (copy (place 2 (field 0 ∷ [])))))
      (seq (assign (place 4 []) (rv_opd (copy (place 3 []))))
      (seq (assign (place 1 (deref (σ T) ∷ field 0 ∷ [])) (rv_opd (copy (place 4 []))))
      (seq (assign (place 0 []) (rv_opd opd_unit)) return)));
}

abbrev From : HandleType → Slot 1
From T = plain (λ _. Parts.the_row T.R Heap.the_row ghosts)

abbrev pub ended : HandleType → Ended
ended T = record { signature = record { lifetimes = 1; outlives = []; params = RefMutOf (0 ∷ []) tt (plain (λ _. T.S)) (λ _. T.one) ∷ From T ∷ []; result = plain (λ _. unit) }; kept = (yes, (yes, tt)) }

abbrev pub clauses : (T : HandleType) {M : Type 1} {𝓤 : Ura M} (𝓛 : Logic 𝓤) → Clauses 𝓤 (ended T)
clauses T {𝓤 = 𝓤} 𝓛 κs a = record {
  ghost = Unit {0};
  requires = λ _. fact 𝓤 (T.home a.0.now ≡ None);
  ensures = λ _ _ end. fact 𝓤 (T.home end.0.now ≡ Some a.1.0.value);
}

module _ (T : HandleType) where
  abbrev R : RattleType
  R = T.R

  abbrev S : RattleType
  S = T.S

  abbrev fn : Fn
  fn = function T

  abbrev token : Ptr → Fml
  token p = ghosts.dealloc_token the_alloc (bare (lone R.mir)) p

  abbrev stayed : Stays (ended T).signature.params (ended T).kept
  stayed = (stay_ref (0 ∷ []) tt (plain (λ _. S)), (stay_dropped (From T) yes, tt))

  module _ {M : Type 1} {𝓤 : Ura M} (𝓛 : Logic 𝓤) (𝓣 : Tables 𝓤 𝓛.H) where
    open 𝓛 use {H}

    walk : (z : (walk_of 𝓛 (ended T) stayed (clauses T 𝓛)).Ghost)
        → ent 𝓤 ((walk_of 𝓛 (ended T) stayed (clauses T 𝓛)).pre z) (WpFn 𝓤 H 𝓣.C 𝓣.Λ fn (z.0.4.0 ++ (z.0.4.1.0 ++ [])) ((walk_of 𝓛 (ended T) stayed (clauses T 𝓛)).post z))
    walk z =
        let Post = (walk_of 𝓛 (ended T) stayed (clauses T 𝓛)).post z in
        let κ = z.0.0.0 in let q = z.0.1.0 in let self = z.0.3.0 in let h = self.now in let rb = self.ref_ptr.0 in let ro = self.ref_ptr.1 in
        let v = z.0.3.1.0 in
        let Laid : List Val → List Ty → Item 𝓤 = λ us τs. ‵ (cell_at full_share τs us rb ro) in
        let Cell : List Val → Item 𝓤 = λ us. ‵ (cell_at full_share (σ T ∷ []) us rb ro) in
        qed 𝓛 (((‵ (flft κ q) ⊛ ‵ ftrue) ⊛ ‵ (fsep ((MutRef (named 0) κ S).own_val self z.0.4.0) (fsep ((Parts.the_row R Heap.the_row ghosts).own_val v z.0.4.1.0) ftrue))) ∷ raw (fact 𝓤 (T.home h ≡ None)) ∷ []) ∵
        split ! $ split ! $ move ! (3 ∷ []) $ heard ! (T.home h ≡ None) (λ is. move ! (2 ∷ []) $ fsplit ! $ fsplit3 ! $ feq_l ! (λ er.
        move ! (2 ∷ []) $ fsplit ! $ fsplit ! $ fpick ! (λ vss. fsplit ! $ feq_l ! (λ ew. fsplit ! $ feq_l ! (λ ep. fsplit ! $
        handle_tells the_al ! v.alloc vss.1.0 (λ hv eh fa. drop ! $ drop ! $
        in_a_block ! v.ptr (λ p. box_owns (ghosts.dealloc_token the_alloc) R p v.value) (fst∗ 𝓤 (never 𝓤) (sem 𝓛 (token null_ptr))) (λ b o e.
        let w : Val = parts_word hv b o in
        let ws : z.0.4.1.0 ≡ w ∷ [] = ew ∙ (λ j. vstruct (of_list ((ep ∙ ap (λ (p : Ptr). ptr_val p ∷ []) e) j ++ (eh j ++ []))) ∷ []) in
        let fits : Holds (has_ty (parts_ty T) w) × WT w = (and_tt (has_ty (layout Heap.the_row) hv) fa.0, (tt, (fa.1, tt))) in
        let h' : S.Denot = T.make (block_ptr b o) (Some v.value) in
        keep ! (0 ∷ 2 ∷ 3 ∷ 4 ∷ []) $
        regoal ! (λ (us : List Val). prop (WpFn 𝓤 H 𝓣.C 𝓣.Λ fn (us ++ (z.0.4.1.0 ++ [])) Post)) er refl $
        regoal ! (λ (us : List Val). prop (WpFn 𝓤 H 𝓣.C 𝓣.Λ fn (mut_vals self ++ (us ++ [])) Post)) ws refl $
        enter ! 𝓣.C 𝓣.Λ fn (vptr rb ro ∷ w ∷ []) _ $ alloc_all ! (λ l. pass_all ! refl ((tt, tt), (fits, tt)) $
        sets ! (of_opd ! (get_in ! (fld ! refl (stop !)) (sub ! 0 refl (whole !)))) refl (tt, tt) $ sets ! (of_opd ! (get ! refl)) refl (tt, tt) $
        move ! (1 ∷ 2 ∷ 3 ∷ []) $ opens ! tt S {h = h} rb ro (λ vs. move ! (1 ∷ []) $ rewrite ! 0 (λ (F : Fml). ‵ F) (T.owns h vs) refl $ fsplit ! $ fpick ! (λ uss. fsplit ! $ feq_l ! (λ ev. fsplit ! $ feq_l ! (λ eq. drop ! $
        rewrite ! 0 (λ (home : Option R.Denot). ‵ (handle_owns R (T.at h) home)) is refl $ feq_l ! (λ en.
        rewrite ! 0 (Laid vs) T.laid refl $ rewrite ! 0 Cell (ev ∙ ap (λ (us : List Val). vstruct (of_list (us ++ [])) ∷ []) (eq ∙ ap (λ (p : Ptr). ptr_val p ∷ []) en)) refl $
        -- [the handle's cell; the open borrow; obs; auth; what the parts owned]
        assigns ! (of_opd ! (get ! refl)) (through ! refl (fld ! refl (stop !))) (store_in ! 0 (sub ! 0 refl (whole !)) (tt, tt)) $
        sets ! (of_opd ! (unit_lit !)) refl (tt, tt) $ move ! (4 ∷ []) $
        nothing ! $ feq_i ! (List Val) (vptr b o ∷ []) (vptr b o ∷ []) refl $ fjoin ! $ feq_i ! (List Val) (word (vptr b o) ∷ []) (word (vptr b o) ∷ []) refl $ fjoin ! $
        fpack ! (Valss (RawPtr ∷ [])) (fields (block_ptr b o) (word (vptr b o) ∷ [])) (vptr b o ∷ [], tt) $ fjoin ! $
        rewrite ! 0 (λ (F : Fml). ‵ F) (sym (T.made (block_ptr b o) (Some v.value) (word (vptr b o) ∷ []))) refl $ move ! (1 ∷ 0 ∷ []) $
        rewrite ! 0 (Laid (word (vptr b o) ∷ [])) (sym T.laid) refl $ closes ! tt S h' (word (vptr b o) ∷ []) rb ro $
        returns ! (look_at ! 0 refl) $ free_all ! refl $ feq_i ! (List Val) z.0.4.0 (mut_vals self) er $
        suffices ! _ (ends_at 𝓛 (ended T) stayed (clauses T 𝓛) z vunit tt (h', (tt, tt)) (tt, (tt, tt))) $ says ! (T.home_is (block_ptr b o) (Some v.value)) $
        group ! 3 $ nothing ! $ nothing ! $ join ! $ move ! (1 ∷ 0 ∷ []) $ join ! $ nothing ! $ move ! (2 ∷ 0 ∷ []) $ join ! $ frame ! $ frame ! $
        feq_i ! (List Val) (vunit ∷ []) (vunit ∷ []) refl $ done !)))))))))))))

  pub meets : {M : Type 1} {𝓤 : Ura M} (𝓛 : Logic 𝓤) (𝓣 : Tables 𝓤 𝓛.H) → Meets 𝓛 (ended T).signature (WpFn 𝓤 𝓛.H 𝓣.C 𝓣.Λ fn) (closing 𝓛 (ended T) (clauses T 𝓛))
  meets {𝓤 = 𝓤} 𝓛 𝓣 =
      walk_Meets 𝓛 (ended T) stayed (Goes-ref 𝓛 1 0 tt (plain (λ _. S)), (Goes-dropped 𝓛 1 (From T) yes (λ κs x f. refl), tt)) (clauses T 𝓛) (WpFn 𝓤 𝓛.H 𝓣.C 𝓣.Λ fn) (WpFn-mono 𝓤 𝓛.H 𝓛.laws 𝓣 fn) (walk 𝓛 𝓣)
