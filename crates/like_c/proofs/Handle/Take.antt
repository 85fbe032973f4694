-- The code of `take_parts` of a handle leaves a null pointer, and what the handle owned goes with the parts.
use Rattle.std.specs.Prelude.{◌≡◌, ◌≢◌, Option, Some, None}
use mathlib.Core.Path.{refl, sym, ap, ◌∙◌}
use mathlib.Core.List.{List, [], ◌∷◌, ◌++◌}
use seplogic.Ra.Ura.{Ura}
use lib.Dec.{lit<, T as Holds}
use base.Fraction.{full_share}
use mir.Raw.{raw as bare}
use mir.Syntax.{named, Fn, Ty, aggregate, int, mut, w64, ty_ptr, ty_ref, ty_named, tnil, local, value_local, place, deref, field, copy, rv_opd, seq, assign, return}
use mir.Val.{Val, vptr, vnull, vstruct, of_list, has_ty, WT}
use base.Logic.{ent, sep, fst∗, id⊢, never}
use base.Fml.{Fml, ftrue, fsep, flft}
use prog.Wp.{WpFn, Tables}
use types.Logic.{Logic, sem}
use contract.Monad.{fact}
use sound.WpLaws.{WpFn-mono}
use types.Kit.{Item, ‵, raw, ◌⊛◌, prop, ◌$◌, ◌∵◌, !, qed, move, keep, use1, drop, split, join, fsplit, fsplit3, fjoin, fpack, fpick, feq_i, feq_l, rewrite, regoal, suffices, frame, done, group}
use types.Part.{whole, sub, look_in, store_in, agg}
use types.Run.{stop, fld, load, lit, of_opd, and_then, no_more, returns, assigns, enter}
use types.ByLocal.{alloc_all, pass_all, free_all, look_at, get, through, sets}
use denote.Exit.{yes}
use denote.RattleType.{RattleType, Valss}
use denote.Memory.{cell_at, lone}
use denote.RawPtr.{Ptr, RawPtr, block_ptr, null_ptr, ptr_val, in_a_block}
use denote.Ref.{MutRef, mut_vals}
use denote.Signature.{plain, Slot}
use denote.Steps.{nothing, opens, closes, heard}
use denote.Struct.Struct.{within}
use denote.Triple.Walked.{Stays, stay_dropped, stay_ref, walk_of, ends_at, walk_Meets, Goes-ref, Goes-dropped}
use Rattle.std_alloc.specs.Box.Ownership.{box_owns}
use Rattle.std_heap.specs.contracts.GlobalAllocator.TheImpl.{ghosts}
use Rattle.std_heap.specs.contracts.Global as Heap
use Rattle.like_c.specs.contracts.parts.Parts as Parts
use Rattle.std.proofs.mem.Facts.{says_two}
use denote.Builtin.{RefMutOf}
use denote.Param.{layout}
use denote.Triple.Clauses.{Ended, Clauses, closing}
use denote.Triple.Spec.{Meets}
use Rattle.std.proofs.alloc.Calls.{handle_tells}
use Rattle.std_alloc.proofs.ResultValues.{and_tt}
use Rattle.like_c.specs.Handle.{the_alloc, handle_owns}
use Rattle.like_c.proofs.Handle.Kind.{HandleType, fields, parts_ty, parts_word, the_al, word, σ}

-- the code as it is generated
abbrev pub function : HandleType → Fn
function T = record {
  lifetimes = 1;
  outlives = [];
  ty_params = [];
  givens = 0;
  params = 2;
  locals = local (parts_ty T) value_local ∷ local (ty_ref (named 0) mut (ty_named (T.name, []) tnil)) value_local ∷ local (layout Heap.the_row) value_local ∷ local ty_ptr value_local ∷ local ty_ptr value_local ∷ [];
  body = seq (assign (place 4 []) (rv_opd (copy (place 1 (deref (σ T) ∷ field 0 ∷ [])))))
      (seq (assign (place 3 []) (rv_opd (copy (place 4 []))))
      (seq (assign (place 1 (deref (σ T) ∷ field 0 ∷ [])) (rv_opd (int w64 0)))
      (seq (assign (place 0 []) (aggregate (copy (place 3 []) ∷ copy (place 2 []) ∷ []))) return)));
}

abbrev From : Slot 1
From = plain (λ _. Heap.the_row)

abbrev pub ended : HandleType → Ended
ended T = record { signature = record { lifetimes = 1; outlives = []; params = RefMutOf (0 ∷ []) tt (plain (λ _. T.S)) (λ _. T.one) ∷ From ∷ []; result = plain (λ _. Parts.the_row T.R Heap.the_row ghosts) }; kept = (yes, (yes, tt)) }

abbrev pub clauses : (T : HandleType) {M : Type 1} {𝓤 : Ura M} (𝓛 : Logic 𝓤) → Clauses 𝓤 (ended T)
clauses T {𝓤 = 𝓤} 𝓛 κs a = record {
  ghost = Unit {0};
  requires = λ _. fact 𝓤 (T.home a.0.now ≢ None);
  ensures = λ _ r end. sep 𝓤 (fact 𝓤 (Some r.value ≡ T.home a.0.now)) (fact 𝓤 (T.home end.0.now ≡ None));
}

module _ (T : HandleType) where
  abbrev R : RattleType
  R = T.R

  abbrev S : RattleType
  S = T.S

  abbrev To : RattleType
  To = Parts.the_row R Heap.the_row ghosts

  abbrev fn : Fn
  fn = function T

  abbrev token : Ptr → Fml
  token p = ghosts.dealloc_token the_alloc (bare (lone R.mir)) p

  abbrev stayed : Stays (ended T).signature.params (ended T).kept
  stayed = (stay_ref (0 ∷ []) tt (plain (λ _. S)), (stay_dropped From yes, tt))

  module _ {M : Type 1} {𝓤 : Ura M} (𝓛 : Logic 𝓤) (𝓣 : Tables 𝓤 𝓛.H) where
    open 𝓛 use {H}

    walk : (z : (walk_of 𝓛 (ended T) stayed (clauses T 𝓛)).Ghost) (home : Option R.Denot) → T.home z.0.3.0.now ≡ home
        → ent 𝓤 ((walk_of 𝓛 (ended T) stayed (clauses T 𝓛)).pre z) (WpFn 𝓤 H 𝓣.C 𝓣.Λ fn (z.0.4.0 ++ (z.0.4.1.0 ++ [])) ((walk_of 𝓛 (ended T) stayed (clauses T 𝓛)).post z))
    walk z None is =
        qed 𝓛 (((‵ (flft z.0.0.0 z.0.1.0) ⊛ ‵ ftrue) ⊛ ‵ (fsep ((MutRef (named 0) z.0.0.0 S).own_val z.0.3.0 z.0.4.0) (fsep (Heap.the_row.own_val z.0.3.1.0 z.0.4.1.0) ftrue))) ∷ raw (fact 𝓤 (T.home z.0.3.0.now ≢ None)) ∷ []) ∵
        move ! (1 ∷ []) $ heard ! (T.home z.0.3.0.now ≢ None) (λ held. absurd (held is))
    walk z (Some x) is =
        let Post = (walk_of 𝓛 (ended T) stayed (clauses T 𝓛)).post z in
        let κ = z.0.0.0 in let q = z.0.1.0 in let self = z.0.3.0 in let h = self.now in let rb = self.ref_ptr.0 in let ro = self.ref_ptr.1 in let a = z.0.3.1.0 in
        let Laid : List Val → List Ty → Item 𝓤 = λ us τs. ‵ (cell_at full_share τs us rb ro) in
        let Cell : List Val → Item 𝓤 = λ us. ‵ (cell_at full_share (σ T ∷ []) us rb ro) in
        let h' : S.Denot = T.make null_ptr None in
        qed 𝓛 (((‵ (flft κ q) ⊛ ‵ ftrue) ⊛ ‵ (fsep ((MutRef (named 0) κ S).own_val self z.0.4.0) (fsep (Heap.the_row.own_val a z.0.4.1.0) ftrue))) ∷ raw (fact 𝓤 (T.home h ≢ None)) ∷ []) ∵
        split ! $ split ! $ move ! (2 ∷ []) $ fsplit ! $ fsplit3 ! $ feq_l ! (λ er. move ! (2 ∷ []) $ fsplit ! $
        handle_tells the_al ! a z.0.4.1.0 (λ hv eh fa. keep ! (0 ∷ 2 ∷ 3 ∷ 4 ∷ []) $
        regoal ! (λ (us : List Val). prop (WpFn 𝓤 H 𝓣.C 𝓣.Λ fn (us ++ (z.0.4.1.0 ++ [])) Post)) er refl $
        regoal ! (λ (us : List Val). prop (WpFn 𝓤 H 𝓣.C 𝓣.Λ fn (mut_vals self ++ (us ++ [])) Post)) eh refl $
        enter ! 𝓣.C 𝓣.Λ fn (vptr rb ro ∷ hv ∷ []) _ $ alloc_all ! (λ l. pass_all ! refl ((tt, tt), (fa, tt)) $
        move ! (1 ∷ 2 ∷ 3 ∷ []) $ opens ! tt S {h = h} rb ro (λ vs. move ! (1 ∷ []) $ rewrite ! 0 (λ (F : Fml). ‵ F) (T.owns h vs) refl $ fsplit ! $ fpick ! (λ uss. fsplit ! $ feq_l ! (λ ev. fsplit ! $ feq_l ! (λ eq. drop ! $
        rewrite ! 0 (λ (home : Option R.Denot). ‵ (handle_owns R (T.at h) home)) is refl $
        in_a_block ! (T.at h) (λ p. box_owns (ghosts.dealloc_token the_alloc) R p x) (fst∗ 𝓤 (never 𝓤) (sem 𝓛 (token null_ptr))) (λ b o e.
        let w : Val = parts_word hv b o in
        let made : To.Denot = record { ptr = block_ptr b o; alloc = a; value = x } in
        let fits : Holds (has_ty (parts_ty T) w) × WT w = (and_tt (has_ty (layout Heap.the_row) hv) fa.0, (tt, (fa.1, tt))) in
        rewrite ! 1 (Laid vs) T.laid refl $ rewrite ! 1 Cell (ev ∙ ap (λ (us : List Val). vstruct (of_list (us ++ [])) ∷ []) (eq ∙ ap (λ (p : Ptr). ptr_val p ∷ []) e)) refl $
        -- [what the handle owned; the handle's cell; the open borrow; obs; auth; the allocator]
        sets ! (of_opd ! (load ! (through ! refl (fld ! refl (stop !))) (look_in ! 1 (sub ! 0 refl (whole !))))) refl (tt, tt) $
        sets ! (of_opd ! (get ! refl)) refl (tt, tt) $
        assigns ! (of_opd ! (lit ! tt)) (through ! refl (fld ! refl (stop !))) (store_in ! 1 (sub ! 0 refl (whole !)) (tt, record { fits = lit< tt })) $
        sets ! (agg ! (and_then ! (get ! refl) (and_then ! (get ! refl) (no_more !)))) refl fits $
        -- the parts
        nothing ! $ move ! (6 ∷ 0 ∷ []) $ fjoin ! $ feq_i ! (List Val) (vptr b o ∷ []) (vptr b o ∷ []) refl $ fjoin ! $ feq_i ! (List Val) (w ∷ []) (w ∷ []) refl $ fjoin ! $
        fpack ! (Valss (RawPtr ∷ Heap.the_row ∷ [])) (within (record { name = []; args = []; types = []; fields = RawPtr ∷ Heap.the_row ∷ [] }) (block_ptr b o, (a, tt)) (w ∷ [])) (vptr b o ∷ [], (hv ∷ [], tt)) $
        move ! (0 ∷ 1 ∷ []) $ fjoin ! $ use1 𝓛 (‵ (To.own_val made (w ∷ []))) (id⊢ 𝓤 _) $
        -- the handle
        feq_i ! Ptr null_ptr null_ptr refl $
        nothing ! $ feq_i ! (List Val) (vnull ∷ []) (vnull ∷ []) refl $ fjoin ! $ feq_i ! (List Val) (word vnull ∷ []) (word vnull ∷ []) refl $ fjoin ! $
        fpack ! (Valss (RawPtr ∷ [])) (fields null_ptr (word vnull ∷ [])) (vnull ∷ [], tt) $ fjoin ! $
        rewrite ! 0 (λ (F : Fml). ‵ F) (sym (T.made null_ptr None (word vnull ∷ []))) refl $ move ! (2 ∷ 0 ∷ 3 ∷ 4 ∷ 5 ∷ []) $
        rewrite ! 0 (Laid (word vnull ∷ [])) (sym T.laid) refl $ closes ! tt S h' (word vnull ∷ []) rb ro $
        -- [two parts of self; the token; the result]
        returns ! (look_at ! 0 refl) $ free_all ! refl $ feq_i ! (List Val) z.0.4.0 (mut_vals self) er $
        suffices ! _ (ends_at 𝓛 (ended T) stayed (clauses T 𝓛) z w made (h', (tt, tt)) (tt, (tt, tt))) $
        says_two ! (sym is, T.home_is null_ptr None) $
        group ! 3 $ nothing ! $ nothing ! $ join ! $ move ! (1 ∷ 0 ∷ []) $ join ! $ nothing ! $ move ! (2 ∷ 0 ∷ []) $ join ! $ frame ! $ frame ! $ done !))))))))

  pub meets : {M : Type 1} {𝓤 : Ura M} (𝓛 : Logic 𝓤) (𝓣 : Tables 𝓤 𝓛.H) → Meets 𝓛 (ended T).signature (WpFn 𝓤 𝓛.H 𝓣.C 𝓣.Λ fn) (closing 𝓛 (ended T) (clauses T 𝓛))
  meets {𝓤 = 𝓤} 𝓛 𝓣 =
      walk_Meets 𝓛 (ended T) stayed (Goes-ref 𝓛 1 0 tt (plain (λ _. S)), (Goes-dropped 𝓛 1 From yes (λ κs x f. refl), tt)) (clauses T 𝓛) (WpFn 𝓤 𝓛.H 𝓣.C 𝓣.Λ fn) (WpFn-mono 𝓤 𝓛.H 𝓛.laws 𝓣 fn) (λ z. walk 𝓛 𝓣 z (T.home z.0.3.0.now) refl)
