-- `get` of a handle lends what is behind the pointer, if it isn't null, and the handle follows it.
use Rattle.std.specs.Prelude.{◌≡◌, Option, Some, None, MatchOption}
use mathlib.Core.Path.{refl, sym, ap, ◌∙◌}
use mathlib.Core.List.{List, [], ◌∷◌, ◌++◌}
use Prim.Native.Nat.{ℕ}
use seplogic.Ra.Ura.{Ura}
use lib.Dec.{lit<}
use base.Fraction.{full_share}
use mir.Raw.{raw as bare}
use mir.Syntax.{named, Fn, Sym, Lifetime, Ty, erased, mut, int, w8, w64, ptr_eq, op2, cond, skip, aggregate, ty_bool, ty_enum, ty_ptr, ty_ref, ty_named, ttcons, ttnil, tcons, tnil, local, value_local, place, deref, field, copy, rv_opd, addr_of, seq, assign, block, return}
use mir.Val.{Val, vptr, vnull, vstruct, of_list}
use base.Logic.{SProp, ent, sep, emp, via, fst∗, guard_i, never}
use base.Fml.{Lft, GName, Share, Fml, ftrue, fsep, flft, fobs, fres}
use prog.Wp.{Env, WpFn, Tables}
use types.Logic.{Logic, sem}
use contract.Monad.{fact, fact_use}
use sound.WpLaws.{WpFn-mono}
use types.Kit.{Item, ‵, raw, ◌⊛◌, some, later, given, at_ret, ◌$◌, ◌∵◌, !, qed, by, move, keep, use0, use1, drop, split, join, pick, fsplit, fsplit3, fjoin, fpack, fpick, feq_i, feq_l, rewrite, learn, suffices, frame, done, await, group}
use types.Part.{whole, sub, look_in, agg}
use types.Match.{live}
use types.Run.{stop, fld, load, lit, of_opd, bin, and_then, no_more, first, blocks, skips, branches, exec, returns, returns_within, enter, addr}
use types.ByLocal.{alloc_all, pass_all, free_all, look_at, get, through, sets, env, sets_last}
use denote.Exit.{no}
use denote.RattleType.{RattleType, Valss, owns}
use denote.Memory.{part_at, mem, cell_at, part_of, lone}
use denote.RawPtr.{Ptr, RawPtr, block_ptr, null_ptr, ptr_val, in_a_block, Testable, tests_null}
use denote.Ref.{MutBor, MutRef, mut_vals, mut_Tells}
use denote.Follow.{follows, follows_by, Part, lends_Part, follows_if}
use denote.Signature.{plain, mut_ref_to}
use denote.Steps.{nothing, opens, closes}
use denote.Triple.Entry.{on_entry}
use denote.Triple.Walked.{says, Stays, stay_dropped, walk_of, ends_at, walked, walk_Meets, Goes-spent_ref}
use Rattle.std.specs.contracts.option.Option as OP
use Rattle.std.proofs.option.Made.{Some-of, none_of}
use Rattle.std.proofs.GlobalToken.{dealloc_token-Testable}
use Rattle.std_alloc.proofs.VecSteps.Shapes.{after}
use Rattle.std_heap.specs.contracts.GlobalAllocator.TheImpl.{ghosts}
use Rattle.std_alloc.specs.Box.Ownership.{box_owns}
use Rattle.like_c.specs.Handle.{the_alloc, handle_owns}
use Rattle.like_c.proofs.Handle.Kind.{HandleType, fields, word, σ}
use denote.Builtin.{RefMutOf}
use denote.Triple.Clauses.{Ended, Clauses, closing}
use denote.Triple.Spec.{Meets}
use Rattle.std.specs.Option.{ghost_name_of}

-- `core::option::Option` of a `&mut` to what is held
abbrev optional : Lifetime → Sym → Ty
optional κ held = ty_enum (99 ∷ 111 ∷ 114 ∷ 101 ∷ 58 ∷ 58 ∷ 111 ∷ 112 ∷ 116 ∷ 105 ∷ 111 ∷ 110 ∷ 58 ∷ 58 ∷ 79 ∷ 112 ∷ 116 ∷ 105 ∷ 111 ∷ 110 ∷ []) (ttcons tnil (ttcons (tcons (ty_ref κ mut (ty_named (held, []) tnil)) tnil) ttnil))

abbrev pub function : HandleType → Ty → Fn
function T τ = record {
  lifetimes = 1;
  outlives = [];
  ty_params = [];
  givens = 0;
  params = 1;
  locals = local (optional (named 0) T.held) value_local ∷ local (ty_ref (named 0) mut (ty_named (T.name, []) tnil)) value_local ∷ local ty_ptr value_local ∷ local ty_bool value_local
      ∷ local (optional erased T.held) value_local ∷ local ty_ptr value_local ∷ local ty_ptr value_local ∷ local (ty_ref erased mut (ty_named (T.held, []) tnil)) value_local ∷ [];
  body = seq (assign (place 2 []) (rv_opd (copy (place 1 (deref (σ T) ∷ field 0 ∷ [])))))
      (seq (assign (place 3 []) (op2 ptr_eq (copy (place 2 [])) (int w64 0)))
      (seq (cond (copy (place 3 [])) (seq (assign (place 0 []) (aggregate (int w8 0 ∷ []))) return) skip)
      (seq (block (seq (assign (place 5 []) (rv_opd (copy (place 1 (deref (σ T) ∷ field 0 ∷ []))))) (seq (assign (place 6 []) (rv_opd (copy (place 5 []))))
      (seq (assign (place 7 []) (addr_of (place 6 (deref τ ∷ [])))) (assign (place 4 []) (aggregate (int w8 1 ∷ copy (place 7 []) ∷ [])))))))
      (seq (assign (place 0 []) (rv_opd (copy (place 4 [])))) return))));
}

abbrev with_home : (T : HandleType) → T.S.Denot → T.R.Denot → T.S.Denot
with_home T h x = T.make (T.at h) (Some x)

abbrev pub ended : HandleType → Ended
ended T = record { signature = record { lifetimes = 1; outlives = []; params = RefMutOf (0 ∷ []) tt (plain (λ _. T.S)) (λ _. T.one) ∷ []; result = plain (λ κs. OP.the_row (MutRef (named 0) κs.0 T.R)) }; kept = (no, tt) }

abbrev pub clauses : (T : HandleType) {M : Type 1} {𝓤 : Ura M} (𝓛 : Logic 𝓤) → Clauses 𝓤 (ended T)
clauses T {𝓤 = 𝓤} 𝓛 κs a = record {
  ghost = Unit {0};
  requires = λ _. emp 𝓤;
  ensures = λ _ r _. sep 𝓤 (sem 𝓛 (follows_if T.S T.R a.0.ghost_name (ghost_name_of r) (with_home T a.0.now) a.0.now))
      (fact 𝓤 (MatchOption r (T.home a.0.now ≡ None) (λ it. T.home a.0.now ≡ Some it.now)));
}

module _ (T : HandleType) (τ : Ty) where
  abbrev R : RattleType
  R = T.R

  abbrev S : RattleType
  S = T.S

  abbrev token : Ptr → Fml
  token p = ghosts.dealloc_token the_alloc (bare (lone R.mir)) p

  abbrev fn : Fn
  fn = function T τ

  abbrev stayed : Stays (ended T).signature.params (ended T).kept
  stayed = (stay_dropped (mut_ref_to (0 ∷ []) tt (plain (λ _. S))) no, tt)

  module _ {M : Type 1} {𝓤 : Ura M} (𝓛 : Logic 𝓤) (κ : Lft) (q : Share) (rb ro : ℕ) (γ : GName) (h : S.Denot) where
    open 𝓛 use {H, A}

    abbrev bound : (walk_of 𝓛 (ended T) stayed (clauses T 𝓛)).Ghost
    bound = (((κ, tt), (q, tt), tt, (record { ref_ptr = (rb, ro); ghost_name = γ; now = h }, tt), (vptr rb ro ∷ [], tt)), tt)

    abbrev Post : Val → SProp 𝓤
    Post = (walk_of 𝓛 (ended T) stayed (clauses T 𝓛)).post bound

    abbrev Lent : RattleType
    Lent = MutRef (named 0) κ R

    -- all of the handle but the value
    abbrev Rest : ℕ → ℕ → Fml
    Rest b o = fsep (token (block_ptr b o)) (cell_at full_share S.mir (word (vptr b o) ∷ []) rb ro)

    back : (b o : ℕ) → (T.at h) ≡ block_ptr b o → (w : R.Denot) → ent 𝓤 (sep 𝓤 (sem 𝓛 ((mem R).own_at w b o)) (sem 𝓛 (Rest b o))) (sem 𝓛 ((mem S).own_at (with_home T h w) rb ro))
    unfolding part_of
    back b o e w =
        qed 𝓛 (‵ (part_at R full_share w b o) ∷ ‵ (Rest b o) ∷ []) ∵ move ! (1 ∷ []) $ fsplit ! $ move ! (2 ∷ 0 ∷ []) $ fjoin ! $
        rewrite ! 0 (λ (p : Ptr). ‵ (box_owns (ghosts.dealloc_token the_alloc) R p w)) (sym e) refl $
        nothing ! $ feq_i ! (List Val) (vptr b o ∷ []) (ptr_val (T.at h) ∷ []) (ap (λ (p : Ptr). ptr_val p ∷ []) (sym e)) $ fjoin ! $
        feq_i ! (List Val) (word (vptr b o) ∷ []) (word (vptr b o) ∷ []) refl $ fjoin ! $
        fpack ! (Valss (RawPtr ∷ [])) (fields (T.at h) (word (vptr b o) ∷ [])) (vptr b o ∷ [], tt) $ fjoin ! $
        rewrite ! 0 (λ (F : Fml). ‵ F) (sym (T.made (T.at h) (Some w) (word (vptr b o) ∷ []))) refl $ move ! (1 ∷ 0 ∷ []) $ fjoin ! $
        fpack ! (List Val) (λ us. fsep (cell_at full_share S.mir us rb ro) (S.own_val (with_home T h w) us)) (word (vptr b o) ∷ []) $ done !

    exits : (b o : ℕ) (x : R.Denot) → T.home h ≡ Some x → (γ' : GName)
        → ent 𝓤 (sep 𝓤 (sem 𝓛 (Lent.own_val (record { ref_ptr = (b, o); ghost_name = γ'; now = x }) (vptr b o ∷ []))) (sep 𝓤 (A.lft κ q) (sem 𝓛 (follows S R γ γ' (with_home T h))))) (Post (live 1 (of_list (vptr b o ∷ []))))
    unfolding follows_by
    exits b o x e γ' =
        let r : MutBor R.Denot = record { ref_ptr = (b, o); ghost_name = γ'; now = x } in
        let v : Val = vptr b o in
        qed 𝓛 (‵ (Lent.own_val r (v ∷ [])) ∷ ‵ (flft κ q) ∷ ‵ (follows S R γ γ' (with_home T h)) ∷ []) ∵
        use1 𝓛 (‵ ((OP.the_row Lent).own_val (Some r) (live 1 (of_list (v ∷ [])) ∷ []))) (Some-of 𝓛 Lent r v) $
        suffices ! _ (ends_at 𝓛 (ended T) stayed (clauses T 𝓛) bound (live 1 (of_list (v ∷ []))) (Some r) (tt, tt) (tt, tt)) $
        nothing ! $ nothing ! $ fjoin ! $ join ! $ nothing ! $ move ! (2 ∷ 0 ∷ []) $ join ! $ join ! $ frame ! $ says ! e $ done !

    leaves : T.home h ≡ None → ent 𝓤 (sep 𝓤 (A.obs γ (S.coded.code h)) (A.lft κ q)) (Post (live 0 (of_list [])))
    unfolding follows_by
    leaves none =
        qed 𝓛 (‵ (fobs γ (S.coded.code h)) ∷ ‵ (flft κ q) ∷ []) ∵ use1 𝓛 (‵ (fres γ (S.coded.code h))) (𝓛.names.obs-res γ (S.coded.code h)) $ move ! (1 ∷ []) $
        use0 𝓛 (‵ ((OP.the_row Lent).own_val None (live 0 (of_list []) ∷ []))) (none_of 𝓛 Lent) $
        suffices ! _ (ends_at 𝓛 (ended T) stayed (clauses T 𝓛) bound (live 0 (of_list [])) None (tt, tt) (tt, tt)) $
        nothing ! $ nothing ! $ fjoin ! $ join ! $ nothing ! $ move ! (2 ∷ 0 ∷ []) $ join ! $ join ! $ frame ! $ says ! none $ done !

    module _ (𝓣 : Tables 𝓤 H) where
      abbrev Goes : Type 1
      Goes = ent 𝓤 (on_entry 𝓛 (ended T).signature (κ, tt) (q, tt) bound.0.3 bound.0.4) (WpFn 𝓤 H 𝓣.C 𝓣.Λ fn (vptr rb ro ∷ []) Post)

      abbrev Cell : List Val → Item 𝓤
      Cell us = ‵ (cell_at full_share (σ T ∷ []) us rb ro)

      abbrev Laid : List Val → List Ty → Item 𝓤
      Laid us τs = ‵ (cell_at full_share τs us rb ro)

      walk : (home : Option R.Denot) → T.home h ≡ home → Goes
      walk None is =
          qed 𝓛 ((‵ (flft κ q) ⊛ ‵ ftrue) ∷ ‵ (owns (MutRef (named 0) κ S ∷ []) bound.0.3 bound.0.4) ∷ []) ∵
          enter ! 𝓣.C 𝓣.Λ fn (vptr rb ro ∷ []) _ $ alloc_all ! (λ l. pass_all ! refl ((tt, tt), tt) $
          move ! (1 ∷ []) $ fsplit ! $ fsplit3 ! $ drop ! $ move ! (3 ∷ []) $ split ! $ move ! (2 ∷ 3 ∷ 0 ∷ []) $
          opens ! tt S {h = h} rb ro (λ vs. move ! (1 ∷ []) $ rewrite ! 0 (λ (F : Fml). ‵ F) (T.owns h vs) refl $ fsplit ! $ fpick ! (λ vss. fsplit ! $ feq_l ! (λ ev. fsplit ! $ feq_l ! (λ ep. drop ! $
          rewrite ! 0 (λ (home : Option R.Denot). ‵ (handle_owns R (T.at h) home)) is refl $ feq_l ! (λ en.
          rewrite ! 0 (Laid vs) T.laid refl $ rewrite ! 0 Cell (ev ∙ ap (λ (us : List Val). vstruct (of_list (us ++ [])) ∷ []) (ep ∙ ap (λ (p : Ptr). ptr_val p ∷ []) en)) refl $
          sets ! (of_opd ! (load ! (through ! refl (fld ! refl (stop !))) (look_in ! 0 (sub ! 0 refl (whole !))))) refl (tt, record { fits = lit< tt }) $
          sets ! (bin ! (get ! refl) (lit ! tt) (tests_null null_ptr (lit< tt))) refl (tt, tt) $
          first ! $ branches ! (get ! refl)
          (λ t. sets ! (agg ! (and_then ! (lit ! tt) (no_more !))) refl (tt, (record { fits = lit< tt }, tt)) $
          feq_i ! Ptr (T.at h) null_ptr en $ rewrite ! 0 (λ (home : Option R.Denot). ‵ (handle_owns R (T.at h) home)) (sym is) refl $
          nothing ! $ feq_i ! (List Val) (vnull ∷ []) (ptr_val (T.at h) ∷ []) (ap (λ (p : Ptr). ptr_val p ∷ []) (sym en)) $ fjoin ! $
          feq_i ! (List Val) (word vnull ∷ []) (word vnull ∷ []) refl $ fjoin ! $
          fpack ! (Valss (RawPtr ∷ [])) (fields (T.at h) (word vnull ∷ [])) (vnull ∷ [], tt) $ fjoin ! $ rewrite ! 0 (λ (F : Fml). ‵ F) (sym (T.owns h (word vnull ∷ []))) refl $ move ! (1 ∷ 0 ∷ []) $
          rewrite ! 0 (Laid (word vnull ∷ [])) (sym T.laid) refl $
          closes ! tt S h (word vnull ∷ []) rb ro $
          returns_within ! Post refl (look_at ! 0 refl) $ free_all ! refl $ keep ! (0 ∷ 2 ∷ []) $ by ! (leaves is))
          (λ t. absurd t)))))))
      walk (Some x) is =
          qed 𝓛 ((‵ (flft κ q) ⊛ ‵ ftrue) ∷ ‵ (owns (MutRef (named 0) κ S ∷ []) bound.0.3 bound.0.4) ∷ []) ∵
          enter ! 𝓣.C 𝓣.Λ fn (vptr rb ro ∷ []) _ $ alloc_all ! (λ l. pass_all ! refl ((tt, tt), tt) $
          let En : Env 𝓤 H = env fn.locals l in
          move ! (1 ∷ []) $ fsplit ! $ fsplit3 ! $ drop ! $ move ! (3 ∷ []) $ split ! $ move ! (2 ∷ 3 ∷ 0 ∷ []) $
          opens ! tt S {h = h} rb ro (λ vs. move ! (1 ∷ []) $ rewrite ! 0 (λ (F : Fml). ‵ F) (T.owns h vs) refl $ fsplit ! $ fpick ! (λ vss. fsplit ! $ feq_l ! (λ ev. fsplit ! $ feq_l ! (λ ep. drop ! $
          rewrite ! 0 (λ (home : Option R.Denot). ‵ (handle_owns R (T.at h) home)) is refl $
          in_a_block ! (T.at h) (λ p. box_owns (ghosts.dealloc_token the_alloc) R p x) (fst∗ 𝓤 (never 𝓤) (sem 𝓛 (token null_ptr))) (λ b o e.
          fsplit ! $ move ! (1 ∷ []) $ use1 𝓛 (given (Testable (block_ptr b o)) (‵ (token (block_ptr b o))))
          (fact_use 𝓤 (Testable (block_ptr b o)) (dealloc_token-Testable 𝓛 the_alloc (bare (lone R.mir)) (block_ptr b o)) (guard_i 𝓤 (Testable (block_ptr b o)) (sem 𝓛 (token (block_ptr b o))))) $ learn ! (λ may.
          rewrite ! 2 (Laid vs) T.laid refl $ rewrite ! 2 Cell (ev ∙ ap (λ (us : List Val). vstruct (of_list (us ++ [])) ∷ []) (ep ∙ ap (λ (p : Ptr). ptr_val p ∷ []) e)) refl $
          -- [the token; the value; the handle's cell; the open borrow; obs; auth]
          sets ! (of_opd ! (load ! (through ! refl (fld ! refl (stop !))) (look_in ! 2 (sub ! 0 refl (whole !))))) refl (tt, tt) $
          sets ! (bin ! (get ! refl) (lit ! tt) (tests_null (block_ptr b o) may)) refl (tt, tt) $
          first ! $ branches ! (get ! refl) (λ t. absurd t)
          (λ t. skips ! $ exec ! 𝓣.C 𝓣.Λ En (after 3 fn.body) (at_ret En Post) $ first ! $ blocks ! $
          sets ! (of_opd ! (load ! (through ! refl (fld ! refl (stop !))) (look_in ! 2 (sub ! 0 refl (whole !))))) refl (tt, tt) $
          sets ! (of_opd ! (get ! refl)) refl (tt, tt) $ sets ! (addr ! (through ! refl (stop !))) refl (tt, tt) $
          sets_last ! (agg ! (and_then ! (lit ! tt) (and_then ! (get ! refl) (no_more !)))) refl (tt, (record { fits = lit< tt }, (tt, tt))) $
          exec ! 𝓣.C 𝓣.Λ En (after 4 fn.body) (at_ret En Post) $
          sets ! (of_opd ! (get ! refl)) refl (tt, (record { fits = lit< tt }, (tt, tt))) $
          rewrite ! 2 (Laid (word (vptr b o) ∷ [])) (sym T.laid) refl $ move ! (0 ∷ 2 ∷ []) $ fjoin ! $ move ! (2 ∷ 3 ∷ 4 ∷ 1 ∷ 0 ∷ []) $ group ! 5 $
          use1 𝓛 (later (some (λ (γ' : GName). raw (Part 𝓛 S R (with_home T h) (named 0) κ q rb ro b o γ (sem 𝓛 (Rest b o)) (back b o e) x γ'))))
          (lends_Part 𝓛 S R (with_home T h) (named 0) κ q rb ro b o γ (sem 𝓛 (Rest b o)) (back b o e) (S.coded.code h) (S.coded.code h) x) $ await ! tt $ pick ! (λ γ'.
          returns ! (look_at ! 0 refl) $ free_all ! refl $ keep ! (0 ∷ []) $ by ! (exits b o x is γ'))))))))))

  pub meets : {M : Type 1} {𝓤 : Ura M} (𝓛 : Logic 𝓤) (𝓣 : Tables 𝓤 𝓛.H) → Meets 𝓛 (ended T).signature (WpFn 𝓤 𝓛.H 𝓣.C 𝓣.Λ fn) (closing 𝓛 (ended T) (clauses T 𝓛))
  meets {𝓤 = 𝓤} 𝓛 𝓣 =
      walk_Meets 𝓛 (ended T) stayed (Goes-spent_ref 𝓛 1 (0 ∷ []) tt (plain (λ _. S)), tt) (clauses T 𝓛) (WpFn 𝓤 𝓛.H 𝓣.C 𝓣.Λ fn) (WpFn-mono 𝓤 𝓛.H 𝓛.laws 𝓣 fn)
      (walked 𝓛 (ended T) stayed (clauses T 𝓛) (WpFn 𝓤 𝓛.H 𝓣.C 𝓣.Λ fn) (λ κs. (mut_vals, tt)) (λ κs. (mut_Tells (named 0) κs.0 S, tt))
      (λ κs qs bounds a g are. via 𝓤 _ (fst∗ 𝓤 _ (emp 𝓤)) (walk 𝓛 κs.0 qs.0 a.0.ref_ptr.0 a.0.ref_ptr.1 a.0.ghost_name a.0.now 𝓣 (T.home a.0.now) refl)))
