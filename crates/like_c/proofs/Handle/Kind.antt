-- What the proofs of a handle's functions need of its type.
use Prim.Native.Nat.{ℕ}
use Rattle.like_c.specs.Handle.{handle_owns}
use Rattle.like_c.specs.contracts.parts.Parts as Parts
use Rattle.std.proofs.alloc.Calls.{Al}
use Rattle.std.specs.Prelude.{◌≡◌, Option}
use Rattle.std_heap.proofs.Global.TheLaws as heap
use Rattle.std_heap.specs.contracts.Global as Heap
use Rattle.std_heap.specs.contracts.GlobalAllocator.TheImpl.{ghosts, dict}
use base.Fml.{Fml, fex, fsep}
use denote.Builtin.{One}
use denote.Param.{layout}
use denote.RattleType.{RattleType, Valss}
use denote.RawPtr.{Ptr, RawPtr}
use denote.Struct.Struct.{within}
use mathlib.Core.List.{List, [], ◌∷◌}
use mir.Syntax.{Sym, Ty, dnil, impl, tcons, tnil, ty_ptr, ty_struct}
use mir.Val.{Val, vcons, vnil, vptr, vstruct}

-- a handle's machine value, for its pointer's
abbrev pub word : Val → Val
word v = vstruct (vcons v vnil)

-- its fields, at this pointer
abbrev pub fields : Ptr → List Val → Valss (RawPtr ∷ []) → Fml
fields p = within (record { name = []; args = []; types = []; fields = RawPtr ∷ [] }) (p, tt)

-- what it owns
abbrev pub owned : (R : RattleType) → Ptr → Option R.Denot → List Val → Fml
owned R p home us = fsep (fex (Valss (RawPtr ∷ [])) (fields p us)) (handle_owns R p home)

-- a handle's type S, which has this name, and R, which it holds
pub record HandleType : Type 2 where
  pub name : Sym
  pub held : Sym
  pub S : RattleType
  pub R : RattleType
  pub at : S.Denot → Ptr
  pub home : S.Denot → Option R.Denot
  pub make : Ptr → Option R.Denot → S.Denot
  pub home_is : (p : Ptr) (it : Option R.Denot) → home (make p it) ≡ it
  pub owns : (h : S.Denot) (us : List Val) → S.own_val h us ≡ owned R (at h) (home h) us
  pub made : (p : Ptr) (it : Option R.Denot) (us : List Val) → S.own_val (make p it) us ≡ owned R p it us
  pub one : One S.mir
  pub laid : S.mir ≡ ty_struct name (tcons ty_ptr tnil) ∷ []

-- its type to the machine
abbrev pub σ : HandleType → Ty
σ T = ty_struct T.name (tcons ty_ptr tnil)

-- the allocator, and what parts are to the machine
abbrev pub the_al : Al
the_al = record { row = Heap.the_row; laws = heap.the_row_laws; g = ghosts; d = dict; drops = impl [] tnil dnil }

abbrev pub parts_ty : HandleType → Ty
parts_ty T = ty_struct (Parts.the_type T.R Heap.the_row ghosts).name (tcons ty_ptr (tcons (layout Heap.the_row) tnil))

abbrev pub parts_word : Val → ℕ → ℕ → Val
parts_word hv b o = vstruct (vcons (vptr b o) (vcons hv vnil))
