-- The pages of a new board as a value. Assumes `Logic`.
use Rattle.std.proofs.Common.{List, [], ◌∷◌, refl}
use seplogic.Ra.Ura.{Ura}
use mir.Val.{Val, vstruct, vnil}
use types.Logic.{Logic}
use types.Kit.{Goal, Step, step, Item, ‵, ◌$◌, fjoin, fpack, feq_i}
use denote.RattleType.{Valss}
use denote.Steps.{nothing}
use denote.Struct.Struct.{within}
use Rattle.like_board.specs.contracts.first_pages.FirstPages as FirstPages

-- its machine value, which has no bytes
abbrev pub made : Val
made = vstruct vnil

-- pages are told with nothing
pub made_pages : {M : Type 1} {𝓤 : Ura M} {𝓛 : Logic 𝓤} {K : Type 0} {Γ : List (Item 𝓤)} {G : Goal 𝓤 𝓛.H} → K
    → (r : FirstPages.the_row.Denot) → Step K 𝓛 (‵ (FirstPages.the_row.own_val r (made ∷ [])) ∷ Γ) G Γ G
made_pages t r = step (λ s.
    nothing t $ nothing t $ feq_i t (List Val) (made ∷ []) (made ∷ []) refl $ fjoin t $
    fpack t (Valss []) (within (record { name = []; args = []; types = []; fields = [] }) tt (made ∷ [])) tt $
    fjoin t $ s)
