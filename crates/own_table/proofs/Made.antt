-- The machine values of what exists only in proofs. Assumes `Logic`.
use Rattle.std.proofs.Common.{[], ◌∷◌, refl}
use Rattle.std.specs.Prelude.{⊤}
use seplogic.Ra.Ura.{Ura}
use mir.Val.{Val, vstruct, vcons, vnil}
use base.Logic.{ent, emp}
use types.Logic.{Logic, sem}
use denote.RattleType.{RattleType}
use denote.Shadow.{makes_shadow}
use denote.Struct.Owning.{shape}
use denote.Struct.Struct.{Struct}
use Rattle.atomic_table.specs.declared.shared.TableRule.{Ghosts}
use Rattle.own_table.specs.contracts.own_seat.OwnSeat as seat
use Rattle.own_table.specs.contracts.standing.Standing as standing

-- each has no bytes
abbrev pub made : Val
made = vstruct (vcons (vstruct vnil) vnil)

module _ (V : RattleType) where
  abbrev pub SeatData : RattleType
  SeatData = Struct (shape (seat.the_type V))

  pub seat_made : {M : Type 1} {𝓤 : Ura M} (𝓛 : Logic 𝓤) → ent 𝓤 (emp 𝓤) (sem 𝓛 (SeatData.own_val (tt, tt) (made ∷ [])))
  seat_made 𝓛 = makes_shadow 𝓛 (SeatData.own_val (tt, tt) (made ∷ [])) (λ vss. (tt, ((λ uss. (tt, tt)), tt)))
      ((vstruct vnil ∷ [], tt), (refl, ((tt, (refl, tt)), tt)))

module _ (V K R : RattleType) (g : Ghosts R.Denot ⊤ V.Denot K.Denot) where
  abbrev pub StandingData : RattleType
  StandingData = Struct (shape (standing.the_type V K R g))

  pub standing_made : {M : Type 1} {𝓤 : Ura M} (𝓛 : Logic 𝓤)
      → ent 𝓤 (emp 𝓤) (sem 𝓛 (StandingData.own_val (tt, tt) (made ∷ [])))
  standing_made 𝓛 = makes_shadow 𝓛 (StandingData.own_val (tt, tt) (made ∷ [])) (λ vss. (tt, ((λ uss. (tt, tt)), tt)))
      ((vstruct vnil ∷ [], tt), (refl, ((tt, (refl, tt)), tt)))
