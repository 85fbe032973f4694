-- Where the fields of what crosses to C are in memory, as likes.h asserts it.
use Rattle.std.specs.Prelude.{◌≡◌, ℕ, ◌+◌, List, [], ◌∷◌}
use denote.{Memory.lone, RattleType.RattleType}
use mathlib.Core.Option.{none, some}
use mir.Syntax.{Ty}
use prog.Memory.{field_of}
use Rattle.like_live.specs.Types.{LikePair}
use Rattle.like_live.specs.contracts.like_pair.LikePair as Pair
use Rattle.like_c.specs.declared.rows.{AnswerRow.AnswerRow, FoundRow.FoundRow, Options.Options, RequestRow.RequestRow}
use Rattle.like_c.specs.contracts.rows.AnswerRow as Answer
use Rattle.like_c.specs.contracts.rows.FoundRow as Found
use Rattle.like_c.specs.contracts.rows.Options as Opening
use Rattle.like_c.specs.contracts.rows.RequestRow as Request

-- the fields of the type from field k on begin at these places, and it has no others
abbrev pub HasPlaces : RattleType → ℕ → List ℕ → Type 0
HasPlaces type k [] = field_of (lone type.mir) k ≡ none
HasPlaces type k (place ∷ places) =
    ((field : Ty) × (field_of (lone type.mir) k ≡ some (field, place))) × HasPlaces type (k + 1) places

-- these are the fields of each, from the first one on, and their places
pub record AreLaidOut : Type 0 where
  pub options : (o : Options) → Opening.struct.as_values o ≡ (o.seats, (o.users, (o.room, (o.hot, (o.reserved, tt)))))
  pub options_at : HasPlaces Opening.the_row 0 (0 ∷ 4 ∷ 8 ∷ 12 ∷ 16 ∷ [])
  pub request : (r : RequestRow) → Request.struct.as_values r ≡ (r.tag, (r.user, (r.page, (r.op, tt))))
  pub request_at : HasPlaces Request.the_row 0 (0 ∷ 8 ∷ 12 ∷ 16 ∷ [])
  pub answer : (a : AnswerRow) → Answer.struct.as_values a ≡ (a.count, (a.last, (a.status, tt)))
  pub answer_at : HasPlaces Answer.the_row 0 (0 ∷ 8 ∷ 12 ∷ [])
  pub found : (f : FoundRow) → Found.struct.as_values f
      ≡ (f.tag, (f.count, (f.asked, (f.ran, (f.user, (f.page, (f.last, (f.reserved, tt))))))))
  pub found_at : HasPlaces Found.the_row 0 (0 ∷ 8 ∷ 16 ∷ 24 ∷ 32 ∷ 36 ∷ 40 ∷ 44 ∷ [])
  pub pair : (p : LikePair) → Pair.struct.as_values p ≡ (p.user, (p.page, tt))
  pub pair_at : HasPlaces Pair.the_row 0 (0 ∷ 4 ∷ [])
