-- A client's passes come back, one after the other.
use Rattle.std.proofs.Common.{◌≡◌, suc, ◌<◌, List, [], ◌∷◌, ◌++◌, get_or, length, map, set, refl, sym, ap, ◌∙◌, arith}
use Rattle.std.proofs.lemmas.List.{length-map, map-set}
use Rattle.told_lock.specs.declared.keeper.Keeper.{Keeper}
use Rattle.like_live.specs.LiveView.{LiveView}
use Rattle.like_shared.specs.declared.deed.SeatDeed.{SeatDeed}
use Rattle.like_shared.specs.declared.seat_call.SeatPass.{SeatPass}
use Rattle.like_shared.specs.Shared.{with_each}
use Rattle.like_shared.proofs.Places.{map-read}

module _ {A : Type 0} (add : A → SeatPass → A) (none : A) where
  -- a pass more
  each-more : (old : List A) (done : List SeatPass) (p : SeatPass) (x : A) → length done < length old
      → x ≡ get_or (with_each add old done) (length done) none
      → set (with_each add old done) (length done) (add x p) ≡ with_each add old (done ++ p ∷ [])
  each-more [] done p x less at = absurd (omega arith)
  each-more (y ∷ old) [] p x less at = λ i. add (at i) p ∷ old
  each-more (y ∷ old) (q ∷ done) p x less at =
      ap (λ (l : List A). add y q ∷ l) (each-more old done p x (omega arith) at)

  each-long : (old : List A) (done : List SeatPass) → length (with_each add old done) ≡ length old
  each-long old [] = refl
  each-long [] (q ∷ done) = refl
  each-long (y ∷ old) (q ∷ done) = ap suc (each-long old done)

  -- its keeper took it back
  pub each-back : (known : Keeper LiveView SeatDeed → A) (old : List A) (keepers : List (Keeper LiveView SeatDeed))
      (done : List SeatPass) (k l : Keeper LiveView SeatDeed) (p : SeatPass)
      → map known keepers ≡ with_each add old done → length done < length keepers → k ≡ get_or keepers (length done) k
      → known l ≡ add (known k) p
      → map known (set keepers (length done) l) ≡ with_each add old (done ++ p ∷ [])
  each-back known old keepers done k l p is less at more =
      let here : get_or (map known keepers) (length done) none ≡ known k =
      map-read known keepers (length done) k none less at in
      let long = ap length is ∙ each-long old done in
      let all = length-map keepers known in
      map-set known keepers (length done) l
      ∙ (λ i. set (is i) (length done) (more i))
      ∙ each-more old done p (known k) (omega (arith, less, long, all))
      (sym here ∙ ap (λ (xs : List A). get_or xs (length done) none) is)
