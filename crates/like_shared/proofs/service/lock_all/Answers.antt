use Rattle.std.proofs.Common.{◌≡◌, List, [], ◌∷◌, ◌++◌, map, sym, ap, ◌∙◌, subst}
use Rattle.std.proofs.lemmas.List.{map-append}
use Rattle.std.proofs.lemmas.List.Elements.{All-push}
use Rattle.std.proofs.lemmas.Slice.Zip.{all_zipped_more}
use Rattle.std.specs.List.{All, AllZip}
use Rattle.told_lock.specs.Rights.{IsKeeper, first_of, told_of}
use Rattle.like_shared.proofs.service.lock_all.Goals as goal

-- two lists, side by side, with one element more each
zip-pushed : {A B : Type 0} (R : A → B → Type 0) (xs zs : List A) (ys ws : List B) (x : A) (y : B) → zs ≡ xs ++ x ∷ []
    → ws ≡ ys ++ y ∷ [] → AllZip R xs ys → R x y → AllZip R zs ws
zip-pushed R xs zs ys ws x y left right zip is =
    subst (λ l. AllZip R l ws) (sym left)
    (subst (AllZip R (xs ++ x ∷ [])) (sym right) (all_zipped_more R xs ys x y zip is))

pub loop-seat-preserved : goal.loop-seat-preserved
loop-seat-preserved c =
    let l = c.loop-seat in
    let lock = c.in_ok-lock.lock in
    let keeper = c.in_ok-lock.keeper in
    let locks = c.in_ok-push.ensures.items in
    let keepers = c.in_ok-push-2.ensures.items in
    record {
      seats = ap (map first_of) locks ∙ map-append first_of l.locks.items (lock ∷ [])
          ∙ (λ i. l.invariant.seats i ++ c.in_ok-lock.ensures.first i ∷ []);
      keepers = zip-pushed IsKeeper l.locks.items _ l.keepers.items _ lock keeper locks keepers l.invariant.keepers
          c.in_ok-lock.ensures.keeper;
      told = subst (All (λ k. told_of k ≡ [])) (sym keepers)
          (All-push (λ k. told_of k ≡ []) l.keepers.items keeper l.invariant.told c.in_ok-lock.ensures.told);
      out = subst (All (λ k. k.out ≡ 0)) (sym keepers)
          (All-push (λ k. k.out ≡ 0) l.keepers.items keeper l.invariant.out c.in_ok-lock.ensures.out);
    }
