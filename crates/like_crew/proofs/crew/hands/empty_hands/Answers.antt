use Rattle.std.proofs.Common.{◌≡◌, ◌∙◌, ◌+◌, ◌++◌, ◌∷◌, [], ℕ, List, Vec, Global, length, sym, ap, subst, arith}
use Rattle.std.specs.List.{All}
use Rattle.std.proofs.lemmas.List.{length_push}
use Rattle.std.proofs.lemmas.List.Elements.{All-push}
use Rattle.like_crew.proofs.crew.hands.empty_hands.Goals as goal

abbrev IsEmpty : {A : Type 0} → Vec A Global → Type 0
IsEmpty hand = hand.items ≡ []

none-yet : {A : Type 0} (hands : List (Vec A Global)) → hands ≡ [] → (length hands ≡ 0) × All IsEmpty hands
none-yet hands none = (ap length none, subst (All IsEmpty) (sym none) (λ k d within. absurd (omega (arith, within))))

one-more : {A : Type 0} (hands now : List (Vec A Global)) (hand : Vec A Global) (n : ℕ)
    → now ≡ hands ++ hand ∷ []
    → length hands ≡ n
    → All IsEmpty hands
    → IsEmpty hand
    → (length now ≡ n + 1) × All IsEmpty now
one-more hands now hand n pushed many all empty = (
  ap length pushed ∙ length_push hands hand ∙ ap (λ k. k + 1) many,
  subst (All IsEmpty) (sym pushed) (All-push IsEmpty hands hand all empty),
)

pub loop-init : goal.loop-init
loop-init g c =
    let none = none-yet c.new-hands.result.items c.new-hands.ensures.items in
    record { len = none.0; none = none.1 }

pub loop-preserved : goal.loop-preserved
loop-preserved g c =
    let more = one-more c.loop.hands.items c.push.new.self.items c.new.result c.loop.counter c.in_ok-push.ensures.items
    c.loop.invariant.len c.loop.invariant.none c.new.ensures.items in
    record { len = more.0; none = more.1 }
