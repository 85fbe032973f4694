-- The answers at places, each with a mark that tells whether it is there.
use Rattle.std.proofs.Common.{◌≡◌, ℕ, zero, suc, ◌+◌, ◌<◌, Bool, true, false, cond, List, [], ◌∷◌, ◌++◌, length, map, replicate, get_or, set, take, Option, Some, None, refl, sym, ap, ◌∙◌, arith}
use Rattle.std.proofs.lemmas.List.{map-append, take_more}
use Rattle.std.specs.Prelude.{is_some}
use Rattle.like_promises.specs.declared.answer.Answer.{Answer}
use Rattle.like_collection.specs.Slots.{answers_there}

-- there are as many places as answers
pub length-there : (there : List Bool) (answers : List Answer)
    → length there ≡ length answers
    → length (answers_there there answers) ≡ length answers
length-there [] [] same = refl
length-there [] (a ∷ answers) same = absurd (omega arith)
length-there (t ∷ there) [] same = absurd (omega arith)
length-there (t ∷ there) (a ∷ answers) same = ap suc (length-there there answers (omega arith))

-- nothing is there at first
pub there-start : (size : ℕ) (a : Answer)
    → answers_there (replicate size false) (replicate size a) ≡ replicate size None
there-start zero a = refl
there-start (suc size) a = let none : Option Answer = None in
    ap (λ (rest : List (Option Answer)). none ∷ rest) (there-start size a)

-- what is there is at a place that is marked
pub get_or-there : (there : List Bool) (answers : List Answer) (place : ℕ) (a : Answer)
    → length there ≡ length answers
    → place < length answers
    → get_or (answers_there there answers) place None
    ≡ cond (get_or there place false) (Some (get_or answers place a)) None
get_or-there [] [] place a same within = absurd (omega arith)
get_or-there [] (x ∷ answers) place a same within = absurd (omega arith)
get_or-there (t ∷ there) [] place a same within = absurd (omega arith)
get_or-there (t ∷ there) (x ∷ answers) zero a same within = refl
get_or-there (t ∷ there) (x ∷ answers) (suc place) a same within =
    get_or-there there answers place a (omega arith) (omega arith)

-- whether something is there
pub is_some-there : (there : List Bool) (answers : List Answer) (place : ℕ) (marked : Bool)
    → length there ≡ length answers
    → place < length answers
    → marked ≡ get_or there place marked → marked ≡ is_some (get_or (answers_there there answers) place None)
is_some-there [] [] place marked same within is = absurd (omega arith)
is_some-there [] (x ∷ answers) place marked same within is = absurd (omega arith)
is_some-there (t ∷ there) [] place marked same within is = absurd (omega arith)
is_some-there (true ∷ there) (x ∷ answers) zero marked same within is = is
is_some-there (false ∷ there) (x ∷ answers) zero marked same within is = is
is_some-there (t ∷ there) (x ∷ answers) (suc place) marked same within is =
    is_some-there there answers place marked (omega arith) (omega arith) is

-- an answer is put at a place and marked
pub there-set : (there : List Bool) (answers : List Answer) (place : ℕ) (a : Answer) → length there ≡ length answers
    → answers_there (set there place true) (set answers place a) ≡ set (answers_there there answers) place (Some a)
there-set [] [] place a same = refl
there-set [] (x ∷ answers) place a same = absurd (omega arith)
there-set (t ∷ there) [] place a same = absurd (omega arith)
there-set (t ∷ there) (x ∷ answers) zero a same = refl
there-set (t ∷ there) (x ∷ answers) (suc place) a same =
    ap (λ (rest : List (Option Answer)). cond t (Some x) None ∷ rest) (there-set there answers place a (omega arith))

-- one more place that is marked
pub take-there : (there : List Bool) (answers : List Answer) (place : ℕ) (a : Answer)
    → length there ≡ length answers
    → place < length answers
    → get_or there place false ≡ true
    → take place (answers_there there answers) ≡ map Some (take place answers)
    → take (place + 1) (answers_there there answers) ≡ map Some (take (place + 1) answers)
take-there there answers place a same within marked before =
    let size = length-there there answers same in
    let here : get_or (answers_there there answers) place None ≡ Some (get_or answers place a) =
    get_or-there there answers place a same within
    ∙ ap (λ (b : Bool). cond b (Some (get_or answers place a)) None) marked in
    let some : Answer → Option Answer = Some in
    take_more (answers_there there answers) place None (omega (arith, size))
    ∙ ap (λ o. take place (answers_there there answers) ++ o ∷ []) here
    ∙ ap (λ front. front ++ Some (get_or answers place a) ∷ []) before
    ∙ sym (map-append some (take place answers) (get_or answers place a ∷ []))
    ∙ ap (map some) (sym (take_more answers place a within))
