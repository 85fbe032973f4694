use Rattle.std.proofs.Common.{◌≡◌, ◌∙◌, ◌||◌, ◌&&◌, ◌++◌, ◌∷◌, ℕ, List, [], ap, arith, length, map, sym, take}
use Rattle.std.specs.Prelude.{Bool, String, option_map, string_bytes}
use Rattle.std.specs.Option.{option_to_list}
use Rattle.std.specs.declared.alloc.Global.{Global}
use Rattle.std.proofs.Math.Seq.{take-length}
use Rattle.like_command.specs.declared.options.Options.{Options}
use Rattle.like_files.specs.StandardInput.{is_input, names_twice}
use Rattle.like_files.proofs.StandardInput.{looked-more, names_before, next-before}
use Rattle.like_files.proofs.standard_input.names_input_twice.Goals as goal

pub loop-name-preserved : goal.loop-name-preserved
loop-name-preserved c =
    let options : Options = c.args.options.now in
    let i = c.loop-name.name-index in
    let there = rw c.deref-name-items.ensures.value at c.loop-name-test.true in
    let is = rw c.deref-name-items.ensures.value at c.name-item.is in
    let given : c.is_input-names_it.result ≡ is_input (string_bytes c.name-item.result) =
    c.is_input-names_it.ensures ∙ ap is_input c.deref-in-loop-name.ensures in
    rw (next-before options i c.name-item.result there is, given)
    (looked-more (names_before options i) c.loop-name.is_named c.loop-name.is_twice (string_bytes c.name-item.result)
    c.loop-name.invariant)

pub returns-in-Some : goal.returns-in-Some
returns-in-Some c =
    let options : Options = c.args.options.now in
    let items : List (String Global) = options.requests.items in
    let i : ℕ = c.loop-name.name-index in
    let size : length c.deref-name-items.result.now ≡ length items = ap length c.deref-name-items.ensures.value in
    let at_end : i ≡ length items = omega (arith, size) in
    let all : take i items ≡ items = ap (λ (k : ℕ). take k items) at_end ∙ take-length items in
    let given : c.is_input.result ≡ is_input (string_bytes c.in-Some.name) =
    c.is_input.ensures ∙ ap is_input c.deref-in-Some.ensures in
    let known = looked-more (names_before options i) c.loop-name.is_named c.loop-name.is_twice
    (string_bytes c.in-Some.name) c.loop-name.invariant in
    ap (λ (b : Bool). c.loop-name.is_twice || (c.loop-name.is_named && b)) given ∙ (known.twice
    ∙ (ap (λ (xs : List (String Global)).
    names_twice (string_bytes options.pages ∷ map string_bytes xs ++ string_bytes c.in-Some.name ∷ [])) all
    ∙ sym (ap (λ s. names_twice (string_bytes options.pages ∷ map string_bytes items ++ option_to_list (option_map string_bytes s))) c.in-Some.is)))
