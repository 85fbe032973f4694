use Rattle.std.proofs.Common.{◌≡◌, ◌∙◌, ◌≤◌, ℕ, Option, sym, subst, arith}
use Rattle.std.proofs.lemmas.Option.{none-some, same_Some}
use Rattle.std.specs.Option.{IsSomeAnd}
use Rattle.std.specs.Str.Parse.{ParsesUnsigned, ExplainsUnsignedError, HasUnsignedDigitsIfOk}
use Rattle.clap.proofs.CallerReads.{signed_reads}
use Rattle.clap.proofs.WalkLemmas.{one_text-rows}
use Rattle.clap.specs.Matches.{ReadsOne}
use Rattle.clap.specs.Words.{Text, found_of, without_minus}
use Rattle.like_command.specs.Asked.{Writes}
use Rattle.like_command.proofs.matches.number.Goals as goal

pub unreachable-requires : goal.unreachable-requires
unreachable-requires c =
    let has = c.requires.2 in
    let read = c.get_one.ensures.value (without_minus has.0)
    (one_text-rows (found_of c.args.matches.now) c.args.id.now ∙ has.1) in
    let got = signed_reads _
    (λ bs r. ParsesUnsigned 32 10 bs r × ExplainsUnsignedError 10 bs r × HasUnsignedDigitsIfOk bs r) 32 c.requires.0
    c.requires.1 has.0 c.get_one.result
    read (λ u x g. g.0) c.requires.3 has.2 in
    none-some got.0 (sym c.in-None.is ∙ got.1)

pub returns : goal.returns
returns c least most fits has =
    let n = c.in-Some.number in
    let read = c.get_one.ensures.value (without_minus has.0)
    (one_text-rows (found_of c.args.matches.now) c.args.id.now ∙ has.1) in
    let got = signed_reads _
    (λ bs r. ParsesUnsigned 32 10 bs r × ExplainsUnsignedError 10 bs r × HasUnsignedDigitsIfOk bs r) 32 least most
    has.0 c.get_one.result
    read (λ u x g. g.0) fits has.2 in
    let same : got.0 ≡ n = same_Some got.0 n (sym got.1 ∙ c.in-Some.is) in
    let parsed = (subst (λ (o : Option ℕ). ReadsOne
    (λ bs r. ParsesUnsigned 32 10 bs r × ExplainsUnsignedError 10 bs r × HasUnsignedDigitsIfOk bs r)
    (without_minus has.0) o) c.in-Some.is read).0 in
    let low : least ≤ n = omega (arith, same, got.2) in
    let high : n ≤ most = omega (arith, same, got.3) in
    (subst (λ (o : Option Text). IsSomeAnd o (λ text. Writes text n)) (sym has.1) (parsed.0.0, parsed.1), low, high)
