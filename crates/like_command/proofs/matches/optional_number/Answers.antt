use Rattle.std.proofs.Common.{◌∙◌, ℕ, Option, Some, inl, inr, sym, subst}
use Rattle.std.specs.Option.{IsSomeAnd}
use Rattle.std.specs.Str.Parse.{ParsesUnsigned, ExplainsUnsignedError, HasUnsignedDigitsIfOk}
use Rattle.clap.proofs.CallerReads.{signed_reads}
use Rattle.clap.proofs.WalkLemmas.{one_text-rows}
use Rattle.clap.specs.Matches.{ReadsOne}
use Rattle.clap.specs.Words.{Text, found_of, rows_of, without_minus}
use Rattle.like_command.specs.Asked.{IsNumber, Writes}
use Rattle.like_command.proofs.matches.optional_number.Goals as goal

pub returns : goal.returns
returns c least most fits (inl none) =
    subst (IsNumber (rows_of (found_of c.args.matches.now)) c.args.id.now least most)
    (sym (c.get_one.ensures.none (one_text-rows (found_of c.args.matches.now) c.args.id.now ∙ none))) none
returns c least most fits (inr has) =
    let read = c.get_one.ensures.value (without_minus has.0)
    (one_text-rows (found_of c.args.matches.now) c.args.id.now ∙ has.1) in
    let got = signed_reads _
    (λ bs r. ParsesUnsigned 32 10 bs r × ExplainsUnsignedError 10 bs r × HasUnsignedDigitsIfOk bs r) 32 least most
    has.0 c.get_one.result
    read (λ u x g. g.0) fits has.2 in
    let parsed = (subst (λ (o : Option ℕ). ReadsOne
    (λ bs r. ParsesUnsigned 32 10 bs r × ExplainsUnsignedError 10 bs r × HasUnsignedDigitsIfOk bs r)
    (without_minus has.0) o) got.1 read).0 in
    let is : IsNumber (rows_of (found_of c.args.matches.now)) c.args.id.now least most (Some got.0) = (
      subst (λ (o : Option Text). IsSomeAnd o (λ text. Writes text got.0)) (sym has.1) (parsed.0.0, parsed.1),
      got.2,
      got.3,
    ) in
    subst (IsNumber (rows_of (found_of c.args.matches.now)) c.args.id.now least most) (sym got.1) is
