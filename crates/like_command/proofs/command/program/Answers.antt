use Rattle.std.specs.Borrow.{Bor}
use Rattle.std.proofs.Common.{◌≡◌, ◌∙◌, Some, true, ap, codes}
use Rattle.std.proofs.lemmas.Result.{IfOk-weaker}
use Rattle.clap.specs.Simple.{app_of_fields}
use Rattle.clap.specs.Words.{App, Text, new_app}
use Rattle.clap.specs.declared.builder.command.Command.{Command}
use Rattle.clap.specs.declared.builder.command.Command.TheOpen.{Command-F}
use Rattle.clap.specs.declared.builder.command.Command.TheViews.{out-Command}
use Rattle.like_command.proofs.command.program.Goals as goal

abbrev app0 : App
app0 = new_app (codes "likes")

-- each of these settings is one field of what the program's own words are read by
without_name : (old new : Command-F Command) (s : App)
    → new ≡ record old { no_binary_name = true }
    → app_of_fields old ≡ s
    → app_of_fields new ≡ record s { top = record s.top { no_binary_name = true } }
without_name old new s is was =
    ap app_of_fields is ∙ ap (λ (a : App). record a { top = record a.top { no_binary_name = true } }) was

with_one_needed : (old new : Command-F Command) (s : App)
    → new ≡ record old { subcommand_required = true }
    → app_of_fields old ≡ s
    → app_of_fields new ≡ record s { top = record s.top { subcommand_required = true } }
with_one_needed old new s is was =
    ap app_of_fields is ∙ ap (λ (a : App). record a { top = record a.top { subcommand_required = true } }) was

without_help : (old new : Command-F Command) (s : App)
    → new ≡ record old { disable_help_subcommand = true }
    → app_of_fields old ≡ s
    → app_of_fields new ≡ record s { top = record s.top { disable_help_subcommand = true } }
without_help old new s is was =
    ap app_of_fields is ∙ ap (λ (a : App). record a { top = record a.top { disable_help_subcommand = true } }) was

with_version : (old new : Command-F Command) (s : App) (text : Bor Text)
    → new ≡ record old { version = Some text }
    → app_of_fields old ≡ s
    → app_of_fields new ≡ record s { top = record s.top { has_version = true } }
with_version old new s text is was =
    ap app_of_fields is ∙ ap (λ (a : App). record a { top = record a.top { has_version = true } }) was

pub returns : goal.returns
returns c =
    let s1 = without_name _ (out-Command c.no_binary_name.result) app0 c.no_binary_name.ensures c.new.ensures.app in
    let s2 = with_one_needed _ (out-Command c.subcommand_required.result) _ c.subcommand_required.ensures s1 in
    let s3 = without_help _ (out-Command c.disable_help_subcommand.result) _ c.disable_help_subcommand.ensures s2 in
    let s4 = with_version _ (out-Command c.version.result) _ _ c.version.ensures s3 in
    let s5 = ap app_of_fields c.after_help.ensures ∙ (ap app_of_fields c.about.ensures ∙ s4) in
    IfOk-weaker c.bin_name.result _ _ (λ x h. ap app_of_fields h.0 ∙ s5) c.bin_name.ensures
