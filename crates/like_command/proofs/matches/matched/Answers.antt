use Rattle.std.proofs.Common.{List, subst}
use Rattle.clap.specs.Words.{Row, found_of, rows_of}
use Rattle.like_command.specs.Asked.{HasAll}
use Rattle.like_command.proofs.Matched.{same_rows}
use Rattle.like_command.proofs.matches.matched.Goals as goal

pub options-requires : goal.options-requires
options-requires c =
    subst (λ (rows : List Row). HasAll rows)
    (same_rows c.args.matches.now
    (rows_of (found_of c.in-Some.run'.now)) c.requires.0 c.requires.1 c.in-Some.ensures.rows) c.requires.2

pub options-requires-in-Some-subcommand_matches : goal.options-requires-in-Some-subcommand_matches
options-requires-in-Some-subcommand_matches c =
    subst (λ (rows : List Row). HasAll rows)
    (same_rows c.args.matches.now
    (rows_of (found_of c.in-Some-subcommand_matches.replay.now)) c.requires.0 c.requires.1
    c.in-Some-subcommand_matches.ensures.rows) c.requires.2
