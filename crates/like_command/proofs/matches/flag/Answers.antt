use Rattle.std.proofs.Common.{◌∙◌, Bool, true, false, subst, sym}
use Rattle.clap.proofs.WalkLemmas.{one_text-rows}
use Rattle.clap.specs.Words.{found_of, rows_of}
use Rattle.like_command.specs.Asked.{IsFlag}
use Rattle.like_command.proofs.matches.flag.Goals as goal

pub returns : goal.returns
returns c = go c.requires.0 c.requires.1
  where
    go : (b : Bool) → IsFlag (rows_of (found_of c.args.matches.now)) c.args.id.now b
        → IsFlag (rows_of (found_of c.args.matches.now)) c.args.id.now c.get_flag.result
    go true e = subst (IsFlag (rows_of (found_of c.args.matches.now)) c.args.id.now)
        (sym (c.get_flag.ensures.value (one_text-rows (found_of c.args.matches.now) c.args.id.now ∙ e))) e
    go false e = subst (IsFlag (rows_of (found_of c.args.matches.now)) c.args.id.now)
        (sym (c.get_flag.ensures.other (one_text-rows (found_of c.args.matches.now) c.args.id.now ∙ e))) e
