use Rattle.std.proofs.Common.{◌≡◌, map, take}
use Rattle.like_replies.proofs.rows.Named.{bytes_in, text_of_name}
use Rattle.like_replies.proofs.report.names.Names.new.Given as goal

abbrev pub invariant-loop-page : goal.invariant-loop-page
invariant-loop-page l = map bytes_in l.texts.items ≡ map text_of_name (take l.page l.pages)
