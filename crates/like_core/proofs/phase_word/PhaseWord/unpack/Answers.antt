use Rattle.like_core.proofs.word.WordParts.{finds}
use Rattle.like_core.proofs.phase_word.PhaseWord.unpack.Goals as goal

pub returns-clause-found : goal.returns-clause-found
returns-clause-found c =
    finds c.args.word _ c.from_code.ensures c.new.result c.new.ensures.lawful.1 c.new.ensures.fields
