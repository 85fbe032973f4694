use Rattle.like_c.proofs.closing.end.Goals as goal

pub close-requires-clause-whole : goal.close-requires-clause-whole
close-requires-clause-whole c = c.requires.whole c.take_all.new.back.items c.take_all.ensures.taken
