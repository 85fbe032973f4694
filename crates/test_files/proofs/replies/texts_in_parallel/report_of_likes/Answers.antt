use Rattle.std.proofs.Common.{arith}
use Rattle.std.proofs.lemmas.Grind.{common_steps}
use Rattle.test_files.proofs.replies.texts_in_parallel.report_of_likes.Goals as goal

pub returns-clause-written : goal.returns-clause-written
returns-clause-written g c pages one = record {
  counted = grind (arith, common_steps, one);
  shown = c.liked-replies.ensures pages;
  liked = c.last_liked-last.ensures pages one;
}
