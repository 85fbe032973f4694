use Rattle.std.proofs.lemmas.Result.{MatchResult-weaker}
use Rattle.like_shared.proofs.client.Client.like_row.Goals as goal

pub returns-clause-told : goal.returns-clause-told
returns-clause-told c = MatchResult-weaker c.row.result c.row.ensures.places (λ _ told. told) (λ _ same. tt)
