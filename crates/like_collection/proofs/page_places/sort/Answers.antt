use Rattle.std.proofs.Common.{rules}
use Rattle.std.proofs.lemmas.List.Sorted.{IsNonDecreasingBy-from_sort_by_key, answers_always}
use Rattle.like_collection.proofs.PlaceLists.{by_old}
use Rattle.like_collection.proofs.page_places.sort.Goals as goal

pub returns : goal.returns
returns c =
    by_old c.args.places.now.items c.sort_by_key.new.self.items
    (IsNonDecreasingBy-from_sort_by_key (λ p. p.old) _ c.in_ok-sort_by_key.ensures.sorted (λ a r q k. search rules))
    (c.in_ok-sort_by_key.ensures.stable (λ p. p.old) (answers_always _ _ _ (λ f a r f' k. search rules)))
