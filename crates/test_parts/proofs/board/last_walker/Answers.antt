use Rattle.std.proofs.Common.{[], ◌∷◌, ◌++◌, sym, ap, ◌∙◌, refl, subst}
use Rattle.std.specs.List.{slice_get}
use Rattle.std.specs.Option.{option_to_list}
use Rattle.std.proofs.lemmas.Option.{slice_get_within}
use Rattle.like_core.specs.Phase.{is_marked}
use Rattle.like_core.specs.Post.{IsFresh, pages_of}
use Rattle.like_board.specs.Seats.{board_numbers}
use Rattle.like_promises.proofs.Lists.{slice_get-before}
use Rattle.test_parts.proofs.Walk.{last_fresh}
use Rattle.test_parts.proofs.board.last_walker.Goals as goal

pub at-requires : goal.at-requires
at-requires g c =
    let left = c.pop.new.self.items in
    let popped = c.pop.ensures.items ∙ ap (λ o. left ++ option_to_list o) c.expect-seat.ensures in
    (last_fresh _ _ _ left c.expect-seat.result c.requires.fresh popped).0

pub new-requires-clause-fresh : goal.new-requires-clause-fresh
new-requires-clause-fresh g c =
    let left = c.pop.new.self.items in
    let popped = c.pop.ensures.items ∙ ap (λ o. left ++ option_to_list o) c.expect-seat.ensures in
    subst IsFresh
    (sym (c.at.ensures.view ∙ (last_fresh _ _ _ left c.expect-seat.result c.requires.fresh popped).1)) refl

pub new-requires-clause-limits : goal.new-requires-clause-limits
new-requires-clause-limits g c =
    let left = c.pop.new.self.items in
    let popped = c.pop.ensures.items ∙ ap (λ o. left ++ option_to_list o) c.expect-seat.ensures in
    let fresh = last_fresh _ _ _ left c.expect-seat.result c.requires.fresh popped in
    ap (λ v. v.opening.limits) (c.at.ensures.view ∙ fresh.1) ∙ c.requires.limits_are

pub new-requires-clause-pages : goal.new-requires-clause-pages
new-requires-clause-pages g c =
    let left = c.pop.new.self.items in
    let popped = c.pop.ensures.items ∙ ap (λ o. left ++ option_to_list o) c.expect-seat.ensures in
    let fresh = last_fresh _ _ _ left c.expect-seat.result c.requires.fresh popped in
    ap pages_of (c.at.ensures.view ∙ fresh.1) ∙ c.requires.sized

pub new-requires-clause-first : goal.new-requires-clause-first
new-requires-clause-first g c =
    let left = c.pop.new.self.items in
    let popped = c.pop.ensures.items ∙ ap (λ o. left ++ option_to_list o) c.expect-seat.ensures in
    let fresh = last_fresh _ _ _ left c.expect-seat.result c.requires.fresh popped in
    ap (λ v. is_marked v.opening.marks 0) (c.at.ensures.view ∙ fresh.1)
    ∙ c.requires.first

pub returns-clause-at : goal.returns-clause-at
returns-clause-at g c =
    let left = c.pop.new.self.items in
    let popped = c.pop.ensures.items ∙ ap (λ o. left ++ option_to_list o) c.expect-seat.ensures in
    let fresh = last_fresh _ _ _ left c.expect-seat.result c.requires.fresh popped in
    rw (c.new.ensures, c.at.ensures.board, c.at.ensures.view) (record {
      board_is = ap board_numbers (fresh.0 ∙ sym c.requires.here);
      worker_is = ap (λ v. v.worker) fresh.1 ∙ sym c.pop.new.self.ok.0;
    })

pub returns-clause-rest : goal.returns-clause-rest
returns-clause-rest g c =
    let left = c.pop.new.self.items in
    let popped = c.pop.ensures.items ∙ ap (λ o. left ++ option_to_list o) c.expect-seat.ensures in
    record {
      here = c.requires.here;
      fresh = λ i seat at.
          let still = slice_get-before left (c.expect-seat.result ∷ []) i (slice_get_within left i seat at) in
          c.requires.fresh i seat (ap (λ xs. slice_get xs i) popped ∙ (still ∙ at));
      unseen = c.requires.unseen;
      limits_are = c.requires.limits_are;
      plain = c.requires.plain;
      counted = c.requires.counted;
      sized = c.requires.sized;
      first = c.requires.first;
    }
