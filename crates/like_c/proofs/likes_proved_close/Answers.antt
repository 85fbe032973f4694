use Rattle.std.proofs.Common.{◌<◌, Some, ap, refl, subst, sym, ◌∙◌}
use Rattle.like_c.specs.Closes.{close_pages, close_prevented, closes}
use Rattle.like_c.proofs.Homes.{as-many, gone-at, lives-on}
use Rattle.like_c.proofs.likes_proved_close.Goals as goal

pub returns-then-counts-pages : goal.returns-then-counts-pages
returns-then-counts-pages c =
    close_pages c.in-Some.opened.now c.in-Some.ensures.driver (λ same. c.if-counts-pages.true (same ∙ sym c.pages.ensures))
    refl (record { driver_stays = sym c.in-Some.ensures.driver; seats_stay = refl; counts_stay = refl })

pub returns-in-Err : goal.returns-in-Err
returns-in-Err c =
    close_prevented c.in-Some.opened.now c.in-Some.ensures.driver (c.if-counts-pages.false ∙ c.pages.ensures)
    c.in-Err.ensures.refused
    (record {
      driver_stays = sym c.in-Some.ensures.driver;
      seats_stay = c.check_seats.ensures.same;
      counts_stay = refl;
    })

pub end-requires-clause-whole : goal.end-requires-clause-whole
end-requires-clause-whole c = λ lives held.
    c.requires.whole c.into_inner.result lives
    (c.in-Some.ensures.driver ∙ c.in-Some-take.ensures.taken ∙ ap Some (sym c.into_inner.ensures))
    (lives-on c.args.seats.now c.check_seats.new.seats (sym c.check_seats.ensures.same) ∙ held)

pub end-requires-clause-gone : goal.end-requires-clause-gone
end-requires-clause-gone c = λ k d below.
    let first = c.args.seats.now in
    let same = c.check_seats.ensures.same in
    gone-at c.check_seats.new.seats first k d d same below
    (c.in_default-check_seats.ensures.gone k d (subst (λ n. k < n) (as-many c.check_seats.new.seats first same) below))

pub returns : goal.returns
returns c =
    let closed = c.end.ensures.closed in
    closes c.into_inner.result closed.0
    (c.in-Some.ensures.driver ∙ c.in-Some-take.ensures.taken ∙ ap Some (sym c.into_inner.ensures))
    (lives-on c.args.seats.now c.check_seats.new.seats (sym c.check_seats.ensures.same) ∙ closed.1)
    closed.2 closed.3 refl c.in-Some-take.ensures.left c.end.ensures.left
