use Rattle.std.proofs.Common.{◌≡◌, length, map, sym, ap, subst, arith}
use Rattle.std.proofs.lemmas.List.{length-map}
use Rattle.std.specs.List.{All}
use Rattle.told_lock.specs.Rights.{first_of}
use Rattle.like_live.specs.Service.{AreItsSeats}
use Rattle.like_shared.proofs.service.share.Goals as goal

pub returns-clause-keeper : goal.returns-clause-keeper
returns-clause-keeper c =
    let locks = c.in_ok-locks.ensures in
    let driver = c.in_ok-driver.ensures in
    let long = ap length locks.seats in
    record {
      some = omega (arith, c.requires.some, long, length-map c.in_ok-locks.locks.items first_of);
      whole = subst (λ v. AreItsSeats v (map first_of c.in_ok-locks.locks.items)) (sym driver.first)
          (subst (AreItsSeats c.args.driver) (sym locks.seats) c.requires.whole);
      seats = locks.keepers;
      driver = driver.keeper;
      out = subst (λ n. All (λ k. k.out ≡ n) c.lock_all.new.keepers.items) (sym driver.out) locks.out;
      none = c.in_ok-back.ensures.items;
      room = omega (
        arith,
        long,
        length-map c.in_ok-locks.locks.items first_of,
        c.in_ok-back.ensures.capacity,
        c.len.ensures,
      );
    }
