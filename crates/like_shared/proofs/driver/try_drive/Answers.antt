use Rattle.told_lock.specs.Deeds.{deeds_in}
use Rattle.told_lock.specs.Rights.{first_of, seen_of}
use Rattle.like_shared.proofs.Runs.{pages-reached}
use Rattle.like_shared.proofs.driver.try_drive.Goals as goal

pub make_at-answer-requires : goal.make_at-answer-requires
make_at-answer-requires g c =
    let taken = rw c.if-not-try_take.false at c.try_take.ensures.taken in (
      taken.0,
      taken.1,
      pages-reached (first_of c.args.lock.now) taken.0 (deeds_in (seen_of c.try_take.new.pass)) _ taken.2
          c.requires.places,
    )
