use Rattle.std.proofs.Common.{◌≡◌, ℕ, ◌+◌, ◌<◌, length, refl, ap, ◌∙◌, arith}
use Rattle.like_shared.specs.Shared.{seats_told}
use Rattle.like_hosts.specs.Likes.{likes_in}
use Rattle.like_hosts.proofs.Whole.{client-adds, grown, hosted, none-yet, told_likes}
use Rattle.like_hosts.proofs.host.host.Goals as goal

pub returns-clause-strict : goal.returns-clause-strict
returns-clause-strict g c =
    hosted c.args.opening.now c.in_ok-service.service c.take_back-3.new.keeper c.close.new.counts
    c.in_ok-service.ensures.opened c.in-Ok.ensures.closed

pub returns-clause-grown : goal.returns-clause-grown
returns-clause-grown g c =
    let s = c.in_ok-service.service in
    let m = c.new_client-3 in
    let w = c.work-liked in
    let a = c.take_back in
    let b = c.take_back-2 in
    let d = c.take_back-3 in
    let told : (p : ℕ) → told_likes p (seats_told d.new.keeper)
    ≡ likes_in p w.new.one + likes_in p w.new.two + likes_in p w.new.third =
    λ p. let none = none-yet p c.in_ok-service.keeper c.in_ok-service.ensures.unused in
    let made = ap (told_likes p) (m.ensures.told ∙ c.new_client-2.ensures.told ∙ c.new_client.ensures.told) in
    let two = client-adds p s m.new.keeper a.new.keeper w.new.two m.ensures.keeper w.ensures.two a.ensures.told in
    let third = client-adds p s a.new.keeper b.new.keeper w.new.third a.ensures.keeper w.ensures.third b.ensures.told in
    let one = client-adds p s b.new.keeper d.new.keeper w.new.one b.ensures.keeper w.ensures.one d.ensures.told in
    omega (arith, none, made, one, two, third) in
    let o = c.args.opening.now in
    let counts = c.close.new.counts in
    let is : (p : ℕ) → p < length counts → _ =
    λ p. grown o s d.new.keeper counts p c.in_ok-service.ensures.opened c.in-Ok.ensures.closed in
    let new-one = c.in_ok-one.ensures.likes in
    let new-two = c.in_ok-two.ensures.likes in
    let new-third = c.in_ok-third.ensures.likes in
    let page = c.args.page in
    let less : page < length counts = omega (arith, c.requires.page, c.close.auto.counts) in
    record {
      grown =
          omega (
            arith,
            told page,
            is page less,
            new-one page,
            new-two page,
            new-third page,
            w.ensures.likes,
            w.ensures.none.pages page,
          );
      others = λ p there other.
          let one = w.ensures.only.0.others p other in
          let two = w.ensures.only.1.others p other in
          omega (arith, told p, is p there, new-one p, new-two p, new-third p, one, two, w.ensures.none.pages p);
    }

pub returns-clause-unchanged : goal.returns-clause-unchanged
returns-clause-unchanged g c = λ none. absurd (none c.work-liked.result refl)
