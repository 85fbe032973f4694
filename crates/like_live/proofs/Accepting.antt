-- Which requests are accepted: those of a user that is found, for a page that is there.
use Rattle.std.proofs.Common.{◌≡◌, ◌≢◌, ℕ, ◌<◌, ◌%◌, Bool, true, false, cond, nat_lt, Some, None, refl, sym, ap, subst, ◌∙◌}
use Rattle.std.proofs.Math.Nat.{mod-mod}
use Rattle.std.proofs.lemmas.Bool.{and_parts, eqb-true, lt-ltb, ltb-true}
use Rattle.like_core.specs.Post.{pages_of}
use Rattle.like_requests.proofs.Verdicts.{passes-accepted}
use Rattle.like_requests.specs.declared.verdict.Verdict.TheVariants.{Accepted}
use Rattle.like_seat.specs.StationView.{StationView}
use Rattle.like_tables.specs.Ranked.{IsRanked, ranked_at, ranked_in}
use Rattle.like_tables.specs.Share.{Share, owns, serves_home}
use Rattle.like_tables.specs.declared.ranked.Ranked.{Ranked}
use Rattle.like_live.specs.declared.asked.Asked.{Asked}
use Rattle.like_live.specs.Calls.{IsAccepted, verdict_at}
use Rattle.like_live.proofs.Requests.{owned_since}

-- a user who isn't the seat's is refused
pub not-owned : (s : StationView Asked) (user page : ℕ) → s.last.share.submitters ≡ s.last.share.workers
    → owns s.last.share user ≡ false → verdict_at s user page ≢ Accepted
not-owned s user page home_is other is =
    let owned = owned_since s.last.share user (nat_lt page (pages_of s.post)) home_is is in
    cc (owned, other)

-- what a search for a user found
found-ranked : (s : Share) (user : ℕ) (ranked : Ranked) → Some ranked ≡ ranked_in s user
    → (owns s user ≡ true) × (ranked ≡ ranked_at s user)
found-ranked s user ranked e =
    by_test (owns s user) refl e
  where
    by_test : (b : Bool) → owns s user ≡ b → Some ranked ≡ cond b (Some (ranked_at s user)) None
        → (owns s user ≡ true) × (ranked ≡ ranked_at s user)
    by_test true is same = (is, cc same)
    by_test false is same = cc same

found-none : (s : Share) (user : ℕ) → None ≡ ranked_in s user → owns s user ≡ false
found-none s user e =
    by_test (owns s user) refl e
  where
    by_test : (b : Bool) → owns s user ≡ b → None ≡ cond b (Some (ranked_at s user)) None → owns s user ≡ false
    by_test true is same = cc same
    by_test false is same = is

-- a request is accepted of a user that is found, for a page that is there
pub accepted-found : (s : StationView Asked) (user page : ℕ) (ranked : Ranked)
    → s.last.share.submitters ≡ s.last.share.workers → Some ranked ≡ ranked_in s.last.share user
    → page < pages_of s.post → IsAccepted s user page ranked
accepted-found s user page ranked home_is e there =
    let share = s.last.share in
    let found = found-ranked share user ranked e in
    let parts = and_parts (nat_lt user share.users) (serves_home share user) found.0 in
    let mine = eqb-true (user % share.submitters % share.workers) share.worker parts.1 in
    let at : user % share.submitters ≡ share.worker =
    sym (ap (λ n. user % share.submitters % n) (sym home_is) ∙ mod-mod user share.submitters) ∙ mine in
    record {
      verdict = passes-accepted share.users share.submitters share.worker user (nat_lt page (pages_of s.post))
          (ltb-true user share.users parts.0) at (lt-ltb page (pages_of s.post) there);
      there = there;
      user_is = ap (λ (p : Ranked). p.user) found.1;
      rank_is = subst (IsRanked share) (sym found.1) (record { owned = found.0; rank_is = refl });
    }

-- and of no other user
pub refused-none : (s : StationView Asked) (user page : ℕ) → s.last.share.submitters ≡ s.last.share.workers
    → None ≡ ranked_in s.last.share user → verdict_at s user page ≢ Accepted
refused-none s user page home_is e = not-owned s user page home_is (found-none s.last.share user e)
