-- Which likes a call adds to a client's log.
use Rattle.std.proofs.Common.{◌≡◌, ◌≢◌, ℕ, ◌+◌, ◌<◌, ◌≤◌, Bool, true, false, List, [], ◌∷◌, ◌++◌, get_or, length, take, Result, Ok, Err, refl, sym, ap, ◌∙◌, arith}
use Rattle.std.specs.Prelude.{◌==◌, cond, if◌then◌else◌, MatchResult, sum_by}
use Rattle.std.proofs.lemmas.Bool.{eq-eqb, ne_eqb}
use Rattle.std.proofs.lemmas.Nat.{mod_below}
use Rattle.std.proofs.lemmas.List.{length-map}
use Rattle.std.proofs.lemmas.List.Sums.{sum_by-append, sum_by-cons, sum_by-set, sum_by_more}
use Rattle.std.proofs.lemmas.Slice.Zip.{AllZip-long}
use Rattle.like_core.specs.Functions.{times}
use Rattle.like_requests.specs.Verdict.{home}
use Rattle.like_live.specs.declared.answer.LikeAnswer.{LikeAnswer}
use Rattle.like_live.specs.declared.answer.LikeAnswer.TheVariants as like
use Rattle.like_live.specs.History.{like_told}
use Rattle.like_live.specs.History as told
use Rattle.like_shared.specs.declared.client.Client.{Client}
use Rattle.like_shared.specs.declared.deed.SeatDeed.{SeatDeed}
use Rattle.like_shared.specs.declared.deed.SeatDeed.TheVariants as deed
use Rattle.like_shared.specs.declared.seat_call.Busy.{Busy}
use Rattle.like_shared.specs.declared.service.SharedService.{SharedService}
use Rattle.like_shared.specs.Deeds.{liked_by}
use Rattle.like_shared.specs.Passes.{IsReady, log_at}
use Rattle.like_shared.specs.Shared.{IsClient, IsLogged, seat_logs, seats_of, with_deeds}
use Rattle.like_hosts.specs.Likes.{LikesNone, LikesOnly, counted, liked_for, likes_for, likes_in, likes_of}

-- a deed more at a seat
deed-more : (weigh : SeatDeed → ℕ) (logs : List (List SeatDeed)) (seat : ℕ) (d : SeatDeed) → seat < length logs
    → likes_of weigh (with_deeds logs seat (d ∷ [])) ≡ likes_of weigh logs + weigh d
deed-more weigh logs seat d less =
    let all : List SeatDeed → ℕ = λ log. sum_by weigh log in
    let set = sum_by-set all logs seat (get_or logs seat [] ++ d ∷ []) [] less in
    let more = sum_by-append weigh (get_or logs seat []) (d ∷ []) in
    let one = sum_by-cons weigh d [] in omega (arith, set, more, one)

-- what a call adds; if the seat was busy, nothing
call-adds : {A : Type 0} (weigh : SeatDeed → ℕ) (s : SharedService) (before after : Client) (seat : ℕ)
    (d : A → SeatDeed) (result : Result A Busy) → IsClient s before → seat < seats_of s
    → IsLogged before seat d result after
    → MatchResult result (λ told. likes_of weigh (seat_logs after) ≡ likes_of weigh (seat_logs before) + weigh (d told))
    (λ busy. likes_of weigh (seat_logs after) ≡ likes_of weigh (seat_logs before))
call-adds weigh s before after seat d (Ok told) client less logged =
    let all = length-map before.seats.items log_at in
    let long = AllZip-long IsReady s.seats.items before.seats.items client.seats in
    ap (likes_of weigh) logged.seats ∙ deed-more weigh (seat_logs before) seat (d told) (omega (arith, all, long, less))
call-adds weigh s before after seat d (Err busy) client less logged = ap (likes_of weigh) logged.seats

-- a deed that counts for nothing adds nothing
adds-none : {A : Type 0} (weigh : SeatDeed → ℕ) (s : SharedService) (before after : Client) (seat : ℕ)
    (d : A → SeatDeed) (result : Result A Busy) → MatchResult result (λ told. weigh (d told) ≡ 0) (λ busy. Unit {0})
    → IsClient s before → seat < seats_of s → IsLogged before seat d result after
    → likes_of weigh (seat_logs after) ≡ likes_of weigh (seat_logs before)
adds-none weigh s before after seat d (Ok told) none client less logged =
    omega (arith, call-adds weigh s before after seat d (Ok told) client less logged, none)
adds-none weigh s before after seat d (Err busy) none client less logged =
    call-adds weigh s before after seat d (Err busy) client less logged

-- a call that is no like tells none
pub call-likes-none : {A : Type 0} (s : SharedService) (before after : Client) (seat : ℕ) (d : A → SeatDeed)
    (result : Result A Busy) → ((told : A) (page : ℕ) → liked_by page (d told) ≡ 0)
    → ((told : A) (user page : ℕ) → liked_for user page (d told) ≡ 0) → IsClient s before → seat < seats_of s
    → IsLogged before seat d result after → LikesNone before after
call-likes-none {A} s before after seat d result no_page no_user client less logged = record {
  pages = λ page. adds-none (liked_by page) s before after seat d result (each result (λ told. no_page told page)) client
      less logged;
  each = λ user page. adds-none (liked_for user page) s before after seat d result
      (each result (λ told. no_user told user page)) client less logged;
}
  where
    each : {P : A → Type 0} (r : Result A Busy) → ((told : A) → P told) → MatchResult r P (λ busy. Unit {0})
    each (Ok told) all = all told
    each (Err busy) all = tt

-- nor does one that leaves the logs of the seats
pub same-likes-none : (before after : Client) → seat_logs after ≡ seat_logs before → LikesNone before after
same-likes-none before after same = record {
  pages = λ page. ap (likes_of (liked_by page)) same;
  each = λ user page. ap (likes_of (liked_for user page)) same;
}

-- no like, and again none
pub none-none : (a b c : Client) → LikesNone a b → LikesNone b c → LikesNone a c
none-none a b c first last = record {
  pages = λ page. last.pages page ∙ first.pages page;
  each = λ user page. last.each user page ∙ first.each user page;
}

-- a like of a page that is counted is one
liked-one : (page user : ℕ) → liked_by page (deed.Like user page like.Liked) ≡ 1
liked-one page user =
    sum_by-cons (like_told page) (told.like user page like.Liked) []
    ∙ ap (λ b. (if b then 1 else 0) + 0) (eq-eqb page page refl)

-- and none of another
liked-none : (p page user : ℕ) (answer : LikeAnswer) → p ≢ page → liked_by p (deed.Like user page answer) ≡ 0
liked-none p page user like.Liked other =
    sum_by-cons (like_told p) (told.like user page like.Liked) []
    ∙ ap (λ b. (if b then 1 else 0) + 0) (ne_eqb page p (λ same. other (sym same)))
liked-none p page user like.Between other = refl
liked-none p page user (like.Refused verdict) other = refl
liked-none p page user like.Full other = refl
liked-none p page user like.Gone other = refl

-- a page once, or not at all
once : (b : Bool) (page : ℕ) → times page ((if b then page ∷ [] else []) ++ []) ≤ 0 + cond b 1 0
once true page = omega (arith, ap (λ b. cond {A = ℕ} b 1 0) (eq-eqb page page refl))
once false page = omega arith

-- one for a user is at most one for that user, and none for another
liked_for-most : (u page user : ℕ) (answer : LikeAnswer)
    → liked_for u page (deed.Like user page answer) ≤ times u (user ∷ [])
liked_for-most u page user like.Liked = once (user == u) page
liked_for-most u page user like.Between = omega arith
liked_for-most u page user (like.Refused verdict) = omega arith
liked_for-most u page user like.Full = omega arith
liked_for-most u page user like.Gone = omega arith

-- a user's seat is one of the service's
less : (s : SharedService) {c : Client} (user : ℕ) → IsClient s c → home (seats_of s) user < seats_of s
less s user client = mod_below user (seats_of s) (omega (arith, client.some))

-- a like adds one, if it is counted
pub like-adds : (page : ℕ) (s : SharedService) (before after : Client) (user : ℕ) (result : Result LikeAnswer Busy)
    → IsClient s before → IsLogged before (home (seats_of s) user) (deed.Like user page) result after
    → likes_in page after ≡ likes_in page before + counted result
like-adds page s before after user result client logged =
    by-answer result
    (call-adds (liked_by page) s before after _ (deed.Like user page) result client (less s user client) logged)
  where
    by-answer : (r : Result LikeAnswer Busy)
        → MatchResult r (λ told. likes_in page after ≡ likes_in page before + liked_by page (deed.Like user page told))
        (λ busy. likes_in page after ≡ likes_in page before)
        → likes_in page after ≡ likes_in page before + counted r
    by-answer (Ok like.Liked) is = is ∙ ap (λ n. likes_in page before + n) (liked-one page user)
    by-answer (Ok like.Between) is = is
    by-answer (Ok (like.Refused verdict)) is = is
    by-answer (Ok like.Full) is = is
    by-answer (Ok like.Gone) is = is
    by-answer (Err busy) is = omega (arith, is)

-- a like that isn't counted tells none
pub like-likes-none : (page : ℕ) (s : SharedService) (before after : Client) (user : ℕ)
    (result : Result LikeAnswer Busy) → IsClient s before
    → IsLogged before (home (seats_of s) user) (deed.Like user page) result after → counted result ≡ 0
    → LikesNone before after
like-likes-none page s before after user result client logged none = record {
  pages = λ p. adds-none (liked_by p) s before after _ (deed.Like user page) result (no_page p result none) client
      (less s user client) logged;
  each = λ u p. adds-none (liked_for u p) s before after _ (deed.Like user page) result (no_user u p result none) client
      (less s user client) logged;
}
  where
    no_page : (p : ℕ) (r : Result LikeAnswer Busy) → counted r ≡ 0
        → MatchResult r (λ told. liked_by p (deed.Like user page told) ≡ 0) (λ busy. Unit {0})
    no_page p (Ok like.Liked) none = absurd (omega (arith, none))
    no_page p (Ok like.Between) none = refl
    no_page p (Ok (like.Refused verdict)) none = refl
    no_page p (Ok like.Full) none = refl
    no_page p (Ok like.Gone) none = refl
    no_page p (Err busy) none = tt

    no_user : (u p : ℕ) (r : Result LikeAnswer Busy) → counted r ≡ 0
        → MatchResult r (λ told. liked_for u p (deed.Like user page told) ≡ 0) (λ busy. Unit {0})
    no_user u p (Ok like.Liked) none = absurd (omega (arith, none))
    no_user u p (Ok like.Between) none = refl
    no_user u p (Ok (like.Refused verdict)) none = refl
    no_user u p (Ok like.Full) none = refl
    no_user u p (Ok like.Gone) none = refl
    no_user u p (Err busy) none = tt

-- and any like only what it asks
pub like-likes-only : (page : ℕ) (s : SharedService) (before after : Client) (user : ℕ)
    (result : Result LikeAnswer Busy) → IsClient s before
    → IsLogged before (home (seats_of s) user) (deed.Like user page) result after
    → LikesOnly page (user ∷ []) before after
like-likes-only page s before after user result client logged = record {
  others = λ p other. adds-none (liked_by p) s before after _ (deed.Like user page) result (none p other result) client
      (less s user client) logged;
  each = λ u. most u result
      (call-adds (liked_for u page) s before after _ (deed.Like user page) result client (less s user client) logged);
}
  where
    none : (p : ℕ) → p ≢ page → (r : Result LikeAnswer Busy)
        → MatchResult r (λ told. liked_by p (deed.Like user page told) ≡ 0) (λ busy. Unit {0})
    none p other (Ok told) = liked-none p page user told other
    none p other (Err busy) = tt

    most : (u : ℕ) (r : Result LikeAnswer Busy)
        → MatchResult r
        (λ told. likes_for u page after ≡ likes_for u page before + liked_for u page (deed.Like user page told))
        (λ busy. likes_for u page after ≡ likes_for u page before)
        → likes_for u page after ≤ likes_for u page before + times u (user ∷ [])
    most u (Ok told) is = omega (arith, is, liked_for-most u page user told)
    most u (Err busy) is = omega (arith, is)

-- no likes, and then likes
pub none-only : (page : ℕ) (users : List ℕ) (a b c : Client) → LikesNone a b → LikesOnly page users b c
    → LikesOnly page users a c
none-only page users a b c none only = record {
  others = λ p other. only.others p other ∙ none.pages p;
  each = λ user. omega (arith, only.each user, none.each user page);
}

-- likes, and then none
pub only-none : (page : ℕ) (users : List ℕ) (a b c : Client) → LikesOnly page users a b → LikesNone b c
    → LikesOnly page users a c
only-none page users a b c only none = record {
  others = λ p other. none.pages p ∙ only.others p other;
  each = λ user. omega (arith, only.each user, none.each user page);
}

-- no likes are likes for these users
pub no-only : (page : ℕ) (users : List ℕ) (a b : Client) → LikesNone a b → LikesOnly page users a b
no-only page users a b none = record {
  others = λ p other. none.pages p;
  each = λ user. omega (arith, none.each user page);
}

-- likes for a user are added to those for the users before
pub only-more : (page : ℕ) (users : List ℕ) (i : ℕ) (a b c : Client) → i < length users
    → LikesOnly page (take i users) a b → LikesOnly page (get_or users i 0 ∷ []) b c
    → LikesOnly page (take (i + 1) users) a c
only-more page users i a b c below first last = record {
  others = λ p other. last.others p other ∙ first.others p other;
  each = λ u.
      let one = sum_by_more (λ x. cond (x == u) 1 0) users i 0 below in
      omega (arith, first.each u, last.each u, one);
}
