-- What is known of a request that is accepted.
use Rattle.std.proofs.Common.{◌≡◌, ◌+◌, ◌%◌, ◌<◌, ◌≤◌, ◌^◌, ℕ, Bool, List, drop, length, Option, Some, None, true, nat_lt, ap, sym, subst, ◌∙◌, arith, length-drop}
use Rattle.std.proofs.Math.Nat.{mod-mod}
use Rattle.std.proofs.lemmas.Bool.{and_from, eq-eqb, lt-ltb, ltb-true}
use Rattle.std.proofs.lemmas.List.{length_push}
use Rattle.std.proofs.lemmas.List.Elements.{All-drop, All-push}
use Rattle.like_core.specs.declared.log.Logged.{Logged}
use Rattle.like_core.specs.declared.view.WorkerSeatView.{WorkerSeatView}
use Rattle.like_core.specs.OpeningLimits.{service_limits}
use Rattle.like_core.specs.Phase.{IsJoined}
use Rattle.like_core.specs.Post.{has_glanced, has_read, number_of, pages_of}
use Rattle.like_core.specs.declared.page_step.PageStep.{PageStep}
use Rattle.like_seat.specs.declared.seen.Seen.{Seen}
use Rattle.like_core.specs.WorkerState.{RunsSplit, phase_of}
use Rattle.like_core.specs.declared.worker_state.WorkerState.{WorkerState}
use Rattle.like_core.specs.declared.worker_state.WorkerState.TheVariants as state
use Rattle.like_requests.proofs.Verdicts.{accepted-passes}
use Rattle.like_requests.specs.Verdict.{home, verdict_of}
use Rattle.like_requests.specs.declared.verdict.Verdict.TheVariants.{Accepted}
use Rattle.like_seat.specs.StationView.{IsStation, StationView, phase_at, likes_of}
use Rattle.like_tables.specs.Home.{Home}
use Rattle.like_tables.specs.Share.{Share, owns}
use Rattle.like_seat.specs.SlicedLike.{SlicedLike}
use Rattle.like_seat.specs.Steps.{CountsLike, Glances, Reads, liked_last, sliced, stashing, with_addition}
use Rattle.like_tables.specs.UserTable.{with_last}
use Rattle.like_tables.specs.declared.ranked.Ranked.{Ranked}
use Rattle.like_tables.specs.StashView.{StashView}
use Rattle.like_live.specs.declared.asked.Asked.{Asked}
use Rattle.like_live.specs.declared.asked.Found.{Found}
use Rattle.like_live.specs.Calls.{IsAccepted, Stashes, verdict_at}
use Rattle.like_live.specs.Kept.{AreLiveSeatParts}
use Rattle.like_live.specs.LiveView.{HasLastsWithin, IsOwn, LiveView, RanNext, live_of}
use Rattle.like_live.specs.LookRoom.{RoomView}
use Rattle.like_live.proofs.LastPages.{liked-within}

-- the user of a request that is accepted exists, the seat is the user's home, and the page is there
pub passes_at : (s : StationView Asked) (user page : ℕ) → verdict_at s user page ≡ Accepted
    → (user < s.last.share.users) × (home s.last.share.submitters user ≡ s.last.share.worker) × (page < pages_of s.post)
passes_at s user page is =
    let share = s.last.share in
    let tests = accepted-passes share.users share.submitters share.worker user (nat_lt page (pages_of s.post)) is in
    (tests.0, tests.1, ltb-true page (pages_of s.post) tests.2)

-- a user who is accepted is the seat's
pub owned_since : (s : Share) (user : ℕ) (exists : Bool)
    → s.submitters ≡ s.workers
    → verdict_of s.users s.submitters s.worker user exists ≡ Accepted
    → owns s user ≡ true
owned_since s user exists alike is =
    let tests = accepted-passes s.users s.submitters s.worker user exists is in
    let mine : user % s.submitters % s.workers ≡ s.worker =
    ap (λ n. user % s.submitters % n) (sym alike) ∙ mod-mod user s.submitters ∙ tests.1 in
    and_from _ _ (lt-ltb user s.users tests.0) (eq-eqb _ _ mine)

-- a seat that has not counted all its likes may count one more
pub not-full : (s : StationView Asked)
    → IsStation s
    → s.post.opening.limits ≡ service_limits
    → likes_of s < 2 ^ 56
    → likes_of s < s.post.opening.limits.likes
not-full s kept limits some =
    let most : s.post.opening.limits.likes ≡ 2 ^ 56 = ap (λ l. l.likes) limits in
    let few = kept.few in
    omega arith

-- one that has counted 2^56 may count no more
pub is-full : (s : StationView Asked)
    → IsStation s
    → s.post.opening.limits ≡ service_limits
    → 2 ^ 56 ≤ likes_of s
    → likes_of s ≡ s.post.opening.limits.likes
is-full s kept limits all =
    let most : s.post.opening.limits.likes ≡ 2 ^ 56 = ap (λ l. l.likes) limits in
    let few = kept.few in
    omega arith

-- a service lets its seats count 2^56 likes
pub likes-most : (s : StationView Asked) → s.post.opening.limits ≡ service_limits → 2 ^ 56 ≤ s.post.opening.limits.likes
likes-most s limits =
    let most : s.post.opening.limits.likes ≡ 2 ^ 56 = ap (λ l. l.likes) limits in
    omega arith

-- a request that a live seat accepts is accepted at its worker's seat, as one of the user with the rank
pub accepted_in : (v : LiveView) (s t : StationView Asked) (found : StashView Found) (user page : ℕ) (ranked : Ranked)
    → live_of s found ≡ v → t ≡ s
    → IsAccepted v.station user page ranked
    → IsAccepted t ranked.user page ranked
accepted_in v s t found user page ranked is same a =
    subst (λ x. IsAccepted x ranked.user page ranked) (sym (same ∙ ap (λ (w : LiveView). w.station) is))
    (subst (λ u. IsAccepted v.station u page ranked) (sym a.user_is) a)

-- the seat with these additions, slice, likes that went into it, and last likes
abbrev liked_in : StationView Asked → List PageStep → List Logged → List ℕ → List SlicedLike → List (Option ℕ)
    → StationView Asked
liked_in s did logged slice likes lasts = record s {
  post = record s.post { did = did; logged = logged };
  slice = slice;
  sliced = likes;
  last = record s.last { last = lasts };
}

-- a live seat's parts agree as before, where nothing changed but what a like changes and it is a seat still
after-like : (s : StationView Asked) (found : StashView Found) (home : Home) (pages : ℕ) (room : RoomView) (half : ℕ)
    (did : List PageStep) (logged : List Logged) (slice : List ℕ) (likes : List SlicedLike) (lasts : List (Option ℕ))
    → AreLiveSeatParts s found home pages room half
    → HasLastsWithin (pages_of s.post) (record s.last { last = lasts })
    → IsStation (liked_in s did logged slice likes lasts)
    → AreLiveSeatParts (liked_in s did logged slice likes lasts) found home pages room half
after-like s found home pages room half did logged slice likes lasts parts within kept =
    let live = parts.live in
    record {
      live = record {
        station = kept;
        limits = live.limits;
        home = live.home;
        lasts = within;
        split = live.split;
        own = λ k d below. (let o = live.own k d below in record { there = o.there; owned = o.owned });
        asked = live.asked;
        next = live.next;
        room = live.room;
      };
      capacity = parts.capacity;
      home_is = parts.home_is;
      pages_are = parts.pages_are;
      room_is = parts.room_is;
      early = parts.early;
      half_is = parts.half_is;
    }

-- so they do after a like that is counted
pub after-counted : (s t : StationView Asked) (found : StashView Found) (home : Home)
    (pages : ℕ) (room : RoomView) (half user page : ℕ) (old : Option ℕ)
    → AreLiveSeatParts s found home pages room half
    → page < pages_of s.post
    → CountsLike s user page old t
    → IsStation t
    → AreLiveSeatParts t found home pages room half
after-counted s t found home pages room half user page None parts there c kept =
    let lasts = (with_last s.last user page).last in
    let new : StationView Asked = liked_last (sliced s page) user page in
    subst (λ x. AreLiveSeatParts x found home pages room half) (sym c.1)
    (after-like s found home pages room half s.post.did s.post.logged new.slice new.sliced lasts parts
    (liked-within (pages_of s.post) s.last user page parts.live.lasts there)
    (subst (λ x. IsStation x) c.1 kept))
after-counted s t found home pages room half user page (Some count) parts there c kept =
    let lasts = (with_last s.last user page).last in
    let new : StationView Asked = liked_last (with_addition s page count 1 (number_of t.post)) user page in
    subst (λ x. AreLiveSeatParts x found home pages room half) (sym c.1)
    (after-like s found home pages room half new.post.did new.post.logged s.slice s.sliced lasts parts
    (liked-within (pages_of s.post) s.last user page parts.live.lasts there)
    (subst (λ x. IsStation x) c.1 kept))

-- so they do after a seat has some other reads and glances, and has done something else at pages
after-shown : (s t : StationView Asked) (found : StashView Found) (home : Home) (pages : ℕ) (room : RoomView) (half : ℕ)
    (did : List PageStep) (logged : List Logged)
    → AreLiveSeatParts s found home pages room half
    → t ≡ record s { post = record s.post { did = did; logged = logged } }
    → IsStation t
    → AreLiveSeatParts t found home pages room half
after-shown s t found home pages room half did logged parts is kept =
    let live = parts.live in
    subst (λ x. AreLiveSeatParts x found home pages room half) (sym is) (record {
      live = record {
        station = subst (λ x. IsStation x) is kept;
        limits = live.limits;
        home = live.home;
        lasts = live.lasts;
        split = live.split;
        own = λ k d below. (let o = live.own k d below in record { there = o.there; owned = o.owned });
        asked = live.asked;
        next = live.next;
        room = live.room;
      };
      capacity = parts.capacity;
      home_is = parts.home_is;
      pages_are = parts.pages_are;
      room_is = parts.room_is;
      early = parts.early;
      half_is = parts.half_is;
    })

-- as after a read
pub after-read : (s t : StationView Asked) (found : StashView Found) (home : Home) (pages : ℕ) (room : RoomView) (half user page : ℕ)
    (shown : Seen)
    → AreLiveSeatParts s found home pages room half
    → Reads s user page shown t
    → IsStation t
    → AreLiveSeatParts t found home pages room half
after-read s t found home pages room half user page shown parts r kept =
    let now : WorkerSeatView = has_read s.post page shown.count (number_of t.post) in
    after-shown s t found home pages room half now.did now.logged parts r.read kept

-- and after a glance
pub after-glanced : (s t : StationView Asked) (found : StashView Found) (home : Home) (pages : ℕ) (room : RoomView) (half user page : ℕ)
    (shown : Seen)
    → AreLiveSeatParts s found home pages room half
    → Glances s user page shown t
    → IsStation t
    → AreLiveSeatParts t found home pages room half
after-glanced s t found home pages room half user page shown parts r kept =
    let now : WorkerSeatView = has_glanced s.post page r.count (number_of t.post) in
    after-shown s t found home pages room half now.did now.logged parts r.glanced kept

-- who runs a split phase does not run a joined one
not-joined : (s : WorkerState) → RunsSplit s → IsJoined (phase_of s) → ⊥
not-joined (state.Runs k) odd even = omega arith
not-joined (state.Answered k) h even = absurd h
not-joined state.Gone h even = absurd h

-- a live seat's parts agree after one look more was put by, for which there was room
pub after-stashed : (s t : StationView Asked) (found : StashView Found) (home : Home) (pages : ℕ) (room left : RoomView) (half : ℕ) (a : Asked)
    → AreLiveSeatParts s found home pages room half
    → RunsSplit s.post.state → IsOwn s a → a.phase ≡ phase_at s
    → room.left ≡ left.left + 1
    → (0 < left.free → left.free + length s.stash.looks + 1 + half < s.stash.capacity)
    → t ≡ stashing s a → IsStation t
    → AreLiveSeatParts t found home pages left half
after-stashed s t found home pages room left half a parts split own asked one early is kept =
    let live = parts.live in
    let more = length_push s.stash.looks a in
    subst (λ x. AreLiveSeatParts x found home pages left half) (sym is) (record {
      live = record {
        station = subst (λ x. IsStation x) is kept;
        limits = live.limits;
        home = live.home;
        lasts = live.lasts;
        split = λ joined. absurd (not-joined s.post.state split joined);
        own = All-push (IsOwn (stashing s a)) s.stash.looks a
            (λ k d below. (let o = live.own k d below in record { there = o.there; owned = o.owned }))
            (record { there = own.there; owned = own.owned });
        asked = All-push (λ (x : Asked). x.phase ≡ phase_at s) s.stash.looks a live.asked asked;
        next = live.next;
        room = omega (arith, parts.room_is, more, one);
      };
      capacity = parts.capacity;
      home_is = parts.home_is;
      pages_are = parts.pages_are;
      room_is = omega (arith, parts.room_is, more, one);
      early = λ some. omega (arith, early some, more);
      half_is = parts.half_is;
    })

-- and the look is put by
pub stashes : (v : LiveView) (s t : StationView Asked) (found : StashView Found) (home : Home) (pages : ℕ) (room : RoomView) (half : ℕ) (a : Asked)
    → AreLiveSeatParts s found home pages room half
    → live_of s found ≡ v → 0 < room.left → t ≡ stashing s a
    → Stashes v a (live_of t found)
stashes v s t found home pages room half a parts same some is =
    subst (λ (w : LiveView). Stashes w a (live_of t found)) same (record {
      room = omega (arith, parts.room_is, some);
      is = ap (λ (x : StationView Asked). live_of x found) is;
    })

-- a live seat's parts agree after the first of the found looks was taken, which leaves room for one more if there was one
pub after-taken : (s : StationView Asked) (found now : StashView Found) (home : Home) (pages : ℕ) (room left : RoomView) (half : ℕ)
    → AreLiveSeatParts s found home pages room half
    → now ≡ record found { looks = drop 1 found.looks }
    → left.left + length (drop 1 found.looks) ≡ room.left + length found.looks → left.free ≡ room.free
    → AreLiveSeatParts s now home pages left half
after-taken s found now home pages room left half parts is more free =
    let live = parts.live in
    subst (λ x. AreLiveSeatParts s x home pages left half) (sym is) (record {
      live = record {
        station = live.station;
        limits = live.limits;
        home = live.home;
        lasts = live.lasts;
        split = live.split;
        own = live.own;
        asked = live.asked;
        next = All-drop RanNext 1 found.looks live.next;
        room = omega (arith, live.room, length-drop 1 found.looks);
      };
      capacity = parts.capacity;
      home_is = parts.home_is;
      pages_are = parts.pages_are;
      room_is = omega (arith, parts.room_is, more);
      early = λ some. omega (arith, parts.early (subst (λ n. 0 < n) free some), free);
      half_is = parts.half_is;
    })
