-- What a live seat keeps when it looks at the phase word.
use Rattle.std.proofs.Common.{◌≡◌, ℕ, ◌+◌, ◌⊎◌, inl, inr, Bool, true, false, List, [], ◌++◌, cond, length, refl, ap, sym, ◌∙◌, subst, arith}
use Rattle.std.specs.List.{All}
use Rattle.std.proofs.lemmas.List.{length-append, length-map}
use Rattle.std.proofs.lemmas.List.Elements.{All-nil}
use Rattle.like_core.specs.declared.log.Logged.{Logged}
use Rattle.like_core.specs.declared.opening.Opening.{Opening}
use Rattle.like_core.specs.declared.sight.Sight.{Sight}
use Rattle.like_core.specs.declared.worker_state.WorkerState.{WorkerState}
use Rattle.like_core.specs.declared.worker_state.WorkerState.TheVariants as state
use Rattle.like_core.specs.Phase.{IsJoined, IsSplit}
use Rattle.like_core.specs.Post.{answered, number_of, pages_of}
use Rattle.like_core.specs.WorkerState.{IsRunning, IsSightOf, phase_of, seen}
use Rattle.like_core.specs.declared.view.WorkerSeatView.{WorkerSeatView}
use Rattle.like_seat.specs.Merge.{MergesAndReports, merged}
use Rattle.like_seat.specs.StationView.{IsStation, StationView, phase_at}
use Rattle.like_seat.specs.Steps.{ComesBack, LooksAndEnters}
use Rattle.like_tables.specs.Home.{Home}
use Rattle.like_tables.specs.Share.{Share}
use Rattle.like_tables.specs.StashView.{StashView}
use Rattle.like_live.specs.declared.asked.Asked.{Asked}
use Rattle.like_live.specs.declared.asked.Found.{Found}
use Rattle.like_live.specs.Kept.{AreLiveSeatParts, HasLooked}
use Rattle.like_live.specs.LiveView.{HasLastsWithin, IsLive, IsOwn, LiveView, RanNext, live_of, room_of, waiting, with_station}
use Rattle.like_live.specs.LookRoom.{RoomView}
use Rattle.like_live.specs.Moves.{FindsAll}
use Rattle.like_live.proofs.Moving.{Leaves, Leaves-both, Leaves-looked, after-leaves}

-- a seat that is to wait stays in its phase
waits-phase : (w : WorkerState) (sight : Sight) → IsSightOf w sight → sight.waits ≡ true
    → phase_of (seen w sight) ≡ phase_of w
waits-phase (state.Runs k) sight is waits = refl
waits-phase (state.Answered k) sight is waits =
    ap (λ (b : Bool). phase_of (cond b (state.Answered k) (state.Runs (k + 1)))) waits
waits-phase state.Gone sight is waits = absurd is

-- one that is not to wait stays in its phase or enters the next
on-phase : (w : WorkerState) (sight : Sight) → IsSightOf w sight → sight.waits ≡ false
    → (phase_of (seen w sight) ≡ phase_of w) ⊎ (phase_of (seen w sight) ≡ phase_of w + 1)
on-phase (state.Runs k) sight is on = inl refl
on-phase (state.Answered k) sight is on =
    inr (ap (λ (b : Bool). phase_of (cond b (state.Answered k) (state.Runs (k + 1)))) on)
on-phase state.Gone sight is on = absurd is

-- all is true of the elements of a list that has none
pub all-none : {X : Type 0} (P : X → Type 0) (xs : List X) → xs ≡ [] → All P xs
all-none P xs none = subst (All P) (sym none) (All-nil P)

-- a live seat's parts agree after a look by which it stays in its phase
pub after-looked : (s u : StationView Asked) (found : StashView Found) (home : Home) (pages : ℕ) (room : RoomView) (half : ℕ) (sight : Sight)
    → AreLiveSeatParts s found home pages room half
    → LooksAndEnters s sight u → phase_at u ≡ phase_at s
    → AreLiveSeatParts u found home pages room half
after-looked s u found home pages room half sight parts looks same =
    let live = parts.live in
    let is = looks.looks.1 in
    let phase : phase_of (seen s.post.state sight) ≡ phase_at s =
    ap (λ (x : StationView Asked). phase_at x) (sym is) ∙ same in
    subst (λ x. AreLiveSeatParts x found home pages room half) (sym is) (record {
      live = record {
        station = subst (λ x. IsStation x) is looks.station;
        limits = live.limits;
        home = live.home;
        lasts = live.lasts;
        split = λ joined. live.split (subst IsJoined phase joined);
        own = λ k d below. (let o = live.own k d below in record { there = o.there; owned = o.owned });
        asked = λ k d below. live.asked k d below ∙ sym phase;
        next = live.next;
        room = live.room;
      };
      capacity = parts.capacity;
      home_is = parts.home_is;
      pages_are = parts.pages_are;
      room_is = parts.room_is;
      early = parts.early;
      half_is = parts.half_is;
    })

-- so they do if it is to wait
pub after-waits : (s u : StationView Asked) (found : StashView Found) (home : Home) (pages : ℕ) (room : RoomView) (half : ℕ) (sight : Sight)
    → AreLiveSeatParts s found home pages room half
    → LooksAndEnters s sight u → sight.waits ≡ true
    → AreLiveSeatParts u found home pages room half
after-waits s u found home pages room half sight parts looks waits =
    after-looked s u found home pages room half sight parts looks
    (ap (λ (x : StationView Asked). phase_at x) looks.looks.1 ∙ waits-phase s.post.state sight looks.sight waits)

-- if it is not, it can do its phase work
pub has-looked : (s u : StationView Asked) (found : StashView Found) (home : Home) (pages : ℕ) (room : RoomView) (half : ℕ) (sight : Sight)
    → AreLiveSeatParts s found home pages room half
    → LooksAndEnters s sight u → sight.waits ≡ false
    → HasLooked u found
has-looked s u found home pages room half sight parts looks on =
    let live = parts.live in
    let is = looks.looks.1 in
    let phase = phase_of (seen s.post.state sight) in
    let at = on-phase s.post.state sight looks.sight on in
    subst (λ x. HasLooked x found) (sym is) (record {
      station = subst (λ x. IsStation x) is looks.station;
      runs = subst (λ (x : StationView Asked). IsRunning x.post.state) is (looks.runs on);
      limits = live.limits;
      home = live.home;
      lasts = live.lasts;
      own = λ k d below. (let o = live.own k d below in record { there = o.there; owned = o.owned });
      asked = λ odd. elim at [
        | inl same ↦ λ k d below. live.asked k d below ∙ sym same
        | inr next ↦ all-none (λ (a : Asked). a.phase ≡ phase) s.stash.looks (live.split (omega (arith, odd, next)))
      ];
      before = λ even. elim at [
        | inl same ↦
            all-none (λ (a : Asked). phase ≡ a.phase + 1) s.stash.looks (live.split (subst IsJoined same even))
        | inr next ↦ λ k d below. next ∙ ap (λ n. n + 1) (sym (live.asked k d below))
      ];
      next = live.next;
      capacity = parts.capacity;
      room = live.room;
    })

-- in a split phase it is live
pub looked-live : (s : StationView Asked) (found : StashView Found)
    → HasLooked s found
    → IsSplit (phase_at s)
    → IsLive (live_of s found)
looked-live s found looked odd = record {
  station = looked.station;
  limits = looked.limits;
  home = looked.home;
  lasts = looked.lasts;
  split = λ even. absurd (omega (arith, odd, even));
  own = looked.own;
  asked = looked.asked odd;
  next = looked.next;
  room = looked.room;
}

-- and stays so when it merges its slice and reports
pub merged-live : (s t : StationView Asked) (found : StashView Found)
    → HasLooked s found
    → IsSplit (phase_at s)
    → MergesAndReports s t → IsStation t
    → IsLive (live_of t found)
merged-live s t found looked odd m kept =
    let live = looked-live s found looked odd in
    let adds = m.1.0.0 in
    let logged : List Logged = m.0.post.logged in
    let is : t ≡ record (merged s adds logged) { post = answered (merged s adds logged).post } =
    m.1.1 ∙ ap (λ (x : StationView Asked). record x { post = answered x.post }) m.1.0.1.1 in
    subst (λ (x : StationView Asked). IsLive (live_of x found)) (sym is) (record {
      station = subst (λ (x : StationView Asked). IsStation x) is kept;
      limits = live.limits;
      home = live.home;
      lasts = live.lasts;
      split = λ even. absurd (omega (arith, odd, even));
      own = λ k d below. (let o = live.own k d below in record { there = o.there; owned = o.owned });
      asked = live.asked;
      next = live.next;
      room = live.room;
    })

-- in a joined one it is live once all that waited is found
pub found-live : (s t : StationView Asked) (found now : StashView Found)
    → HasLooked s found
    → FindsAll (live_of s found) (live_of t now)
    → All RanNext now.looks → IsStation t
    → IsLive (live_of t now)
found-live s t found now looked finds next kept =
    let is = finds.rest in
    let none : t.stash.looks ≡ [] = ap (λ (v : LiveView). waiting v) is in
    let same : t.stash.capacity ≡ s.stash.capacity = ap (λ (v : LiveView). room_of v) is in
    let more : now.looks ≡ found.looks ++ finds.found = ap (λ (v : LiveView). v.found) is in
    let asked : Found → Asked = λ f. f.asked in
    record {
      station = kept;
      limits = ap (λ (v : LiveView). v.station.post.opening.limits) is ∙ looked.limits;
      home = subst (λ (x : Share). x.submitters ≡ x.workers) (sym (ap (λ (v : LiveView). v.station.last.share) is)) looked.home;
      lasts = subst (λ (v : LiveView). HasLastsWithin (pages_of v.station.post) v.station.last) (sym is) looked.lasts;
      split = λ joined. none;
      own = all-none (IsOwn t) t.stash.looks none;
      asked = all-none (λ (a : Asked). a.phase ≡ phase_at t) t.stash.looks none;
      next = next;
      room =
          omega (
            arith,
            looked.room,
            same,
            ap (λ (xs : List Asked). length xs) none,
            ap (λ (xs : List Found). length xs) more,
            length-append found.looks finds.found,
            ap (λ (xs : List Asked). length xs) finds.order,
            length-map finds.found asked,
          );
    }

-- and it stays live in another state of its post
pub stopped-live : (v : LiveView) (post : WorkerSeatView)
    → IsLive v
    → waiting v ≡ []
    → post.opening ≡ v.station.post.opening
    → IsStation (record v.station { post = post })
    → IsLive (with_station v (record v.station { post = post }))
stopped-live v post live none same kept =
    let s : StationView Asked = record v.station { post = post } in
    record {
      station = kept;
      limits = ap (λ (o : Opening). o.limits) same ∙ live.limits;
      home = live.home;
      lasts = subst (λ (o : Opening). HasLastsWithin (length o.marks) v.station.last) (sym same) live.lasts;
      split = λ joined. none;
      own = all-none (IsOwn s) v.station.stash.looks none;
      asked = all-none (λ (a : Asked). a.phase ≡ phase_at s) v.station.stash.looks none;
      next = live.next;
      room = live.room;
    }

-- and its parts agree after its phase work
pub after-works : (s u t : StationView Asked) (found now : StashView Found) (home : Home) (pages : ℕ) (room : RoomView) (half : ℕ) (sight : Sight)
    → AreLiveSeatParts s found home pages room half
    → LooksAndEnters s sight u
    → Leaves (live_of u found) (live_of t now)
    → IsLive (live_of t now)
    → now.capacity ≡ found.capacity
    → AreLiveSeatParts t now home pages room half
after-works s u t found now home pages room half sight parts looks leaves live capacity =
    let v = live_of s found in
    after-leaves s t found now home pages room half parts
    (Leaves-both v (live_of u found) (live_of t now)
    (subst (λ x. Leaves v (live_of x found)) (sym looks.looks.1) (Leaves-looked v sight looks.looks.0 (number_of u.post))) leaves)
    live capacity

-- a live seat's parts agree after it came back
pub after-back : (s u : StationView Asked) (found : StashView Found) (home : Home) (pages : ℕ) (room : RoomView) (half : ℕ)
    → AreLiveSeatParts s found home pages room half
    → s.post.state ≡ state.Gone → ComesBack s u → IsStation u
    → AreLiveSeatParts u found home pages room half
after-back s u found home pages room half parts gone back kept =
    let live = parts.live in
    let is = back.1.1 in
    let none = live.split (subst (λ (w : WorkerState). IsJoined (phase_of w)) (sym gone) refl) in
    subst (λ x. AreLiveSeatParts x found home pages room half) (sym is) (record {
      live = record {
        station = subst (λ x. IsStation x) is kept;
        limits = live.limits;
        home = live.home;
        lasts = live.lasts;
        split = λ joined. none;
        own = λ k d below. (let o = live.own k d below in record { there = o.there; owned = o.owned });
        asked = all-none (λ (a : Asked). a.phase ≡ back.0) s.stash.looks none;
        next = live.next;
        room = live.room;
      };
      capacity = parts.capacity;
      home_is = parts.home_is;
      pages_are = parts.pages_are;
      room_is = parts.room_is;
      early = parts.early;
      half_is = parts.half_is;
    })
