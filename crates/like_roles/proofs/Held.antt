-- What a worker holds, and that it stays sound.
use Rattle.std.proofs.Common.{◌≡◌, ◌≢◌, ℕ, ◌+◌, ◌-◌, ◌*◌, ◌%◌, ◌<◌, ◌≤◌, Bool, true, false, is_some, List, [], ◌∷◌, ◌++◌, length, drop, get_or, set, sum, Some, None, refl, ap, sym, ◌∙◌, arith, subst, true≢false, vec_len, vec_capacity}
use Rattle.std.proofs.lemmas.List.{length-append, length-set}
use Rattle.std.proofs.lemmas.List.Sums.{sum_by-set}
use Rattle.std.proofs.Math.Nat.{add-mul-mod_self_left, mod-eq_of_lt, mod-lt}
use Rattle.std.proofs.lemmas.List.Elements.{All-drop, All-append, All-cons}
use Rattle.std.specs.List.{All, slice_get}
use Rattle.like_requests.specs.declared.request.Numbered.{Numbered}
use Rattle.like_requests.specs.Setup.{IsThere}
use Rattle.like_core.specs.declared.opening.Opening.{Opening}
use Rattle.like_core.specs.Phase.{IsJoined, IsSplit, is_marked}
use Rattle.like_core.specs.PhaseMasks.{mask_of}
use Rattle.like_core.specs.Post.{is_split_at, pages_of}
use Rattle.like_core.specs.WorkerState.{IsRunning, RunsJoined, RunsSplit, phase_of}
use Rattle.like_core.specs.declared.worker_state.WorkerState.{WorkerState}
use Rattle.like_core.proofs.core.InPhase.{split-IsSplit}
use Rattle.like_core.specs.declared.view.WorkerSeatView.{WorkerSeatView}
use Rattle.like_tables.specs.Share.{submitter_of}
use Rattle.like_tables.specs.declared.held.Held.{Held}
use Rattle.like_tables.specs.StashView.{StashView}
use Rattle.like_seat.specs.StationView.{IsStation, StationView, likes_of}
use Rattle.like_seat.specs.Steps.{stashing, without_first}
use Rattle.like_roles.specs.declared.worker.ledger.Ledger.{Ledger}
use Rattle.like_roles.specs.worker.WorkerView.{waits_at}
use Rattle.like_promises.specs.Order.{must_wait}
use Rattle.like_promises.specs.Store.{Ask, like, look, refuse}
use Rattle.like_roles.specs.declared.worker.judged.Judged.{Judged}
use Rattle.like_roles.specs.worker.Judged.{IsJudged}
use Rattle.like_roles.specs.worker.Ledger.{CanServe, HasNotedTaken, HasRoomFor, HasRoomForOne, HasRoomToNote, HasSubmitters, IsOwnOf, IsSettled, IsSound, IsTried, view_of}
use Rattle.like_roles.specs.worker.Turns.{trying, with_taken}
use Rattle.like_core.proofs.Lists.{first_of}
use Rattle.like_roles.proofs.InBlocks.{runs-phase, runs-weaker}

-- a request that the worker of a station may hold
abbrev pub IsOwn : StationView Held → Held → Type 0
IsOwn s h = IsOwnOf s.post s.last.share h

-- there is room to take and to run all that its worker has yet to run
abbrev pub HasRoom : StationView Held → Ledger → Type 0
HasRoom s d = HasRoomFor (likes_of s) (sum s.slice) (length s.stash.looks) d

-- what may be stashed stays so in the same share, at a board with the same marks
pub AreOwn-moved : (s t : StationView Held) (hs : List Held)
    → t.last.share ≡ s.last.share
    → t.post.opening.marks ≡ s.post.opening.marks
    → All (IsOwn s) hs
    → All (IsOwn t) hs
AreOwn-moved s t hs share marks own = λ i y k. let o = own i y k in record {
  served = rw share o.served;
  there = rw marks o.there;
}

-- a worker stays settled where its station made a step in the same share and at the same board, it holds only what it
-- may, and there is room
pub settled-after : (s t : StationView Held) (d e : Ledger)
    → IsSettled s d
    → IsStation t
    → t.post.opening.limits ≡ s.post.opening.limits
    → t.post.last ≡ s.post.last
    → t.last.share ≡ s.last.share
    → All (IsOwn t) t.stash.looks
    → HasRoom t e
    → e ≡ record d { adds = e.adds } → IsSettled t e
settled-after s t d e is station limits last share own room rest =
    let ranks : HasSubmitters t.last.share d = subst (λ x. HasSubmitters x d) (sym share) is.sound.ranks in
    record {
      sound = record {
        station = station;
        run = limits ∙ is.sound.run;
        started = ap (λ (x : Ledger). x.started) rest ∙ (is.sound.started ∙ ap is_some (sym last));
        ranks = subst (HasSubmitters t.last.share) (sym rest)
            (record {
              is_worker =
                  ranks.is_worker;
              sized = ranks.sized;
              submitters = ranks.submitters;
              cursor = ranks.cursor;
            });
        room = room;
        stashed = own;
        tried = λ rank p. absurd (cc (p, ap (λ (x : Ledger). x.pending) rest, is.untried));
      };
      untried = ap (λ (x : Ledger). x.pending) rest ∙ is.untried;
    }

-- so it does where it holds the same
pub settled-still : (s t now : StationView Held) (d e : Ledger)
    → IsSettled s d
    → IsStation t
    → t ≡ now
    → now.post.opening ≡ s.post.opening
    → now.post.last ≡ s.post.last
    → now.last.share ≡ s.last.share
    → now.stash ≡ s.stash
    → HasRoom now (record d { adds = e.adds })
    → e ≡ record d { adds = e.adds }
    → IsSettled t e
settled-still s t now d e is station same opening last share stashed room rest =
    let marks = ap (λ (z : Opening). z.marks) opening in
    let own = AreOwn-moved s now s.stash.looks share marks is.sound.stashed in
    subst (λ x. IsSettled x e) (sym same)
    (settled-after s now d e is (subst IsStation same station) (ap (λ (z : Opening). z.limits) opening) last share
    (subst (λ (w : StashView Held). All (IsOwn now) w.looks) (sym stashed) own) (subst (HasRoom now) (sym rest) room) rest)

-- a worker stays sound where its post answers a phase or leaves, which changes the post's state, and no more that is asked of it
pub sound-stopped : (s t : StationView Held) (d : Ledger) (w : WorkerState)
    → IsSettled s d
    → IsStation t
    → t ≡ record s { post = record s.post { state = w; slots = [] } }
    → IsSound t d
sound-stopped s t d w is station e =
    let now = record s { post = record s.post { state = w; slots = [] } } in
    (settled-still s t now d d is station e refl refl refl refl is.sound.room refl).sound

-- in a joined phase the submitter at a rank may be tried where nothing is stashed
pub tried-joined : (s : StationView Held) (d : Ledger) (rank : ℕ)
    → RunsJoined s.post.state
    → s.stash.looks ≡ []
    → rank < length d.ended.items
    → IsTried s d rank
tried-joined s d rank joined empty inside =
    let at = runs-phase IsJoined s.post.state joined in
    record {
      there = omega (arith, d.ended.ok.0, inside);
      running = runs-weaker IsJoined (λ _. Unit {0}) s.post.state (λ k is. tt) joined;
      joined = λ _. empty;
      split = λ split. absurd (omega (arith, at, split));
    }

-- and in a split one where there is room for a look that waits
pub tried-split : (s : StationView Held) (d : Ledger) (rank : ℕ)
    → IsStation s
    → RunsSplit s.post.state
    → length s.stash.looks ≢ s.stash.capacity
    → rank < length d.ended.items
    → IsTried s d rank
tried-split s d rank station split room inside =
    let at = runs-phase IsSplit s.post.state split in
    record {
      there = omega (arith, d.ended.ok.0, inside);
      running = runs-weaker IsSplit (λ _. Unit {0}) s.post.state (λ k is. tt) split;
      joined = λ joined. absurd (omega (arith, at, joined));
      split = λ _. omega (arith, station.waiting.within, room);
    }

-- a worker that tries a submitter that it may try stays sound
pub sound-tried : (s : StationView Held) (d e : Ledger) (rank : ℕ)
    → IsSettled s d
    → IsTried s d rank
    → e ≡ record d { pending = Some rank; cursor = (rank + 1) % length d.ended.items }
    → IsSound s e
sound-tried s d e rank is at rest =
    let ranks = is.sound.ranks in
    let room = is.sound.room in
    let next : (rank + 1) % length d.ended.items < length d.ended.items =
    mod-lt (rank + 1) (omega (arith, d.ended.ok.0, at.there)) in
    subst (IsSound s) (sym rest) (record {
      station = is.sound.station;
      run = is.sound.run;
      started = is.sound.started;
      ranks = record {
        is_worker = ranks.is_worker;
        sized = ranks.sized;
        submitters = ranks.submitters;
        cursor = omega (arith, d.ended.ok.0, next);
      };
      room = record {
        taken = room.taken;
        ran = room.ran;
        few_ran = room.few_ran;
        adds = room.adds;
        few = room.few;
      };
      stashed = is.sound.stashed;
      tried = λ other tries.
          let same : rank ≡ other = cc tries in
          subst
          (λ k. IsTried s (record d { pending = Some rank; cursor = (rank + 1) % length d.ended.items }) k)
          same (record { there = at.there; running = at.running; joined = at.joined; split = at.split });
    })

-- and one that tries nobody any more is settled, also where it took an end mark
pub settled-untried : (s : StationView Held) (d e : Ledger)
    → IsSound s d
    → vec_len e.ended ≡ vec_len d.ended
    → e ≡ record d { pending = None; ended = e.ended }
    → IsSettled s e
settled-untried s d e is sized rest =
    let ranks = is.ranks in
    let room = is.room in
    subst (IsSettled s) (sym rest) (record {
      sound = record {
        station = is.station;
        run = is.run;
        started = is.started;
        ranks = record {
          is_worker = ranks.is_worker;
          sized = ranks.sized ∙ sym sized;
          submitters = λ rank inside. ranks.submitters rank (omega (arith, inside, sized));
          cursor = omega (arith, ranks.cursor, sized);
        };
        room = record {
          taken = room.taken;
          ran = room.ran;
          few_ran = room.few_ran;
          adds = room.adds;
          few = room.few;
        };
        stashed = is.stashed;
        tried = λ rank tries. cc tries;
      };
      untried = refl;
    })

-- a worker stays settled that noted a request that it ran
pub settled-ran : (s : StationView Held) (d e : Ledger)
    → IsSettled s d
    → HasRoomToNote s d
    → vec_len e.ran ≡ vec_len d.ran + 1
    → vec_capacity e.ran ≡ vec_capacity d.ran
    → e ≡ record d { ran = e.ran }
    → IsSettled s e
settled-ran s d e is one len capacity rest =
    let ranks = is.sound.ranks in
    let room = is.sound.room in
    subst (IsSettled s) (sym rest) (record {
      sound = record {
        station = is.sound.station;
        run = is.sound.run;
        started = is.sound.started;
        ranks = record {
          is_worker = ranks.is_worker;
          sized = ranks.sized;
          submitters = ranks.submitters;
          cursor = ranks.cursor;
        };
        room = record {
          taken = room.taken;
          ran = omega (arith, one, len, capacity);
          few_ran = omega (arith, room.few_ran, capacity);
          adds = room.adds;
          few = room.few;
        };
        stashed = is.sound.stashed;
        tried = λ rank tries. absurd (cc (is.untried, tries));
      };
      untried = is.untried;
    })

-- the first stashed request is taken out, which leaves room to run it
pub settled-pop : (s t : StationView Held) (d : Ledger) (first : Held)
    → IsSettled s d
    → IsStation t
    → t ≡ without_first s
    → slice_get s.stash.looks 0 ≡ Some first
    → IsSettled t d × HasRoomForOne t d × IsOwn t first
settled-pop s t d first is station e some =
    let list = first_of s.stash.looks first some in
    let longer : length s.stash.looks ≡ length (drop 1 s.stash.looks) + 1 = ap length list ∙ omega arith in
    let stashed : t.stash.looks ≡ drop 1 s.stash.looks = ap (λ (x : StationView Held). x.stash.looks) e in
    let share = ap (λ (x : StationView Held). x.last.share) e in
    let marks = ap (λ (x : StationView Held). x.post.opening.marks) e in
    let added = ap (λ (x : StationView Held). x.post) e in
    let slice = ap (λ (x : StationView Held). x.slice) e in
    let room = is.sound.room in
    let own = AreOwn-moved s t s.stash.looks share marks is.sound.stashed in
    let first_own = subst (λ xs. All (IsOwn t) xs) list own in (
      settled-after s t d d is station (ap (λ (x : StationView Held). x.post.opening.limits) e)
          (ap (λ (x : StationView Held). x.post.last) e) share
          (subst (λ xs. All (IsOwn t) xs) (sym stashed) (All-drop (IsOwn t) 1 s.stash.looks own))
          (rw (stashed, added, slice) (record {
            taken = room.taken;
            ran = omega (arith, room.ran, longer);
            few_ran = room.few_ran;
            adds = λ n. omega (arith, room.adds n, longer);
            few = omega (arith, room.few, longer);
          })) refl,
      rw (stashed, added, slice)
          (record {
            ran =
                omega (arith, room.ran, longer);
            adds =
                λ n. omega (arith, room.adds n, longer);
            few = omega (arith, room.few, longer);
          }),
      first_own 0 first (omega arith),
    )

-- a request is put behind those that are stashed
pub settled-push : (s t : StationView Held) (d : Ledger) (h : Held)
    → IsSettled s d
    → HasRoomForOne s d
    → IsOwn s h
    → IsStation t
    → t ≡ stashing s h
    → IsSettled t d
settled-push s t d h is room own station e =
    let stashed : t.stash.looks ≡ s.stash.looks ++ h ∷ [] = ap (λ (x : StationView Held). x.stash.looks) e in
    let longer : length (s.stash.looks ++ h ∷ []) ≡ length s.stash.looks + 1 = length-append s.stash.looks (h ∷ []) in
    let share = ap (λ (x : StationView Held). x.last.share) e in
    let marks = ap (λ (x : StationView Held). x.post.opening.marks) e in
    let added = ap (λ (x : StationView Held). x.post) e in
    let slice = ap (λ (x : StationView Held). x.slice) e in
    let all = All-append (IsOwn s) s.stash.looks (h ∷ []) is.sound.stashed
    (All-cons (IsOwn s) h [] own (λ i y k. absurd (omega arith))) in
    settled-after s t d d is station (ap (λ (x : StationView Held). x.post.opening.limits) e)
    (ap (λ (x : StationView Held). x.post.last) e) share
    (subst (λ xs. All (IsOwn t) xs) (sym stashed) (AreOwn-moved s t (s.stash.looks ++ h ∷ []) share marks all))
    (rw (stashed, added, slice) (record {
      taken = is.sound.room.taken;
      ran = omega (arith, room.ran, longer);
      few_ran = is.sound.room.few_ran;
      adds = λ n. omega (arith, room.adds n, longer);
      few = omega (arith, room.few, longer);
    })) refl

-- one request less is left
pub sum-less : (xs : List ℕ) (i : ℕ) → i < length xs → 1 ≤ get_or xs i 0 → sum (set xs i (get_or xs i 0 - 1)) + 1 ≡ sum xs
sum-less xs i h some = omega (arith, sum_by-set (λ x. x) xs i (get_or xs i 0 - 1) 0 h)

-- a request was taken from the submitter at a rank
pub settled-taken : (s : StationView Held) (d n : Ledger) (phase rank : ℕ) (h : Held)
    → IsSound s d
    → d.pending ≡ None
    → rank < vec_len d.ended
    → 1 ≤ get_or d.left.items rank 0
    → HasNotedTaken d n phase rank h
    → IsSettled s n × HasRoomForOne s n
settled-taken s d n phase rank h is none there some taken =
    let here : rank < length d.left.items = omega (arith, there, is.ranks.sized, d.left.ok.0) in
    let less : sum n.left.items + 1 ≡ sum d.left.items = rw taken.left (sum-less d.left.items rank here some) in
    let sized : length n.left.items ≡ length d.left.items =
    ap length taken.left ∙ length-set d.left.items rank (get_or d.left.items rank 0 - 1) in
    subst (λ x. IsSettled s x × HasRoomForOne s x) (sym taken.rest) (
      record {
        sound = record {
          station = is.station;
          run = is.run;
          started = is.started;
          ranks = record {
            is_worker =
                is.ranks.is_worker;
            sized =
                omega (arith, n.left.ok.0, d.left.ok.0, is.ranks.sized);
            submitters =
                is.ranks.submitters;
            cursor = is.ranks.cursor;
          };
          room = record {
            taken =
                omega (arith, is.room.taken, taken.len, taken.capacity);
            ran =
                omega (arith, is.room.ran);
            few_ran =
                is.room.few_ran;
            adds = λ n. omega (arith, is.room.adds n);
            few = omega (arith, is.room.few);
          };
          stashed = is.stashed;
          tried = λ p t. cc (none, t);
        };
        untried = none;
      },
      record {
        ran = omega (arith, is.room.ran);
        adds =
            λ n. omega (arith, is.room.adds n);
        few = omega (arith, is.room.few);
      },
    )

-- a request that waits was taken in a split phase
pub waits-split : (post : WorkerSeatView) (a : Ask) (waits : Bool)
    → waits ≡ must_wait (is_split_at post) a
    → waits ≡ true
    → IsSplit (phase_of post.state)
waits-split post (like user page) waits is h = absurd (true≢false (sym h ∙ is))
waits-split post (refuse why) waits is h = absurd (true≢false (sym h ∙ is))
waits-split post (look user page) waits is h =
    split-IsSplit post.opening.limits.hot (is_marked post.opening.marks) (mask_of post.masks) (phase_of post.state) page
    (sym is ∙ h)

-- the submitter at a rank is one of the worker's
pub rank-served : (worker workers rank : ℕ) → worker < workers → (worker + workers * rank) % workers ≡ worker
rank-served worker workers rank h = add-mul-mod_self_left worker workers rank ∙ mod-eq_of_lt h

-- what was taken from the submitter at a rank is the worker's
pub IsOwn-taken : (s : StationView Held) (rank submitter : ℕ) (ask : Numbered)
    → s.last.share.worker < s.last.share.workers
    → submitter ≡ submitter_of s.last.share.workers s.last.share.worker rank
    → IsThere (pages_of s.post) ask.request.page
    → IsOwn s (record { submitter = submitter; ask = ask })
IsOwn-taken s rank submitter ask is_worker at there =
    let t = s.last.share in
    record {
      served = ap (λ y. y % t.workers) at ∙ rank-served t.worker t.workers rank is_worker;
      there = there;
    }

-- and may be answered now, where it need not wait
pub CanServe-taken : (s : StationView Held) (rank : ℕ) (h : Held) (j : Judged) (waits : Bool)
    → s.last.share.worker < s.last.share.workers
    → h.submitter ≡ submitter_of s.last.share.workers s.last.share.worker rank
    → IsThere (pages_of s.post) h.ask.request.page
    → IsJudged s.last.share h j
    → IsRunning s.post.state
    → waits ≡ waits_at s.post s.last.share h.submitter h.ask.request
    → waits ≡ false
    → CanServe s h j
CanServe-taken s rank h j waits is_worker at there judged run is prompt = record {
  running = run;
  own = IsOwn-taken s rank h.submitter h.ask is_worker at there;
  judged = judged;
  prompt = sym is ∙ prompt;
}

-- a ledger that tries the submitter at a rank, after a look for stashed requests that found none
pub view_of-tried : (s t : StationView Held) (d e : Ledger) (rank : ℕ)
    → e ≡ record d { pending = Some rank; cursor = (rank + 1) % length d.ended.items }
    → t ≡ s
    → view_of t e ≡ trying (view_of s d) rank
view_of-tried s t d e rank is same = (λ m. view_of (same m) (is m))

-- and one that took a request from the submitter at a rank
pub view_of-taken : (s : StationView Held) (d n : Ledger) (rank phase submitter : ℕ) (ask : Numbered)
    → HasNotedTaken d n phase rank (record { submitter = submitter; ask = ask })
    → phase ≡ phase_of s.post.state
    → submitter ≡ submitter_of s.last.share.workers s.last.share.worker rank
    → view_of s n ≡ with_taken (view_of s d) rank ask
view_of-taken s d n rank phase submitter ask noted phase_is submitter_is =
    ap (view_of s) noted.rest
    ∙ (λ m. record (view_of s d) { left = noted.left m; taken = noted.taken m })
    ∙ (λ m. record (view_of s d) {
      left = set d.left.items rank (get_or d.left.items rank 0 - 1);
      taken =
          d.taken.items ++ record { phase = phase_is m; submitter = submitter_is m; number = ask.number } ∷ [];
    })
