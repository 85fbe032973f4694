-- Servers whose seats are at a board that their thread owns.
use Rattle.std.proofs.Common.{◌≡◌, ℕ, zero, suc, ◌+◌, ◌<◌, List, [], ◌∷◌, get_or, length, map, option_map, set, slice_get, Some, refl, sym, ap, subst, ◌∙◌, add-one, inl, inr, arith}
use Rattle.std.specs.List.{All, AllZip}
use Rattle.std.proofs.lemmas.Bool.{cases_eq}
use Rattle.std.proofs.Math.Seq.{map-set_same}
use Rattle.std.proofs.lemmas.List.{length-map, map-set}
use Rattle.std.proofs.lemmas.Option.{get_or_from_slice_get, same_Some, slice_get-get_or, slice_get-map, slice_get_read, slice_get_within}
use mathlib.Core.Option.{some, some-injective, some-ne-none}
use lib.ListN.{get_elem?}
use Rattle.like_core.specs.declared.sight.CoordSight.{CoordSight}
use Rattle.like_core.specs.declared.view.CoordSeatView.{CoordSeatView}
use Rattle.like_core.specs.declared.view.View.{View}
use Rattle.like_core.specs.declared.view.View.TheVariants.{Coord, Worker}
use Rattle.like_core.specs.declared.view.WorkerSeatView.{WorkerSeatView}
use Rattle.like_core.specs.declared.worker_state.WorkerState.{WorkerState}
use Rattle.like_core.specs.declared.worker_state.WorkerState.TheVariants.{Gone}
use Rattle.like_core.specs.WorkerState.{IsIn}
use Rattle.like_board.specs.Known.{worker_view_of}
use Rattle.like_board.specs.Own as own
use Rattle.like_crew.specs.Fresh.{ShowsWorkers}
use Rattle.like_crew.specs.OwnCrew.{AreSeated, servers_of}
use Rattle.like_crew.specs.OwnServer.{OwnServerView}
use Rattle.like_crew.specs.Server.{ServerGoesOn, ServerView}
use Rattle.like_crew.specs.Steps.{AtServer}
use Rattle.like_crew.proofs.lists.Stepped.{slice_get-set_other, slice_get-set_same}
use Rattle.like_crew.proofs.servers.Later.{all-further, all-same}

-- what stands in a list, in the words of the board
elem-map : {A B : Type 0} (f : A → B) (xs : List A) (k : ℕ) (x : A)
    → slice_get xs k ≡ Some x
    → get_elem? (map f xs) k ≡ some (f x)
elem-map f [] k x e = absurd (cc e)
elem-map f (y ∷ ys) zero x e = let same : y ≡ x = cc e in ap (λ z. some (f z)) same
elem-map f (y ∷ ys) (suc k) x e = elem-map f ys k x e

elem-back : {A B : Type 0} (f : A → B) (xs : List A) (k : ℕ) (y : B)
    → get_elem? (map f xs) k ≡ some y
    → (x : A) × ((slice_get xs k ≡ Some x) × (f x ≡ y))
elem-back f [] k y e = absurd (some-ne-none y (sym e))
elem-back f (x ∷ xs) zero y e = (x, (refl, some-injective (f x) y e))
elem-back f (x ∷ xs) (suc k) y e = elem-back f xs k y e

abbrev server_of : OwnServerView → ServerView
server_of s = s.server

abbrev known_by : ServerView → View
known_by s = Worker s.worker.post

pub server-at : (owned : List OwnServerView) (k : ℕ) (s : OwnServerView)
    → slice_get owned k ≡ Some s
    → slice_get (servers_of owned) k ≡ Some s.server
server-at owned k s at = slice_get-map server_of owned k ∙ ap (option_map server_of) at

-- the server that is read at a place of a crew stands there
pub stands-at : (owned : List OwnServerView) (servers : List ServerView) (k : ℕ) (s : OwnServerView)
    → servers_of owned ≡ servers
    → k < length servers
    → s ≡ get_or owned k s
    → slice_get owned k ≡ Some s
stands-at owned servers k s same below is =
    slice_get_read owned (length owned) k s refl
    (omega (arith, below, ap (λ (xs : List ServerView). length xs) same, length-map owned server_of)) is

module _ (views : List View) (c : CoordSeatView) (owned : List OwnServerView) (h : AreSeated views c owned) where
  -- the board knows a server's seat
  pub seat-known : (k : ℕ) (s : OwnServerView) → slice_get owned k ≡ Some s
      → get_elem? views s.place ≡ some (Worker s.server.worker.post)
  seat-known k s at =
      ap (λ vs. get_elem? vs s.place) h.views_are
      ∙ ap (get_elem? (Coord c ∷ map known_by (servers_of owned))) (h.places k s at ∙ add-one k)
      ∙ elem-map known_by (servers_of owned) k s.server (server-at owned k s at)

  -- and the coordinator's
  pub lead-known : get_elem? views 0 ≡ some (Coord c)
  lead-known = ap (λ vs. get_elem? vs 0) h.views_are

  -- the coordinator's seat knows more
  pub lead-after : (after : List View) (d : CoordSeatView) → after ≡ set views 0 (Coord d) → AreSeated after d owned
  lead-after after d is = record {
    views_are = is ∙ ap (λ vs. set vs 0 (Coord d)) h.views_are;
    places = h.places;
  }

  -- a server's seat knows more
  pub seated-after : (after : List View) (k : ℕ) (s t : OwnServerView)
      → slice_get owned k ≡ Some s
      → t.place ≡ s.place
      → after ≡ set views s.place (Worker t.server.worker.post)
      → AreSeated after c (set owned k t)
  seated-after after k s t at place is = record {
    views_are = is ∙ ap (λ p. set views p (known_by t.server)) (h.places k s at ∙ add-one k)
        ∙ ap (λ vs. set vs (suc k) (known_by t.server)) h.views_are
        ∙ ap (λ vs. Coord c ∷ vs) (sym (map-set known_by (servers_of owned) k t.server))
        ∙ ap (λ ss. Coord c ∷ map known_by ss) (sym (map-set server_of owned k t));
    places = λ j x e. elim (cases_eq j k) [
      | inl same ↦
          let mine : t ≡ x = same_Some t x
          (sym (slice_get-set_same owned k t (slice_get_within owned k s at)) ∙ ap (slice_get (set owned k t)) (sym same)
          ∙ e) in
          subst (λ (y : OwnServerView). y.place ≡ j + 1) mine (place ∙ h.places k s at ∙ ap (λ n. n + 1) (sym same))
      | inr other ↦ h.places j x (sym (slice_get-set_other owned k j t other) ∙ e)
    ];
  }

  -- or what it knew
  pub seated-same : (k : ℕ) (s t : OwnServerView)
      → slice_get owned k ≡ Some s
      → t.place ≡ s.place
      → t.server.worker.post ≡ s.server.worker.post
      → AreSeated views c (set owned k t)
  seated-same k s t at place post =
      seated-after views k s t at place (h.views_are
      ∙ sym (ap (λ vs. set vs s.place (known_by t.server)) h.views_are
      ∙ ap (λ p. set (Coord c ∷ map known_by (servers_of owned)) p (known_by t.server)) (h.places k s at ∙ add-one k)
      ∙ ap (λ vs. Coord c ∷ vs)
      (sym (map-set known_by (servers_of owned) k t.server)
      ∙ map-set_same known_by (servers_of owned) k t.server s.server
      (ap (λ (v : WorkerSeatView). Worker v) post
      ∙ ap known_by (sym (get_or_from_slice_get (servers_of owned) k s.server s.server (server-at owned k s at)))))))

  -- what the views show of all workers is so of all servers, and the other way round
  all-shown : (P : WorkerState → Type 0)
      → ((place : ℕ) (v : WorkerSeatView) → get_elem? views place ≡ some (Worker v) → P v.state)
      → All (λ s. P s.worker.post.state) (servers_of owned)
  all-shown P each k d below =
      let s : ServerView = get_or (servers_of owned) k d in
      each (suc k) s.worker.post
      (ap (λ vs. get_elem? vs (suc k)) h.views_are
      ∙ elem-map known_by (servers_of owned) k s (slice_get-get_or (servers_of owned) k d below))

  shown-all : (P : WorkerState → Type 0) → All (λ s. P s.worker.post.state) (servers_of owned)
      → (place : ℕ) (v : WorkerSeatView) → get_elem? views place ≡ some (Worker v) → P v.state
  shown-all P all place v e = at_place place (ap (λ vs. get_elem? vs place) (sym h.views_are) ∙ e) where
    at_place : (place : ℕ) → get_elem? (Coord c ∷ map known_by (servers_of owned)) place ≡ some (Worker v) → P v.state
    at_place zero e = absurd (cc (some-injective (Coord c) (Worker v) e))
    at_place (suc k) e =
        let x = elem-back known_by (servers_of owned) k (Worker v) e in
        subst P
        (ap (λ (s : ServerView). s.worker.post.state) (get_or_from_slice_get (servers_of owned) k x.0 x.0 x.1.0)
        ∙ ap (λ (w : WorkerSeatView). w.state) (ap worker_view_of x.1.1))
        (all k x.0 (slice_get_within (servers_of owned) k x.0 x.1.0))

  -- the coordinator's look shows what the servers' workers know
  pub shows-servers : (phase : ℕ) (sight : CoordSight) → own.ShowsWorkers phase views sight
      → ShowsWorkers phase (servers_of owned) sight
  shows-servers phase sight shows = record {
    all_in = (λ e. all-shown (IsIn phase) (shows.all_in.0 e), λ all. shows.all_in.1 (shown-all (IsIn phase) all));
    all_gone = (
      λ e. all-shown (λ state. state ≡ Gone) (shows.all_gone.0 e),
      λ all. shows.all_gone.1 (shown-all (λ state. state ≡ Gone) all),
    );
  }

-- a step of one server
module _ (owned : List OwnServerView) (k : ℕ) (s t : OwnServerView) (at : slice_get owned k ≡ Some s) where
  servers-after : servers_of (set owned k t) ≡ set (servers_of owned) k t.server
  servers-after = map-set server_of owned k t

  pub at-server : (Step : ServerView → ServerView → Type 0) → Step s.server t.server
      → AtServer k Step (servers_of owned) (servers_of (set owned k t))
  at-server Step step = record {
    before = s.server;
    after = t.server;
    here = server-at owned k s at;
    step = step;
    rest = servers-after;
  }

  -- all go on, of which this one did
  pub all-go-on : ServerGoesOn s.server t.server → AllZip ServerGoesOn (servers_of owned) (servers_of (set owned k t))
  all-go-on on = subst (AllZip ServerGoesOn (servers_of owned)) (sym servers-after)
      (all-further (servers_of owned) (servers_of owned) k s.server t.server (all-same (servers_of owned))
      (server-at owned k s at) on)
