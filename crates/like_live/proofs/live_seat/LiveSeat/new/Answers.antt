use Rattle.std.proofs.Common.{◌≡◌, ℕ, zero, suc, ◌/◌, Bool, false, List, [], length, replicate, get_or, ap, sym, subst, ◌∙◌, refl, arith}
use Rattle.std.proofs.lemmas.List.{length-replicate}
use Rattle.like_core.specs.OpeningLimits.{has_slots, service_limits}
use Rattle.like_core.specs.Post.{pages_of}
use Rattle.like_core.specs.declared.limits.Limits.{Limits}
use Rattle.like_core.specs.declared.view.WorkerSeatView.{WorkerSeatView}
use Rattle.like_seat.specs.StationView.{StationView, phase_at}
use Rattle.like_seat.specs.Steps.{IsNewStation}
use Rattle.like_tables.specs.Home.{Home, IsHomeOf}
use Rattle.like_tables.specs.UserTable.{UserTable}
use Rattle.like_tables.specs.StashView.{StashView}
use Rattle.like_live.specs.declared.asked.Asked.{Asked}
use Rattle.like_live.specs.declared.asked.Found.{Found}
use Rattle.like_live.specs.Kept.{AreLiveSeatParts}
use Rattle.like_live.specs.LiveView.{HasLastsWithin, IsOwn, RanNext}
use Rattle.like_live.specs.LookRoom.{RoomView}
use Rattle.like_live.proofs.Looking.{all-none}
use Rattle.like_live.proofs.live_seat.LiveSeat.new.Goals as goal

-- the parts of a new live seat agree
new-parts : (board : List ℕ) (post : WorkerSeatView) (s : StationView Asked) (found : StashView Found) (home : Home) (users : UserTable)
    (pages room : ℕ) (left : RoomView)
    → IsNewStation board post room users s
    → found ≡ record { looks = []; capacity = room }
    → IsHomeOf home users.share
    → left ≡ record { free = 0; left = room }
    → post.opening.limits ≡ service_limits
    → post.opening.marks ≡ replicate pages false
    → users.share.submitters ≡ users.share.workers
    → HasLastsWithin pages users
    → AreLiveSeatParts s found home pages left (room / 2)
new-parts board post s found home users pages room left new is home_is all limits marks alone within =
    let none = ap (λ (w : StashView Asked). w.looks) new.stash in
    let capacity = ap (λ (w : StashView Asked). w.capacity) new.stash in
    let none_found = ap (λ (w : StashView Found). w.looks) is in
    let no_more = ap (λ (xs : List Asked). length xs) none in
    let many : length post.opening.marks ≡ pages =
    ap (λ (xs : List Bool). length xs) marks ∙ length-replicate {A = Bool} pages false in
    let no_found = ap (λ (xs : List Found). length xs) none_found in
    record {
      live = record {
        station = new.is;
        limits = ap (λ (p : WorkerSeatView). p.opening.limits) new.at_post ∙ limits;
        home = subst (λ (t : UserTable). t.share.submitters ≡ t.share.workers) (sym new.last) alone;
        lasts = subst (λ (t : UserTable). HasLastsWithin (pages_of s.post) t) (sym new.last)
            (subst (λ n. HasLastsWithin n users)
            (sym (ap (λ (p : WorkerSeatView). pages_of p) new.at_post ∙ many)) within);
        split = λ joined. none;
        own = all-none (IsOwn s) s.stash.looks none;
        asked = all-none (λ (a : Asked). a.phase ≡ phase_at s) s.stash.looks none;
        next = all-none RanNext found.looks none_found;
        room = omega (arith, no_more, no_found);
      };
      capacity = ap (λ (w : StashView Found). w.capacity) is ∙ sym capacity;
      home_is = subst (λ (t : UserTable). IsHomeOf home t.share) (sym new.last) home_is;
      pages_are =
          sym (ap (λ (p : WorkerSeatView). pages_of p) new.at_post ∙ many);
      room_is = omega (arith, no_more, no_found, capacity, ap (λ (r : RoomView). r.left) all);
      early = λ some. absurd (omega (arith, some, ap (λ (r : RoomView). r.free) all));
      half_is = ap (λ n. n / 2) (sym capacity);
    }

-- no page is marked among flags that are all false
none-marked : (n page : ℕ) → get_or (replicate n false) page false ≡ false
none-marked zero page = refl
none-marked (suc n) zero = refl
none-marked (suc n) (suc page) = none-marked n page

pub of_service-requires-clause-few_pages : goal.of_service-requires-clause-few_pages
of_service-requires-clause-few_pages g c =
    omega (
      arith,
      ap (λ (xs : List Bool). length xs) c.requires.marks,
      length-replicate {A = Bool} c.args.pages false,
      c.requires.few_pages,
      ap (λ (l : Limits). l.pages) c.requires.limits,
    )

pub of_service-requires-clause-service : goal.of_service-requires-clause-service
of_service-requires-clause-service g c = record {
  slotted = ap has_slots c.requires.limits;
  unmarked = λ page.
      ap (λ (xs : List Bool). get_or xs page false) c.requires.marks ∙ none-marked c.args.pages page;
}

pub invariant_of-result : goal.invariant_of-result
invariant_of-result g c =
    new-parts (g.P.Post.board c.args.post) (g.P.Post.view c.args.post) c.in-Ok.station c.in_ok-found.found c.home-home.result c.args.last c.args.pages
    c.args.room c.new-in-Ok.result c.in-Ok.ensures.new c.in_ok-found.ensures c.home-home.ensures c.new-in-Ok.ensures
    c.requires.limits c.requires.marks c.requires.home c.requires.lasts

pub returns-in-Ok-clause-live : goal.returns-in-Ok-clause-live
returns-in-Ok-clause-live g c = (invariant_of-result g c).live

pub returns-in-Ok-clause-new : goal.returns-in-Ok-clause-new
returns-in-Ok-clause-new g c =
    let new = c.in-Ok.ensures.new in
    record {
      at_board = new.at_board;
      at_post = new.at_post;
      stash = new.stash;
      slice = new.slice;
      sliced = new.sliced;
      last = new.last;
      found = ap (λ (w : StashView Found). w.looks) c.in_ok-found.ensures;
    }
