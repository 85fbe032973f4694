-- A client after calls of a seat.
use Rattle.std.proofs.Common.{◌≡◌, ℕ, ◌<◌, Bool, false, List, [], ◌++◌, get_or, ◌∷◌, length, map, set, Result, Ok, Err, refl, sym, ap, ◌∙◌, subst, append-nil, arith}
use Rattle.std.specs.Prelude.{IfErr, IsFalse, MatchResult}
use Rattle.std.specs.List.{AllZip}
use Rattle.std.specs.Vec.{with_item}
use Rattle.std.proofs.lemmas.List.{length-map, map-set}
use Rattle.std.proofs.lemmas.Result.{IfErr-weaker, MatchResult-weaker}
use Rattle.std.proofs.lemmas.Slice.Zip.{AllZip-long}
use Rattle.told_lock.specs.Deeds.{Continues, Named, named}
use Rattle.told_lock.specs.Rights.{SeesNext, name_of}
use Rattle.told_lock.specs.declared.lock.Lock.{Lock}
use Rattle.like_live.specs.LiveView.{LiveView}
use Rattle.like_shared.specs.declared.client.Client.{Client}
use Rattle.like_shared.specs.declared.deed.SeatDeed.{SeatDeed}
use Rattle.like_shared.specs.declared.deed.SeatDeeds.{SeatDeeds}
use Rattle.like_shared.specs.declared.seat_call.Busy.{Busy}
use Rattle.like_shared.specs.declared.seat_call.SeatPass.{SeatPass}
use Rattle.like_shared.specs.declared.service.SharedService.{SharedService}
use Rattle.like_shared.specs.Passes.{IsReady, log_at, seen_at}
use Rattle.like_shared.specs.Shared.{AreLogged, HasSameLogs, IsClient, held_by, holds, seats_of, seen_by, with_deeds}
use Rattle.like_shared.proofs.Places.{map-alike, map-read, zip-read, zip-set}

-- the log at the seat has the calls behind it; if the seat was busy, all logs are as before
logs-after : {A : Type 0} (result : Result A Busy) (deeds : A → List SeatDeed) (passes : List SeatPass) (seat : ℕ)
    (p q : SeatPass) → seat < length passes → p ≡ get_or passes seat p
    → MatchResult result (λ told. log_at q ≡ log_at p ++ deeds told) (λ busy. log_at q ≡ log_at p)
    → MatchResult result (λ told. map log_at (set passes seat q) ≡ with_deeds (map log_at passes) seat (deeds told))
    (λ busy. map log_at (set passes seat q) ≡ map log_at passes)
logs-after (Ok told) deeds passes seat p q less at log =
    map-set log_at passes seat q
    ∙ ap (set (map log_at passes) seat)
    (log ∙ ap (λ (l : List SeatDeed). l ++ deeds told) (sym (map-read log_at passes seat p [] less at)))
logs-after (Err busy) deeds passes seat p q less at log = map-alike log_at passes seat p q less at log

-- what was done comes behind all that the pass has seen of the seat
seen-next : (passes : List SeatPass) (seat : ℕ) (p q : SeatPass) (done : List SeatDeed) → seat < length passes
    → p ≡ get_or passes seat p → SeesNext p.pass done q.pass
    → (others : Named SeatDeed) × (map seen_at (set passes seat q)
    ≡ set (map seen_at passes) seat
    (get_or (map seen_at passes) seat [] ++ others
    ++ named (get_or (map (λ (x : SeatPass). name_of x.pass) passes) seat 0) done))
seen-next passes seat p q done less at next =
    let before = sym (map-read seen_at passes seat p [] less at) in
    let name = sym (map-read (λ (x : SeatPass). name_of x.pass) passes seat p 0 less at) in (
      next.0,
      map-set seen_at passes seat q
          ∙ ap (set (map seen_at passes) seat) (next.1 ∙ (λ i. before i ++ next.0 ++ named (name i) done)),
    )

-- each order continues itself
on-same : (xs : List (Named SeatDeed)) → AllZip Continues xs xs
on-same [] = tt
on-same (x ∷ xs) = (([], sym (append-nil x)), on-same xs)

module _ (s : SharedService) (c : Client) (seat : ℕ) (is : IsClient s c) (less : seat < seats_of s) where
  -- a client has a pass of each seat
  pub pass-there : seat < length c.seats.items
  pass-there =
      let long = AllZip-long IsReady s.seats.items c.seats.items is.seats in
      omega (arith, less, long)

  -- that of the lock
  pub pass-ready : (lock : Lock LiveView SeatDeed SeatDeeds) (p : SeatPass) → lock ≡ get_or s.seats.items seat lock
      → p ≡ get_or c.seats.items seat p → IsReady lock p
  pass-ready lock p here at = zip-read IsReady s.seats.items c.seats.items seat lock p is.seats less here at

  -- if the pass didn't hold a busy seat, nor did the client
  pub free-before : {A : Type 0} (p : SeatPass) (result : Result A Busy) → p ≡ get_or c.seats.items seat p
      → IfErr result (λ busy. IsFalse p.is_held) → IfErr result (λ busy. IsFalse (holds c seat))
  free-before p result at free =
      IfErr-weaker result (λ busy. IsFalse p.is_held) (λ busy. IsFalse (holds c seat))
      (λ busy is. map-read (λ (x : SeatPass). x.is_held) c.seats.items seat p false pass-there at ∙ is) free

  -- the client with another pass of the seat
  abbrev pub with_pass : SeatPass → Client
  with_pass q = record c { seats = with_item c.seats seat q }

  -- with another pass of this lock it is a client still
  pub client-after : (lock : Lock LiveView SeatDeed SeatDeeds) (q : SeatPass) → lock ≡ get_or s.seats.items seat lock
      → IsReady lock q → IsClient s (with_pass q)
  client-after lock q here ready = record {
    some = is.some;
    seats = zip-set IsReady s.seats.items c.seats.items seat lock q is.seats less here ready;
    driver = is.driver;
  }

  module _ (p q : SeatPass) (at : p ≡ get_or c.seats.items seat p) where
    -- it holds the seats that it held
    pub held-same : q.is_held ≡ p.is_held → held_by (with_pass q) ≡ held_by c
    held-same same = map-alike (λ (x : SeatPass). x.is_held) c.seats.items seat p q pass-there at same

    -- its log has what was done, and it holds what it held
    pub logged-after : {A : Type 0} (result : Result A Busy) (deeds : A → List SeatDeed)
        → MatchResult result (λ told. log_at q ≡ log_at p ++ deeds told) (λ busy. log_at q ≡ log_at p)
        → MatchResult result (λ told. SeesNext p.pass (deeds told) q.pass) (λ busy. SeesNext p.pass [] q.pass)
        → IfErr result (λ busy. IsFalse p.is_held) → q.is_held ≡ p.is_held
        → AreLogged c seat deeds result (with_pass q)
    logged-after result deeds log seen free same = record {
      seats = logs-after result deeds c.seats.items seat p q pass-there at log;
      seen = MatchResult-weaker result seen (λ told. seen-next c.seats.items seat p q (deeds told) pass-there at)
          (λ busy. seen-next c.seats.items seat p q [] pass-there at);
      free = free-before p result at free;
      driver = refl;
      held = held-same same;
    }

    -- its logs are as before
    pub logs-same : log_at q ≡ log_at p → Continues (seen_at p) (seen_at q) → HasSameLogs c (with_pass q)
    logs-same log on = record {
      seats = map-alike log_at c.seats.items seat p q pass-there at log;
      seen = subst (AllZip Continues (seen_by c)) (sym (map-set seen_at c.seats.items seat q))
          (zip-set Continues (seen_by c) (seen_by c) seat (seen_at p) (seen_at q) (on-same (seen_by c))
          (omega (arith, pass-there, length-map c.seats.items seen_at))
          (sym (map-read seen_at c.seats.items seat p (seen_at p) pass-there at)) on);
      driver = refl;
    }

  -- it holds the seat or not, as the pass says
  pub held-set : (q : SeatPass) (b : Bool) → q.is_held ≡ b → held_by (with_pass q) ≡ set (held_by c) seat b
  held-set q b is-b =
      map-set (λ (x : SeatPass). x.is_held) c.seats.items seat q ∙ ap (set (held_by c) seat) is-b
