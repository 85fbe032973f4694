-- The end of a shared service.
use Rattle.std.proofs.Common.{◌≡◌, ℕ, List, [], ◌∷◌, ◌++◌, map, refl, sym, ap, ◌∙◌, subst}
use Rattle.std.specs.List.{All, AllZip, zip}
use Rattle.std.proofs.lemmas.List.Elements.{All-cons, All-head, All-nil, All-tail}
use Rattle.std.proofs.lemmas.Slice.Zip.{AllZip-long, firsts-zip, seconds-zip}
use Rattle.std.proofs.lemmas.List.{map-append}
use Rattle.told_lock.specs.Deeds.{Leads, Named, deeds_in}
use Rattle.told_lock.specs.Rights.{IsKeeper, first_of, seens_of, told_of}
use Rattle.told_lock.specs.declared.keeper.Keeper.{Keeper}
use Rattle.told_lock.specs.declared.lock.Lock.{Lock}
use Rattle.like_live.specs.Driver.{DriverView}
use Rattle.like_live.specs.LiveView.{IsSameSeat, LiveView}
use Rattle.like_live.specs.Service.{AreGone, AreItsSeats, AreOpened, CallsKeepSeats, IsClosedService}
use Rattle.like_shared.specs.declared.deed.SeatDeed.{SeatDeed}
use Rattle.like_shared.specs.declared.deed.SeatDeeds.{SeatDeeds}
use Rattle.like_shared.specs.declared.service.ServiceKeeper.{ServiceKeeper}
use Rattle.like_shared.specs.declared.service.SharedService.{SharedService}
use Rattle.like_shared.specs.Closed.{AreEndsOf, IsClosedShared, LeadsTo, driver_end}
use Rattle.like_shared.specs.Deeds.{DriverDoes, SeatDoes}
use Rattle.like_shared.specs.Shared.{clients_out, first_driver, first_seats, seats_seen, seats_told}
use Rattle.like_shared.specs.Strict.{SeatEnd, SharedServicesAreStrict, firsts, lasts}
use Rattle.like_shared.proofs.Runs.{driver-runs, seat-runs}

-- one seat more
pub ends-more : (first last : List LiveView) (told : List (Named SeatDeed)) (seen : List (List (Named SeatDeed)))
    (x y : LiveView) (ds : Named SeatDeed) (ss : List (Named SeatDeed))
    → AreEndsOf first told seen last → Leads SeatDoes x ds ss y
    → AreEndsOf (first ++ x ∷ []) (told ++ ds ∷ []) (seen ++ ss ∷ []) (last ++ y ∷ [])
ends-more first last told seen x y ds ss are leads =
    let e : SeatEnd = record { first = x; last = y; told = ds; seen = ss; leads = leads } in
    record {
      ends = are.ends ++ e ∷ [];
      firsts_are = map-append (λ (z : SeatEnd). z.first) are.ends (e ∷ []) ∙ ap (λ l. l ++ x ∷ []) are.firsts_are;
      told_are = map-append (λ (z : SeatEnd). z.told) are.ends (e ∷ []) ∙ ap (λ l. l ++ ds ∷ []) are.told_are;
      seen_are = map-append (λ (z : SeatEnd). z.seen) are.ends (e ∷ []) ∙ ap (λ l. l ++ ss ∷ []) are.seen_are;
      lasts_are = map-append (λ (z : SeatEnd). z.last) are.ends (e ∷ []) ∙ ap (λ l. l ++ y ∷ []) are.lasts_are;
    }

-- each is the seat that it was
same-ends : (ends : List SeatEnd) → AllZip IsSameSeat (firsts ends) (lasts ends)
same-ends [] = tt
same-ends (e ∷ es) = (seat-runs e.first e.last (deeds_in e.leads.order) e.leads.run, same-ends es)

-- once all passes are back, driver and seats are those to which its clients led
pub leads-to : CallsKeepSeats → (s : SharedService) (k : ServiceKeeper) (driver : DriverView) (back : List LiveView)
    → AreItsSeats (first_driver s) (first_seats s) → Leads DriverDoes (first_driver s) (told_of k.driver) (seens_of k.driver) driver
    → AreEndsOf (first_seats s) (seats_told k) (seats_seen k) back → LeadsTo s k driver back
leads-to keep s k driver back whole leads are = record {
  driver_leads = leads;
  seats_lead = are;
  whole = keep (first_driver s) driver (first_seats s) back whole
      (driver-runs (first_driver s) driver (deeds_in leads.order) leads.run)
      (subst (λ l. AllZip IsSameSeat l back) are.firsts_are
      (subst (AllZip IsSameSeat (firsts are.ends)) are.lasts_are (same-ends are.ends)));
}

pub closed-shared : SharedServicesAreStrict → (s : SharedService) (k : ServiceKeeper) (driver : DriverView)
    (back : List LiveView) (counts : List ℕ) → clients_out k ≡ 0 → LeadsTo s k driver back
    → IsClosedService driver back counts → AreGone back → IsClosedShared s k counts
closed-shared law s k driver back counts are_back leads closed gone =
    let are = leads.seats_lead in
    record {
      driver = driver;
      seats = back;
      back = are_back;
      leads = leads;
      gone = gone;
      closed = closed;
      strict = λ o opened.
          law o (driver_end leads) are.ends counts
          (subst (AreOpened o (first_driver s)) (sym are.firsts_are) opened)
          (subst (λ (l : List LiveView). IsClosedService driver l counts) (sym are.lasts_are) closed)
          (subst AreGone (sym are.lasts_are) gone);
    }

-- a lock of a seat, with the keeper of its passes
abbrev pub Kept : Type 0
Kept = Lock LiveView SeatDeed SeatDeeds × Keeper LiveView SeatDeed

-- all of its passes are back
abbrev pub IsBack : Kept → Type 0
IsBack p = IsKeeper p.0 p.1 × (p.1.out ≡ 0)

abbrev pub first_at : Kept → LiveView
first_at p = first_of p.0

abbrev pub told_at : Kept → Named SeatDeed
told_at p = told_of p.1

abbrev pub seen_in : Kept → List (Named SeatDeed)
seen_in p = seens_of p.1

-- one seat more, with its lock and keeper
pub ends-kept : (pairs : List Kept) (lock : Lock LiveView SeatDeed SeatDeeds) (keeper : Keeper LiveView SeatDeed)
    (last : List LiveView) (y : LiveView) → AreEndsOf (map first_at pairs) (map told_at pairs) (map seen_in pairs) last
    → Leads SeatDoes (first_of lock) (told_of keeper) (seens_of keeper) y
    → AreEndsOf (map first_at (pairs ++ (lock, keeper) ∷ [])) (map told_at (pairs ++ (lock, keeper) ∷ []))
    (map seen_in (pairs ++ (lock, keeper) ∷ [])) (last ++ y ∷ [])
ends-kept pairs lock keeper last y are leads =
    let more : List Kept = pairs ++ (lock, keeper) ∷ [] in
    subst (λ l. AreEndsOf l (map told_at more) (map seen_in more) (last ++ y ∷ []))
    (sym (map-append first_at pairs ((lock, keeper) ∷ [])))
    (subst (λ l. AreEndsOf (map first_at pairs ++ first_of lock ∷ []) l (map seen_in more) (last ++ y ∷ []))
    (sym (map-append told_at pairs ((lock, keeper) ∷ [])))
    (subst (λ l. AreEndsOf (map first_at pairs ++ first_of lock ∷ []) (map told_at pairs ++ told_of keeper ∷ []) l
    (last ++ y ∷ []))
    (sym (map-append seen_in pairs ((lock, keeper) ∷ [])))
    (ends-more (map first_at pairs) last (map told_at pairs) (map seen_in pairs) (first_of lock) y (told_of keeper)
    (seens_of keeper) are leads)))

-- the pairs of all locks and keepers
pub all-back : (locks : List (Lock LiveView SeatDeed SeatDeeds)) (keepers : List (Keeper LiveView SeatDeed))
    → AllZip IsKeeper locks keepers → All (λ k. k.out ≡ 0) keepers → All IsBack (zip locks keepers)
all-back [] keepers kept back = All-nil IsBack
all-back (l ∷ ls) [] kept back = absurd kept
all-back (l ∷ ls) (k ∷ ks) kept back =
    All-cons IsBack (l, k) (zip ls ks) (kept.0, All-head (λ (x : Keeper LiveView SeatDeed). x.out ≡ 0) k ks back)
    (all-back ls ks kept.1 (All-tail (λ (x : Keeper LiveView SeatDeed). x.out ≡ 0) k ks back))

pub ends-whole : (locks : List (Lock LiveView SeatDeed SeatDeeds)) (keepers : List (Keeper LiveView SeatDeed))
    (pairs : List Kept) (last : List LiveView) → AllZip IsKeeper locks keepers → pairs ≡ zip locks keepers
    → AreEndsOf (map first_at pairs) (map told_at pairs) (map seen_in pairs) last
    → AreEndsOf (map first_of locks) (map told_of keepers) (map seens_of keepers) last
ends-whole locks keepers pairs last kept is are =
    let long = AllZip-long IsKeeper locks keepers kept in
    let firsts-are : map first_at pairs ≡ map first_of locks =
    ap (map first_at) is ∙ map-map first_of (λ (p : Kept). p.0) (zip locks keepers)
    ∙ ap (map first_of) (firsts-zip locks keepers long) in
    let told-are : map told_at pairs ≡ map told_of keepers =
    ap (map told_at) is ∙ map-map told_of (λ (p : Kept). p.1) (zip locks keepers)
    ∙ ap (map told_of) (seconds-zip locks keepers long) in
    let seen-are : map seen_in pairs ≡ map seens_of keepers =
    ap (map seen_in) is ∙ map-map seens_of (λ (p : Kept). p.1) (zip locks keepers)
    ∙ ap (map seens_of) (seconds-zip locks keepers long) in
    subst (λ l. AreEndsOf l (map told_of keepers) (map seens_of keepers) last) firsts-are
    (subst (λ l. AreEndsOf (map first_at pairs) l (map seens_of keepers) last) told-are
    (subst (λ l. AreEndsOf (map first_at pairs) (map told_at pairs) l last) seen-are are))
  where
    map-map : {A B C : Type 0} (f : B → C) (g : A → B) (xs : List A) → map (λ x. f (g x)) xs ≡ map f (map g xs)
    map-map f g [] = refl
    map-map f g (x ∷ xs) = ap (λ l. f (g x) ∷ l) (map-map f g xs)
