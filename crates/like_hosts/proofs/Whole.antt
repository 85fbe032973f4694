-- The likes that all clients of a host were told.
use Rattle.std.proofs.Common.{◌≡◌, ℕ, ◌+◌, ◌<◌, List, [], ◌∷◌, ◌++◌, length, map, refl, sym, ap, ◌∙◌, arith, subst}
use Rattle.std.specs.Prelude.{All, slice_index, sum_by}
use Rattle.std.proofs.lemmas.List.{length-map}
use Rattle.std.proofs.lemmas.List.Elements.{All-head, All-tail}
use Rattle.std.proofs.lemmas.List.Sums.{sum_by-append, sum_by-cons}
use Rattle.std.proofs.lemmas.Slice.Zip.{AllZip-long}
use Rattle.told_lock.specs.Deeds.{Named, deeds_in, named}
use Rattle.told_lock.specs.Rights.{IsKeeper, name_of, told_of}
use Rattle.told_lock.specs.declared.keeper.Keeper.{Keeper}
use Rattle.told_lock.proofs.Logs.{all-more}
use Rattle.like_live.specs.declared.opening.Opening.{Opening}
use Rattle.like_live.specs.LiveView.{LiveView}
use Rattle.like_live.specs.Service.{AreOpened}
use Rattle.like_shared.specs.declared.client.Client.{Client}
use Rattle.like_shared.specs.declared.deed.SeatDeed.{SeatDeed}
use Rattle.like_shared.specs.declared.seat_call.SeatPass.{SeatPass}
use Rattle.like_shared.specs.declared.service.ServiceKeeper.{ServiceKeeper}
use Rattle.like_shared.specs.declared.service.SharedService.{SharedService}
use Rattle.like_shared.specs.Closed.{IsClosedShared, driver_end}
use Rattle.like_shared.specs.Deeds.{liked_by}
use Rattle.like_shared.specs.Passes.{IsReady, log_at}
use Rattle.like_shared.specs.Shared.{IsClient, IsServiceKeeper, IsUnused, first_driver, first_seats, seats_told, with_logs}
use Rattle.like_shared.specs.Strict.{SeatEnd, likes_at}
use Rattle.like_hosts.specs.Hosts.{IsHosted}
use Rattle.like_hosts.specs.Likes.{likes_in, likes_of}

-- how many likes of a page were told at all seats
abbrev pub told_likes : ℕ → List (Named SeatDeed) → ℕ
told_likes page told = sum_by (λ t. sum_by (liked_by page) (deeds_in t)) told

module _ (page : ℕ) where
  abbrev weigh : Named SeatDeed → ℕ
  weigh t = sum_by (liked_by page) (deeds_in t)

  abbrev weigh_log : List SeatDeed → ℕ
  weigh_log log = sum_by (liked_by page) log

  -- the likes of a client are added
  logs-add : (told : List (Named SeatDeed)) (passes : List SeatPass) → length passes ≡ length told
      → told_likes page (with_logs told passes) ≡ told_likes page told + likes_of (liked_by page) (map log_at passes)
  logs-add told [] same = omega arith
  logs-add [] (p ∷ passes) same = absurd (omega (arith, same))
  logs-add (t ∷ told) (p ∷ passes) same =
      let one = sum_by-cons weigh (t ++ named (name_of p.pass) (log_at p)) (with_logs told passes) in
      let log = ap weigh_log (all-more t (name_of p.pass) (log_at p)) ∙ sum_by-append (liked_by page) (deeds_in t) (log_at p) in
      let rest = logs-add told passes (omega (arith, same)) in
      let before = sum_by-cons weigh t told in
      let more = sum_by-cons weigh_log (log_at p) (map log_at passes) in
      omega (arith, one, log, rest, before, more)

  -- a keeper takes a client back, and has its likes
  pub client-adds : (s : SharedService) (k l : ServiceKeeper) (c : Client) → IsServiceKeeper s k → IsClient s c
      → seats_told l ≡ with_logs (seats_told k) c.seats.items
      → told_likes page (seats_told l) ≡ told_likes page (seats_told k) + likes_in page c
  client-adds s k l c keeper client told =
      let passes = AllZip-long IsReady s.seats.items c.seats.items client.seats in
      let keepers = AllZip-long IsKeeper s.seats.items k.seats.items keeper.seats in
      let all = length-map k.seats.items told_of in
      ap (told_likes page) told ∙ logs-add (seats_told k) c.seats.items (omega (arith, passes, keepers, all))

  none-told : (keepers : List (Keeper LiveView SeatDeed)) → All (λ k. told_of k ≡ []) keepers
      → told_likes page (map told_of keepers) ≡ 0
  none-told [] all = refl
  none-told (k ∷ keepers) all =
      let one = sum_by-cons weigh (told_of k) (map told_of keepers) in
      let none = ap weigh (All-head (λ (x : Keeper LiveView SeatDeed). told_of x ≡ []) k keepers all) in
      let rest = none-told keepers (All-tail (λ (x : Keeper LiveView SeatDeed). told_of x ≡ []) k keepers all) in
      omega (arith, one, none, rest)

  -- nobody has told anything yet
  pub none-yet : (k : ServiceKeeper) → IsUnused k → told_likes page (seats_told k) ≡ 0
  none-yet k unused = none-told k.seats.items unused.seats

  -- those that all clients were told at the seats
  pub ends-told : (ends : List SeatEnd) → sum_by (likes_at page) ends ≡ told_likes page (map (λ e. e.told) ends)
  ends-told [] = refl
  ends-told (e ∷ ends) =
      sum_by-cons (likes_at page) e ends ∙ ap (λ n. likes_at page e + n) (ends-told ends)
      ∙ sym (sum_by-cons weigh e.told (map (λ (x : SeatEnd). x.told) ends))

-- one thread could have done all
pub hosted : (o : Opening) (s : SharedService) (k : ServiceKeeper) (counts : List ℕ)
    → AreOpened o (first_driver s) (first_seats s) → IsClosedShared s k counts → IsHosted o counts
hosted o s k counts opened closed = record {
  driver = driver_end closed.leads;
  ends = closed.leads.seats_lead.ends;
  opened = subst (AreOpened o (first_driver s)) (sym closed.leads.seats_lead.firsts_are) opened;
  strict = closed.strict o opened;
}

-- and a page's count has grown by all likes that were told
pub grown : (o : Opening) (s : SharedService) (k : ServiceKeeper) (counts : List ℕ) (page : ℕ)
    → AreOpened o (first_driver s) (first_seats s) → IsClosedShared s k counts → page < length counts
    → slice_index counts page ≡ slice_index o.counts.items page + told_likes page (seats_told k)
grown o s k counts page opened closed less =
    let ends = closed.leads.seats_lead.ends in
    (closed.strict o opened).totals page less
    ∙ ap (λ n. slice_index o.counts.items page + n)
    (ends-told page ends ∙ ap (told_likes page) closed.leads.seats_lead.told_are)
