-- Each deed shows its user's last like among the deeds before it.
use Rattle.std.proofs.Common.{◌≡◌, ℕ, zero, suc, ◌<◌, Bool, true, false, cond, eqb, List, [], ◌∷◌, ◌++◌, drop, length, take, slice_get, Some, None, refl, ap, sym, ◌∙◌, subst, arith, append-nil, append_assoc}
use Rattle.std.specs.List.{All, cons_option, last_or}
use Rattle.std.proofs.lemmas.List.Elements.{All-tail, filter_map-append}
use Rattle.like_core.specs.declared.log.Logged.{Logged}
use Rattle.like_core.specs.Log.{latest_number}
use Rattle.like_promises.specs.declared.reply.Reply.TheVariants.{Seen}
use Rattle.like_promises.specs.Store.{Store}
use Rattle.like_serial.proofs.Seen.{not_some, some_is}
use Rattle.like_tables.specs.UserTable.{last_of}
use Rattle.like_live.specs.declared.asked.Found.{Found}
use Rattle.like_live.specs.LiveView.{LiveView}
use Rattle.like_live.specs.Moves.{IsFoundAt, with_found}
use Rattle.like_live.specs.DeedStore.{DeedsShowLasts, Fits, store_after, store_of}
use Rattle.like_live.specs.Deeds.{Act, Deed, counted, deed, deed_found, deeds_found, deeds_of, glimpsed, made_since, showed}
use Rattle.like_live.specs.History.{HasDone, IsUnused, Told}
use Rattle.like_live.proofs.DeedLikes.{ShowsLast, last_is, page_counted, pages_counted}
use Rattle.like_live.proofs.Histories.{last_or-append}
use Rattle.like_live.proofs.Standing.{IsKept, Stands, kept_by_calls}
use Rattle.like_live.proofs.Stepping.{Step, acknowledges, adds_like, done_by, finds, glances, holds, looks, next, reads, reports, retires, returns, slices_like, takes}
use Rattle.like_live.proofs.Telling.{last-more, user_there}

-- P is true of each element and of those before it
abbrev pub AllAfter : {X : Type 0} → (List X → X → Type 0) → List X → List X → Type 0
AllAfter P before [] = Unit {0}
AllAfter P before (x ∷ xs) = P before x × AllAfter P (before ++ x ∷ []) xs

pub all_after-append : {X : Type 0} (P : List X → X → Type 0) (before xs ys : List X) → AllAfter P before xs
    → AllAfter P (before ++ xs) ys → AllAfter P before (xs ++ ys)
all_after-append P before [] ys first rest = subst (λ zs. AllAfter P zs ys) (append-nil before) rest
all_after-append P before (x ∷ xs) ys first rest = (
  first.0,
  all_after-append P (before ++ x ∷ []) xs ys first.1
      (subst (λ zs. AllAfter P zs ys) (sym (append_assoc before (x ∷ []) xs)) rest),
)

pub all_after-at : {X : Type 0} (P : List X → X → Type 0) (before xs : List X) (i : ℕ) (x : X) → AllAfter P before xs
    → slice_get xs i ≡ Some x → P (before ++ take i xs) x
all_after-at P before [] i x all at = absurd (not_some x at)
all_after-at P before (y ∷ xs) zero x all at =
    subst (λ zs. P zs x) (sym (append-nil before)) (subst (P before) (some_is y x at) all.0)
all_after-at P before (y ∷ xs) (suc i) x all at =
    subst (λ zs. P zs x) (append_assoc before (y ∷ []) (take i xs))
    (all_after-at P (before ++ y ∷ []) xs i x all.1 at)

module _ (first : LiveView) where
  -- a deed shows the last like of its user after those before it
  abbrev Shows : List Deed → Deed → Type 0
  Shows before d = ShowsLast (last_or (last_of first.station.last d.user) (pages_counted d.user before)) d.act

  -- the seat's users have the last likes that its deeds say, and each deed shows them
  pub record HasLasts (v : LiveView) (ds : List Deed) : Type 0 where
    pub table : (user : ℕ) → last_of v.station.last user ≡ last_or (last_of first.station.last user) (pages_counted user ds)
    pub shows : AllAfter Shows [] ds

  -- a step that is no deed leaves them
  no_deed : (v w : LiveView) (ds : List Deed) → w.station.last ≡ v.station.last → HasLasts v ds → HasLasts w (ds ++ [])
  no_deed v w ds same k = subst (HasLasts w) (sym (append-nil ds)) (record {
    table = λ user. ap (λ t. last_of t user) same ∙ k.table user;
    shows = k.shows;
  })

  -- a deed that counts no like leaves them, and shows its user's
  look_deed : (v w : LiveView) (ds : List Deed) (d : Deed) → w.station.last ≡ v.station.last
      → ((user : ℕ) → pages_counted user (d ∷ []) ≡ []) → (ShowsLast (last_of v.station.last d.user) d.act)
      → HasLasts v ds → HasLasts w (ds ++ d ∷ [])
  look_deed v w ds d same none shows k = record {
    table = λ user.
        ap (λ t. last_of t user) same ∙ k.table user
        ∙ ap (last_or (last_of first.station.last user))
        (sym (filter_map-append (λ (e : Deed). page_counted user e.user e.page e.act) ds (d ∷ [])
        ∙ ap (λ zs. pages_counted user ds ++ zs) (none user) ∙ append-nil (pages_counted user ds)));
    shows = all_after-append Shows [] ds (d ∷ []) k.shows
        (subst (λ o. ShowsLast o d.act) (k.table d.user) shows, tt);
  }

  -- found looks show those of their users, one after the other
  found_deeds : (v : LiveView) (entries : List Logged) (found : List Found) → All (IsFoundAt v.station) found
      → (ds : List Deed) → HasLasts v ds → HasLasts v (ds ++ deeds_found entries found)
  found_deeds v entries [] shown ds k = no_deed v v ds refl k
  found_deeds v entries (f ∷ found) shown ds k =
      let d = deed_found (latest_number entries) f in
      subst (HasLasts v) (append_assoc ds (d ∷ []) (deeds_found (drop 1 entries) found))
      (found_deeds v (drop 1 entries) found (All-tail (IsFoundAt v.station) f found shown) (ds ++ d ∷ [])
      (look_deed v v ds d refl (λ user. refl) (shown 0 f (omega arith)).last k))

  -- a like is its user's last
  like_deed : (v w : LiveView) (ds : List Deed) (number phase user page : ℕ) → user < length v.station.last.last
      → ((other : ℕ) → last_of w.station.last other ≡ last_or (last_of v.station.last other) (cond (eqb user other) (page ∷ []) []))
      → HasLasts v ds → HasLasts w (ds ++ deed number phase user page counted ∷ [])
  like_deed v w ds number phase user page there more k = record {
    table = λ other.
        more other ∙ ap (λ o. last_or o (cond (eqb user other) (page ∷ []) [])) (k.table other)
        ∙ sym (last_or-append (last_of first.station.last other) (pages_counted other ds) (cond (eqb user other) (page ∷ []) []))
        ∙ ap (last_or (last_of first.station.last other))
        (ap (λ zs. pages_counted other ds ++ zs) (one (eqb user other))
        ∙ sym (filter_map-append (λ (e : Deed). page_counted other e.user e.page e.act) ds (deed number phase user page counted ∷ [])));
    shows = all_after-append Shows [] ds (deed number phase user page counted ∷ []) k.shows (tt, tt);
  }
    where
      one : (b : Bool) → cond b (page ∷ []) [] ≡ cons_option (cond b (Some page) None) []
      one true = refl
      one false = refl

  lasts_next : (v : LiveView) (s : Step v) (ds : List Deed) → Stands first v → HasLasts v ds
      → HasLasts (next v s) (ds ++ done_by v s)
  lasts_next v (looks sight mask number can) ds is k = no_deed v _ ds refl k
  lasts_next v (finds found logged joined order shown logs) ds is k =
      let all = found_deeds v (made_since v (with_found v found logged)) found shown ds k in record { table = all.table; shows = all.shows }
  lasts_next v (acknowledges joined) ds is k = no_deed v _ ds refl k
  lasts_next v (reports adds logged split merges logs) ds is k = no_deed v _ ds refl k
  lasts_next v (retires joined) ds is k = no_deed v _ ds refl k
  lasts_next v (returns phase mask number gone) ds is k = no_deed v _ ds refl k
  lasts_next v takes ds is k = no_deed v _ ds refl k
  lasts_next v (slices_like user page req) ds is k =
      let there = subst (λ n. user < n) (sym is.table) (user_there v.station user page req.accepted) in
      like_deed v _ ds _ _ user page there (λ other. last-more v.station.last user page other there) k
  lasts_next v (adds_like user page old number req) ds is k =
      let there = subst (λ n. user < n) (sym is.table) (user_there v.station user page req.accepted) in
      like_deed v _ ds _ _ user page there (λ other. last-more v.station.last user page other there) k
  lasts_next v (reads user page shown number req last) ds is k =
      look_deed v _ ds _ refl (λ other. refl) last k
  lasts_next v (glances user page count shown number req last) ds is k =
      look_deed v _ ds _ refl (λ other. refl) last k
  lasts_next v (holds user page tag req) ds is k = no_deed v _ ds refl k

-- the last likes that a seat's calls leave, and those that its deeds show, by its deeds
pub calls_leave_lasts : (v after : LiveView) (told : List Told) (done : HasDone v told after)
    → IsUnused v
    → HasLasts v after (deeds_of told v after done)
calls_leave_lasts v after told done unused =
    let kept : IsKept v (λ w. Unit {0}) (HasLasts v) =
    record { back = λ w s stands sound. tt; kept = λ w s ds stands sound k. lasts_next v w s ds stands k } in
    kept_by_calls v (λ w. Unit {0}) (HasLasts v) kept told after done unused tt
    (record { table = λ user. refl; shows = tt })

pub deeds_show : (v after : LiveView) (told : List Told) (done : HasDone v told after)
    → IsUnused v
    → (i : ℕ) (d : Deed)
    → slice_get (deeds_of told v after done) i ≡ Some d
    → ShowsLast (last_or (last_of v.station.last d.user) (pages_counted d.user (take i (deeds_of told v after done)))) d.act
deeds_show v after told done unused i d at =
    all_after-at (Shows v) [] _ i d (calls_leave_lasts v after told done unused).shows at

-- a deed that shows its user's last like in a store fits that store, if the count is the one that it shows
fits_last : (s : Store) (user page : ℕ) (a : Act) → ShowsLast (s.last user) a
    → (count : ℕ → ℕ) × Fits (record s { count = count }) user page a
fits_last s user page counted last = (s.count, tt)
fits_last s user page (showed seen) last = (λ _. seen.count, ap (λ o. Seen o seen.count) (sym last))
fits_last s user page (glimpsed seen) last = (s.count, sym last)

pub deeds_show_lasts : DeedsShowLasts
deeds_show_lasts v after told done unused i d at =
    let before = take i (deeds_of told v after done) in
    fits_last (store_after (store_of v) before) d.user d.page d.act
    (subst (λ o. ShowsLast o d.act) (sym (last_is (store_of v) before d.user))
    (deeds_show v after told done unused i d at))
