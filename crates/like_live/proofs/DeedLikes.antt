-- What deeds counted, by filters over them, as the proofs say it, and as a store has it.
use Rattle.std.proofs.Common.{◌≡◌, ℕ, ◌+◌, ◌==◌, Bool, true, false, cond, eqb, List, [], ◌∷◌, filter_map, map, sum_by, Option, Some, None, ap, ap₂, sym, ◌∙◌, refl, eq-eqb, eqb-true, true≢false}
use Rattle.std.specs.Prelude.{if◌then◌else◌, slice_index}
use Rattle.std.specs.List.{cons_option, last_or}
use Rattle.like_promises.specs.declared.reply.Reply.TheVariants.{Seen}
use Rattle.like_promises.specs.Likes.{count_in}
use Rattle.like_promises.specs.Store.{Store}
use Rattle.like_serial.proofs.Counts.{weigh-map}
use Rattle.like_serial.proofs.Stores.{adds_by, page_by}
use Rattle.like_requests.specs.Verdict.{home}
use Rattle.like_serial.proofs.Interleaved.{with_key}
use Rattle.like_serial.proofs.Stores as store
use Rattle.like_serial.proofs.Weigh.{sum-weigh, weigh-alike}
use Rattle.like_tables.specs.UserTable.{last_in}
use Rattle.like_live.specs.declared.opening.Opening.{Opening}
use Rattle.like_live.specs.DeedStore.{Fits, asked, store_after}
use Rattle.like_live.specs.Deeds.{Act, Deed, counted, glimpsed, showed}
use Rattle.like_live.specs.StrictService.{opened}

-- the page of a like of this user that was counted, if that is what was done for a user at a page
abbrev pub page_counted : (user other page : ℕ) → Act → Option ℕ
page_counted user other page counted = if other == user then Some page else None
page_counted user other page act = None

-- the pages of the likes of a user that were counted, in order
abbrev pub pages_counted : ℕ → List Deed → List ℕ
pages_counted user deeds = filter_map (λ d. page_counted user d.user d.page d.act) deeds

-- how many likes of a page were counted, if that is what was done at a page: one or none
abbrev pub likes_counted : (page other : ℕ) → Act → ℕ
likes_counted page other counted = if other == page then 1 else 0
likes_counted page other act = 0

-- how many likes of a page deeds counted
abbrev pub likes_among : ℕ → List Deed → ℕ
likes_among page deeds = sum_by (λ d. likes_counted page d.page d.act) deeds

-- a user's last like after these deeds, and a page's count
abbrev pub last_after : Opening → ℕ → List Deed → Option ℕ
last_after o user deeds = last_or (last_in o.lasts.items user) (pages_counted user deeds)

abbrev pub count_after : Opening → ℕ → List Deed → ℕ
count_after o page deeds = slice_index o.counts.items page + likes_among page deeds

-- this last like was shown, if one was
abbrev pub ShowsLast : Option ℕ → Act → Type 0
ShowsLast last counted = Unit {0}
ShowsLast last (showed s) = s.last ≡ last
ShowsLast last (glimpsed s) = s.last ≡ last

-- this count was shown, if one was, but for glances at pages that are split
abbrev pub ShowsCount : ℕ → Act → Type 0
ShowsCount count counted = Unit {0}
ShowsCount count (showed s) = s.count ≡ count
ShowsCount count (glimpsed s) = Unit {0}

-- a user's likes are all of one seat
module _ (o : Opening) (user : ℕ) where
  abbrev user_home : Deed → ℕ
  user_home d = home o.seats d.user

  user_by : (d : Deed) (a : Act) (xs : List Deed) (b : Bool) → eqb (home o.seats d.user) (home o.seats user) ≡ b
      → pages_counted user xs ≡ pages_counted user (with_key user_home (home o.seats user) xs)
      → cons_option (page_counted user d.user d.page a) (pages_counted user xs)
      ≡ cond b (cons_option (page_counted user d.user d.page a) (pages_counted user (with_key user_home (home o.seats user) xs)))
      (pages_counted user (with_key user_home (home o.seats user) xs))
  user_by d a xs true is same = ap (cons_option (page_counted user d.user d.page a)) same
  user_by d (showed s) xs false is same = same
  user_by d (glimpsed s) xs false is same = same
  user_by d counted xs false is same = by_user (eqb d.user user) refl where
    by_user : (c : Bool) → eqb d.user user ≡ c
        → cons_option (cond c (Some d.page) None) (pages_counted user xs)
        ≡ pages_counted user (with_key user_home (home o.seats user) xs)
    by_user false his = same
    by_user true his =
        absurd (true≢false (sym (eq-eqb (home o.seats d.user) (home o.seats user)
        (ap (home o.seats) (eqb-true d.user user his))) ∙ is))

  inside : (d : Deed) (xs : List Deed) (b : Bool)
      → cond b (cons_option (page_counted user d.user d.page d.act) (pages_counted user xs)) (pages_counted user xs)
      ≡ pages_counted user (cond b (d ∷ xs) xs)
  inside d xs true = refl
  inside d xs false = refl

  pub user_likes : (xs : List Deed) → pages_counted user xs ≡ pages_counted user (with_key user_home (home o.seats user) xs)
  user_likes [] = refl
  user_likes (d ∷ xs) =
      user_by d d.act xs (eqb (home o.seats d.user) (home o.seats user)) refl (user_likes xs)
      ∙ inside d (with_key user_home (home o.seats user) xs) (eqb (home o.seats d.user) (home o.seats user))

-- a store counts what deeds counted, and has the last likes that they say
adds_deed : (page : ℕ) (d : Deed) → adds_by page (asked d.user d.page d.act) ≡ likes_counted page d.page d.act
adds_deed page d = by d.act where
  by : (a : Act) → adds_by page (asked d.user d.page a) ≡ likes_counted page d.page a
  by counted = refl
  by (showed s) = refl
  by (glimpsed s) = refl

pub count_is : (s : Store) (deeds : List Deed) (page : ℕ)
    → (store_after s deeds).count page ≡ s.count page + likes_among page deeds
count_is s deeds page =
    let ask = λ (d : Deed). asked d.user d.page d.act in
    store.count_after s (map ask deeds) page
    ∙ ap (λ n. s.count page + n)
    (weigh-map (adds_by page) ask deeds
    ∙ weigh-alike (λ d. adds_by page (ask d)) (λ d. likes_counted page d.page d.act) deeds (adds_deed page)
    ∙ sym (sum-weigh (λ (d : Deed). likes_counted page d.page d.act) deeds))

pages_are : (user : ℕ) (deeds : List Deed)
    → filter_map (page_by user) (map (λ (d : Deed). asked d.user d.page d.act) deeds) ≡ pages_counted user deeds
pages_are user [] = refl
pages_are user (d ∷ deeds) = ap₂ cons_option (by d.act) (pages_are user deeds) where
  by : (a : Act) → page_by user (asked d.user d.page a) ≡ page_counted user d.user d.page a
  by counted = refl
  by (showed s) = refl
  by (glimpsed s) = refl

pub last_is : (s : Store) (deeds : List Deed) (user : ℕ)
    → (store_after s deeds).last user ≡ last_or (s.last user) (pages_counted user deeds)
last_is s deeds user =
    store.last_after s (map (λ (d : Deed). asked d.user d.page d.act) deeds) user
    ∙ ap (last_or (s.last user)) (pages_are user deeds)

-- so a deed that shows these fits the store, and the other way round
pub fits_store : (o : Opening) (deeds : List Deed) (d : Deed)
    → ShowsLast (last_after o d.user deeds) d.act
    → ShowsCount (count_after o d.page deeds) d.act
    → Fits (store_after (opened o) deeds) d.user d.page d.act
fits_store o deeds d = by d.act where
  by : (a : Act)
      → ShowsLast (last_after o d.user deeds) a
      → ShowsCount (count_after o d.page deeds) a
      → Fits (store_after (opened o) deeds) d.user d.page a
  by counted last count = tt
  by (showed s) last count =
      ap₂ Seen (last_is (opened o) deeds d.user ∙ sym last) (count_is (opened o) deeds d.page ∙ sym count)
  by (glimpsed s) last count = last_is (opened o) deeds d.user ∙ sym last

pub shows_count : (o : Opening) (deeds : List Deed) (d : Deed)
    → Fits (store_after (opened o) deeds) d.user d.page d.act
    → ShowsCount (count_after o d.page deeds) d.act
shows_count o deeds d = by d.act where
  by : (a : Act) → Fits (store_after (opened o) deeds) d.user d.page a → ShowsCount (count_after o d.page deeds) a
  by counted fits = tt
  by (showed s) fits = sym (ap count_in fits) ∙ count_is (opened o) deeds d.page
  by (glimpsed s) fits = tt
