-- Where among its seat's entries each deed has its own. A like of a row may share that of the deed before it.
use Rattle.std.proofs.Common.{◌≡◌, ℕ, zero, suc, ◌≤◌, ◌<◌, ◌⊎◌, inl, inr, Bool, true, false, List, [], ◌∷◌, ◌++◌, drop, length, reverse, slice_get, take, Some, refl, ap, sym, ◌∙◌, subst, subst₂, arith, append_assoc}
use Rattle.std.specs.List.{AllByRecursion}
use Rattle.std.proofs.lemmas.Bool.{cases_lt}
use Rattle.std.proofs.lemmas.List.{length-append, length-reverse, reverse-append}
use mathlib.Core.List.{reverse-cons}
use Rattle.like_core.specs.declared.log.LogEntry.{LogEntry}
use Rattle.like_core.specs.declared.log.LogEntry.TheVariants.{Did, Saw}
use Rattle.like_core.specs.declared.log.Logged.{Logged}
use Rattle.like_core.specs.declared.page_step.PageCall.{PageCall}
use Rattle.like_core.specs.declared.page_step.PageCall.TheVariants.{Add}
use Rattle.like_core.specs.Log.{latest_number}
use Rattle.like_core.specs.views.Clock.{GoesOn}
use Rattle.like_seat.specs.StationView.{phase_at}
use Rattle.like_serial.proofs.Increasing.{Earlier, Increases, Pairwise, rec_at}
use Rattle.like_serial.proofs.Parts.{at_place, place_of_part}
use Rattle.like_serial.proofs.Phases.{all_then}
use Rattle.like_serial.proofs.Seen.{not_some, some_is}
use Rattle.like_live.specs.LiveView.{LiveView}
use Rattle.like_live.specs.Moves.{looked}
use Rattle.like_live.specs.Deeds.{Act, Deed, IsEntryFor, counted, deeds_of, glimpsed, showed}
use Rattle.like_live.specs.History.{HasDone, HasLatest, IsLookOrLike, Told}
use Rattle.like_live.proofs.CallSteps.{by_calls}
use Rattle.like_live.proofs.DeedEntries.{Enters, HaveEntries, enters, goes_both, since_is}
use Rattle.like_live.proofs.Places.{within}
use Rattle.like_live.proofs.Running.{runs_split}
use Rattle.like_live.proofs.Stepping.{FollowsRows, next, done_by, slices_like}

-- an entry that a deed may have: its own, or of a like, any look or like
abbrev pub MayHave : ℕ → (phase page : ℕ) → Act → LogEntry → Type 0
MayHave worker phase page counted entry = IsLookOrLike worker phase entry
MayHave worker phase page act entry = IsEntryFor worker phase page act entry

may_have : (worker phase page : ℕ) (a : Act) (entry : LogEntry) → IsEntryFor worker phase page a entry
    → MayHave worker phase page a entry
may_have worker phase page counted entry (inl is) = inl is
may_have worker phase page counted entry (inr is) = inr (page, is.0, is.1)
may_have worker phase page (showed s) entry is = is
may_have worker phase page (glimpsed s) entry is = is

-- who shares an entry with a like is a like
abbrev call_likes : PageCall → Bool
call_likes (Add n) = true
call_likes call = false

abbrev entry_likes : LogEntry → Bool
entry_likes (Saw worker phase) = true
entry_likes (Did s) = call_likes s.call

likes_alike : (worker phase page other later : ℕ) (a : Act) (entry : LogEntry) → MayHave worker phase page a entry
    → IsLookOrLike other later entry → a ≡ counted
likes_alike worker phase page other later a entry has like = by a has (is_like like) where
  is_like : IsLookOrLike other later entry → entry_likes entry ≡ true
  is_like (inl is) = ap entry_likes is
  is_like (inr is) = ap entry_likes is.2

  by : (a : Act) → MayHave worker phase page a entry → entry_likes entry ≡ true → a ≡ counted
  by counted has is = refl
  by (showed s) has is = absurd (cc (sym (ap entry_likes has) ∙ is))
  by (glimpsed s) has is = absurd (cc (sym (ap entry_likes has.1) ∙ is))

-- a deed has the entry at a place: a free one, from a place on, or it is a like that shares the last that was taken
pub record HasPlace (worker : ℕ) (es : List Logged) (from : ℕ) (d : Deed) : Type 0 where
  pub place : ℕ
  pub entry : Logged
  pub there : slice_get es place ≡ Some entry
  pub free : (from ≤ place) ⊎ ((suc place ≡ from) × (d.act ≡ counted))
  pub number : entry.number ≡ d.number
  pub is : MayHave worker d.phase d.page d.act entry.entry

-- and so have deeds, one after the other
abbrev pub HavePlaces : ℕ → List Logged → ℕ → List Deed → Type 0
HavePlaces worker es from [] = Unit {0}
HavePlaces worker es from (d ∷ ds) = (p : HasPlace worker es from d) × HavePlaces worker es (suc p.place) ds

abbrev sooner : (worker : ℕ) (es : List Logged) (from to : ℕ) (d : Deed) → to ≤ from → HasPlace worker es from d
    → HasPlace worker es to d
sooner worker es from to d less p = record {
  place = p.place;
  entry = p.entry;
  there = p.there;
  free = elim p.free [
    | inl more ↦ inl (omega (arith, less, more))
    | inr same ↦
        let last = same.0 in
        elim (cases_lt p.place to) [
          | inl below ↦ inr (omega (arith, less, last, below), same.1)
          | inr past ↦ inl past
        ]
  ];
  number = p.number;
  is = p.is;
}

all_sooner : (worker : ℕ) (es : List Logged) (from to : ℕ) (ds : List Deed) → to ≤ from → HavePlaces worker es from ds
    → HavePlaces worker es to ds
all_sooner worker es from to [] less ps = tt
all_sooner worker es from to (d ∷ ds) less ps = (sooner worker es from to d less ps.0, ps.1)

-- the entry at a place of a list is there in a longer one
at_front : {X : Type 0} (xs ys : List X) (i : ℕ) (x : X) → slice_get xs i ≡ Some x → slice_get (xs ++ ys) i ≡ Some x
at_front [] ys i x at = absurd (not_some x at)
at_front (z ∷ xs) ys zero x at = at
at_front (z ∷ xs) ys (suc i) x at = at_front xs ys i x at

abbrev longer : (worker : ℕ) (es more : List Logged) (from : ℕ) (d : Deed) → HasPlace worker es from d
    → HasPlace worker (es ++ more) from d
longer worker es more from d p = record {
  place = p.place;
  entry = p.entry;
  there = at_front es more p.place p.entry p.there;
  free = p.free;
  number = p.number;
  is = p.is;
}

-- deeds of later entries behind those of earlier ones
places-append : (worker : ℕ) (es more : List Logged) (from : ℕ) (ds rest : List Deed) → from ≤ length es
    → HavePlaces worker es from ds → HavePlaces worker (es ++ more) (length es) rest
    → HavePlaces worker (es ++ more) from (ds ++ rest)
places-append worker es more from [] rest less first second =
    all_sooner worker (es ++ more) (length es) from rest less second
places-append worker es more from (d ∷ ds) rest less first second = (
  longer worker es more from d first.0,
  places-append worker es more (suc first.0.place) ds rest
      (let there = within es first.0.place first.0.entry first.0.there in omega (arith, there)) first.1 second,
)

one_more : {X : Type 0} (xs : List X) (x : X) → length (xs ++ x ∷ []) ≡ suc (length xs)
one_more xs x = let both = length-append xs (x ∷ []) in omega (arith, both)

-- deeds that have entries of their own
own_places : (worker : ℕ) (front es : List Logged) (ds : List Deed) → HaveEntries worker es ds
    → HavePlaces worker (front ++ es) (length front) ds
own_places worker front es [] has = tt
own_places worker front [] (d ∷ ds) has = absurd has
own_places worker front (e ∷ es) (d ∷ ds) (inl here) = (
  record {
    place = length front;
    entry = e;
    there = place_of_part front e es;
    free = inl (omega arith);
    number = here.0.0;
    is = may_have worker d.phase d.page d.act e.entry here.0.1;
  },
  subst₂ (λ xs n. HavePlaces worker xs n ds) (append_assoc front (e ∷ []) es) (one_more front e)
      (own_places worker (front ++ e ∷ []) es ds here.1),
)
own_places worker front (e ∷ es) (d ∷ ds) (inr later) =
    subst (λ xs. HavePlaces worker xs (length front) (d ∷ ds)) (append_assoc front (e ∷ []) es)
    (all_sooner worker ((front ++ e ∷ []) ++ es) (length (front ++ e ∷ [])) (length front) (d ∷ ds)
    (let one = one_more front e in omega (arith, one)) (own_places worker (front ++ e ∷ []) es (d ∷ ds) later))

-- each call goes on, and its deeds have places among its seat's entries
abbrev Places : LiveView → List Deed → LiveView → Type 0
Places v ds after =
    GoesOn v.station.post after.station.post
    × HavePlaces v.station.post.worker (reverse after.station.post.logged) (length v.station.post.logged) ds

by_entries : (v after : LiveView) (ds : List Deed) → Enters v ds after → Places v ds after
by_entries v after ds all =
    let made = v.station.post.logged in
    let since = all.0.since in (
      all.0,
      subst₂ (λ es n. HavePlaces v.station.post.worker es n ds)
          (ap (λ es. reverse made ++ es) (since_is v after since all.0.logged)
          ∙ sym (ap reverse all.0.logged ∙ reverse-append since made))
          (length-reverse made)
          (own_places v.station.post.worker (reverse made) _ ds all.1),
    )

-- the latest entry is the last in their order
record IsLast (P : Logged → Type 0) (logged : List Logged) : Type 0 where
  place : ℕ
  entry : Logged
  there : slice_get (reverse logged) place ≡ Some entry
  last : suc place ≡ length logged
  number : entry.number ≡ latest_number logged
  is : P entry

latest_is : (P : Logged → Type 0) (logged : List Logged) → HasLatest P logged → IsLast P logged
latest_is P [] has = absurd has
latest_is P (e ∷ logged) has = record {
  place = length logged;
  entry = e;
  there = subst₂ (λ xs n. slice_get xs n ≡ Some e) (sym (reverse-cons e logged)) (length-reverse logged)
      (place_of_part (reverse logged) e []);
  last = refl;
  number = refl;
  is = has;
}

places : FollowsRows Places
places = record {
  calls = record {
    none = λ v. (record { worker = refl; since = []; logged = refl }, tt);
    both = λ v now after ds rest first second.
        let a = first.0 in
        let b = second.0 in
        let made = reverse now.station.post.logged in
        let more = reverse b.since in
        let whole : made ++ more ≡ reverse after.station.post.logged =
        sym (ap reverse b.logged ∙ reverse-append b.since now.station.post.logged) in (
          goes_both v.station.post now.station.post after.station.post a b,
          subst (λ es. HavePlaces v.station.post.worker es (length v.station.post.logged) (ds ++ rest)) whole
              (places-append v.station.post.worker made more (length v.station.post.logged) ds rest
              (omega (
                arith,
                length-reverse now.station.post.logged,
                ap length a.logged,
                length-append a.since v.station.post.logged,
              ))
              first.1
              (subst₂ (λ es n. HavePlaces v.station.post.worker es n rest) (sym whole)
              (sym (length-reverse now.station.post.logged))
              (subst (λ w. HavePlaces w (reverse after.station.post.logged) (length now.station.post.logged) rest) a.worker
              second.1))),
        );
    one = λ v s plain. by_entries v (next v s) (done_by v s) (enters.one v s plain);
    slice = λ v sight mask number user page can is.
        let w = looked v sight mask number in
        by_entries v (next w (slices_like user page is)) (done_by w (slices_like user page is))
        (enters.slice v sight mask number user page can is);
  };
  row = λ v user page is row.
      let l = latest_is (λ e. IsLookOrLike v.station.post.worker (phase_at v.station) e.entry) v.station.post.logged
      (row.latest (runs_split v.station.post page is.runs is.at)) in (
        record { worker = refl; since = []; logged = refl },
        (
          record {
            place = l.place;
            entry = l.entry;
            there = l.there;
            free = inr (l.last, refl);
            number = l.number;
            is = l.is;
          },
          tt,
        ),
      );
}

pub calls_have_places : (told : List Told) (v after : LiveView) (done : HasDone v told after)
    → HavePlaces v.station.post.worker (reverse after.station.post.logged) (length v.station.post.logged)
    (deeds_of told v after done)
calls_have_places told v after done = (by_calls Places places told v after done).1

-- so has each of them
pub each_place : (worker : ℕ) (es : List Logged) (from : ℕ) (ds : List Deed) → HavePlaces worker es from ds
    → AllByRecursion (HasPlace worker es from) ds
each_place worker es from [] ps = tt
each_place worker es from (d ∷ ds) ps =
    let less : from ≤ suc ps.0.place = elim ps.0.free [
      | inl more ↦ omega (arith, more)
      | inr same ↦ (let last = same.0 in omega (arith, last))
    ] in
    (ps.0, each_place worker es from ds (all_sooner worker es (suc ps.0.place) from ds less ps.1))

-- entries at places
places_increase : {X : Type 0} (number : X → ℕ) (xs : List X) → Increases number xs → (i j : ℕ) (x y : X)
    → slice_get xs i ≡ Some x → slice_get xs j ≡ Some y → i < j → number x < number y
places_increase number [] up i j x y at there less = absurd (not_some x at)
places_increase number (z ∷ xs) up i zero x y at there less = absurd (omega (arith, less))
places_increase number (z ∷ xs) up zero (suc j) x y at there less =
    rec_at (λ w. number x < number w) (take j xs) y (drop (suc j) xs) xs
    (subst (λ w. AllByRecursion (λ v. number w < number v) xs) (some_is z x at) up.0) (at_place xs j y there)
places_increase number (z ∷ xs) up (suc i) (suc j) x y at there less =
    places_increase number xs up.1 i j x y at there (omega (arith, less))

-- where the entries' numbers rise, deeds are in time, and share a number only as likes
pub places_in_time : (worker : ℕ) (es : List Logged) → Increases (λ e. e.number) es → (from : ℕ) (ds : List Deed)
    → HavePlaces worker es from ds → Pairwise (Earlier (λ d. d.number) (λ d. d.act ≡ counted)) ds
places_in_time worker es up from [] ps = tt
places_in_time worker es up from (d ∷ ds) ps = (
  all_then (HasPlace worker es (suc ps.0.place)) (Earlier (λ e. e.number) (λ e. e.act ≡ counted) d) ds (λ c q. by c q)
      (each_place worker es (suc ps.0.place) ds ps.1),
  places_in_time worker es up (suc ps.0.place) ds ps.1,
) where
  by : (c : Deed) → HasPlace worker es (suc ps.0.place) c → Earlier (λ (e : Deed). e.number) (λ e. e.act ≡ counted) d c
  by c q = elim q.free [
    | inl later ↦
        let less = places_increase (λ (e : Logged). e.number) es up ps.0.place q.place ps.0.entry q.entry ps.0.there q.there
        (omega (arith, later)) in
        let here = ps.0.number in
        let there = q.number in
        inl (omega (arith, less, here, there))
    | inr same ↦
        let last = same.0 in
        let place : q.place ≡ ps.0.place = omega (arith, last) in
        let entry : q.entry ≡ ps.0.entry =
        some_is q.entry ps.0.entry (sym q.there ∙ ap (slice_get es) place ∙ ps.0.there) in
        inr (
          sym ps.0.number ∙ ap (λ (e : Logged). e.number) (sym entry) ∙ q.number,
          likes_alike worker d.phase d.page worker c.phase d.act ps.0.entry.entry ps.0.is
              (subst (λ e. IsLookOrLike worker c.phase e.entry) entry
              (subst (λ a. MayHave worker c.phase c.page a q.entry.entry) same.1 q.is)),
          same.1,
        )
  ]
