-- The deeds of calls have entries that the calls made in the board's log.
use Rattle.std.proofs.Common.{◌≡◌, ◌⊎◌, ℕ, inl, inr, List, [], ◌∷◌, ◌++◌, drop, length, map, reverse, refl, ap, sym, ◌∙◌, subst, subst₂, append_assoc}
use Rattle.std.specs.List.{All, AllByRecursion, Contains}
use Rattle.std.proofs.lemmas.List.Elements.{Contains-get_or}
use Rattle.std.proofs.Math.Seq.{drop-append_seam}
use Rattle.std.proofs.lemmas.List.{length-reverse, map-append, reverse-append}
use mathlib.Core.List.{reverse-cons}
use Rattle.like_core.specs.declared.log.LogEntry.{LogEntry}
use Rattle.like_core.specs.declared.log.LogEntry.TheVariants.{Saw, Did}
use Rattle.like_core.specs.declared.log.Logged.{Logged}
use Rattle.like_core.specs.declared.page_step.PageStep.{PageStep}
use Rattle.like_core.specs.Log.{latest_number}
use Rattle.like_core.specs.PageSteps.{then_steps}
use Rattle.like_core.specs.declared.view.WorkerSeatView.{WorkerSeatView}
use Rattle.like_core.specs.views.Clock.{GoesOn}
use Rattle.like_core.proofs.Steps.{earliest-reverse, then-earliest}
use Rattle.like_seat.specs.Merge.{LogsSteps}
use Rattle.like_seat.specs.StationView.{phase_at}
use Rattle.like_seat.specs.Steps.{liked_last, sliced}
use Rattle.like_serial.proofs.Phases.{all_rec, rec_all}
use Rattle.like_serial.proofs.Parts.{head_is, not_cons, tail_is}
use Rattle.like_live.specs.declared.asked.Found.{Found}
use Rattle.like_live.specs.declared.answer.LikeAnswer.{LikeAnswer}
use Rattle.like_live.specs.declared.answer.LikeAnswer.TheVariants.{Liked}
use Rattle.like_live.specs.LiveView.{LiveView, with_station}
use Rattle.like_live.specs.Moves.{looked, step_for, with_found}
use Rattle.like_live.specs.Deeds.{Deed, DeedsHaveEntries, IsEntryOf, MakesEntry, SharesEntry, counted, deed_now, deeds_found, deeds_of_call, made_since}
use Rattle.like_live.specs.History.{HasLatest, IsInRow, IsLookOrLike, Told, like_on}
use Rattle.like_live.proofs.CallSteps.{IsSliced, by_call, by_row, row_deeds}
use Rattle.like_live.proofs.Running.{runs_split}
use Rattle.like_live.proofs.Stepping.{FollowsCalls, IsNoSlice, Step, acknowledges, adds_like, done_by, finds, glances, holds, looks, next, reads, reports, retires, returns, saw_phase, slices_like, takes}

-- some of these entries are those of the deeds, in the same order
abbrev pub HaveEntries : ℕ → List Logged → List Deed → Type 0
HaveEntries worker entries [] = Unit {0}
HaveEntries worker [] (d ∷ deeds) = ⊥
HaveEntries worker (e ∷ entries) (d ∷ deeds) =
    (IsEntryOf worker e d × HaveEntries worker entries deeds) ⊎ HaveEntries worker entries (d ∷ deeds)

-- what is true of all entries is true of the deeds that have them
pub have_all : (worker : ℕ) (P : Logged → Type 0) (Q : Deed → Type 0)
    → ((e : Logged) (d : Deed) → IsEntryOf worker e d → P e → Q d)
    → (es : List Logged) (ds : List Deed) → HaveEntries worker es ds → AllByRecursion P es → AllByRecursion Q ds
have_all worker P Q then es [] has all = tt
have_all worker P Q then [] (d ∷ ds) has all = absurd has
have_all worker P Q then (e ∷ es) (d ∷ ds) (inl here) all =
    (then e d here.0 all.0, have_all worker P Q then es ds here.1 all.1)
have_all worker P Q then (e ∷ es) (d ∷ ds) (inr later) all = have_all worker P Q then es (d ∷ ds) later all.1

-- deeds one after the other
skip : (worker : ℕ) (e : Logged) (es : List Logged) (ds : List Deed) → HaveEntries worker es ds
    → HaveEntries worker (e ∷ es) ds
skip worker e es [] has = tt
skip worker e es (d ∷ ds) has = inr has

skips : (worker : ℕ) (es fs : List Logged) (ds : List Deed) → HaveEntries worker fs ds → HaveEntries worker (es ++ fs) ds
skips worker [] fs ds has = has
skips worker (e ∷ es) fs ds has = skip worker e (es ++ fs) ds (skips worker es fs ds has)

have-append : (worker : ℕ) (es fs : List Logged) (ds cs : List Deed) → HaveEntries worker es ds
    → HaveEntries worker fs cs → HaveEntries worker (es ++ fs) (ds ++ cs)
have-append worker es fs [] cs has more = skips worker es fs cs more
have-append worker [] fs (d ∷ ds) cs has more = absurd has
have-append worker (e ∷ es) fs (d ∷ ds) cs (inl here) more =
    inl (here.0, have-append worker es fs ds cs here.1 more)
have-append worker (e ∷ es) fs (d ∷ ds) cs (inr later) more =
    inr (have-append worker es fs (d ∷ ds) cs later more)

-- a seat that goes on by some entries has made these since
pub since_is : (v now : LiveView) (since : List Logged) → now.station.post.logged ≡ since ++ v.station.post.logged
    → made_since v now ≡ reverse since
since_is v now since logged =
    let made = reverse v.station.post.logged in
    ap (drop (length v.station.post.logged)) (ap reverse logged ∙ reverse-append since v.station.post.logged)
    ∙ ap (λ n. drop n (made ++ reverse since)) (sym (length-reverse v.station.post.logged))
    ∙ drop-append_seam made (reverse since)

-- the entries of found looks are their reads
map-reverse : {A B : Type 0} (f : A → B) (xs : List A) → map f (reverse xs) ≡ reverse (map f xs)
map-reverse f [] = refl
map-reverse f (x ∷ xs) =
    ap (map f) (reverse-cons x xs) ∙ map-append f (reverse xs) (x ∷ [])
    ∙ ap (λ ys. ys ++ f x ∷ []) (map-reverse f xs) ∙ sym (reverse-cons (f x) (map f xs))

then-reverse : (steps : List PageStep) → reverse (then_steps [] steps) ≡ steps
then-reverse steps = sym (earliest-reverse (then_steps [] steps)) ∙ then-earliest [] steps

made_in_order : (steps : List PageStep) (before after : List Logged) (logs : LogsSteps steps before after)
    → map (λ e. e.entry) (reverse logs.since) ≡ map (λ s. Did s) steps
made_in_order steps before after logs =
    map-reverse (λ (e : Logged). e.entry) logs.since ∙ ap reverse logs.made
    ∙ sym (map-reverse (λ (s : PageStep). Did s) (then_steps [] steps))
    ∙ ap (map (λ (s : PageStep). Did s)) (then-reverse steps)

found_entries : (worker : ℕ) (es : List Logged) (found : List Found)
    → map (λ e. e.entry) es ≡ map (λ s. Did s) (map (step_for worker) found)
    → HaveEntries worker es (deeds_found es found)
found_entries worker es [] same = tt
found_entries worker [] (f ∷ found) same = absurd (not_cons _ _ same)
found_entries worker (e ∷ es) (f ∷ found) same =
    inl ((refl, head_is e.entry (Did (step_for worker f)) _ _ same), found_entries worker es found (tail_is _ _ _ _ same))

-- who goes on and goes on again goes on from first to last
abbrev pub goes_both : (u v w : WorkerSeatView) → GoesOn u v → GoesOn v w → GoesOn u w
goes_both u v w a b = record {
  worker = b.worker ∙ a.worker;
  since = b.since ++ a.since;
  logged = b.logged ∙ ap (λ es. b.since ++ es) a.logged ∙ sym (append_assoc b.since a.since u.logged);
}

-- each step, and so each call, goes on and has its deeds' entries
abbrev pub Enters : LiveView → List Deed → LiveView → Type 0
Enters v ds after =
    GoesOn v.station.post after.station.post × HaveEntries v.station.post.worker (made_since v after) ds

goes_on : (v now : LiveView) (ds : List Deed) (since : List Logged)
    → now.station.post.worker ≡ v.station.post.worker → now.station.post.logged ≡ since ++ v.station.post.logged
    → HaveEntries v.station.post.worker (reverse since) ds → Enters v ds now
goes_on v now ds since same logged has = (
  record { worker = same; since = since; logged = logged },
  subst (λ es. HaveEntries v.station.post.worker es ds) (sym (since_is v now since logged)) has,
)

by_step : (v : LiveView) (s : Step v) (since : List Logged) → (next v s).station.post.worker ≡ v.station.post.worker
    → (next v s).station.post.logged ≡ since ++ v.station.post.logged
    → HaveEntries v.station.post.worker (reverse since) (done_by v s) → Enters v (done_by v s) (next v s)
by_step v s since same logged has = goes_on v (next v s) (done_by v s) since same logged has

enters_one : (v : LiveView) (s : Step v) → IsNoSlice v s → Enters v (done_by v s) (next v s)
enters_one v (looks sight mask number can) plain = by_step v (looks sight mask number can) (_ ∷ []) refl refl tt
enters_one v (finds found logged joined order shown logs) plain =
    let w = with_found v found logged in (
      record { worker = refl; since = logs.since; logged = logs.logged },
      found_entries v.station.post.worker (made_since v w) found
          (ap (map (λ (e : Logged). e.entry)) (since_is v w logs.since logs.logged)
          ∙ made_in_order (map (step_for v.station.post.worker) found) v.station.post.logged logged logs),
    )
enters_one v (acknowledges joined) plain = by_step v (acknowledges joined) [] refl refl tt
enters_one v (reports adds logged split merges logs) plain =
    by_step v (reports adds logged split merges logs) logs.since refl logs.logged tt
enters_one v (retires joined) plain = by_step v (retires joined) [] refl refl tt
enters_one v (returns phase mask number gone) plain =
    by_step v (returns phase mask number gone) (_ ∷ []) refl refl tt
enters_one v takes plain = by_step v takes [] refl refl tt
enters_one v (slices_like user page is) plain = absurd plain
enters_one v (adds_like user page old number is) plain =
    by_step v (adds_like user page old number is) (_ ∷ []) refl refl (inl ((refl, inr (old, refl)), tt))
enters_one v (reads user page shown number is last) plain =
    by_step v (reads user page shown number is last) (_ ∷ []) refl refl (inl ((refl, refl), tt))
enters_one v (glances user page count shown number is last) plain =
    by_step v (glances user page count shown number is last) (_ ∷ []) refl refl (inl ((refl, (count, refl)), tt))
enters_one v (holds user page tag is) plain = by_step v (holds user page tag is) [] refl refl tt

pub enters : FollowsCalls Enters
enters = record {
  none = λ v. goes_on v v [] [] refl refl tt;
  both = λ v now after ds rest first second.
      let a = first.0 in
      let b = second.0 in
      let all = goes_both v.station.post now.station.post after.station.post a b in
      goes_on v after (ds ++ rest) (b.since ++ a.since) all.worker all.logged
      (subst (λ es. HaveEntries v.station.post.worker es (ds ++ rest)) (sym (reverse-append b.since a.since))
      (have-append v.station.post.worker (reverse a.since) (reverse b.since) ds rest
      (subst (λ es. HaveEntries v.station.post.worker es ds) (since_is v now a.since a.logged) first.1)
      (subst₂ (λ w es. HaveEntries w es rest) a.worker (since_is now after b.since b.logged) second.1)));
  one = enters_one;
  slice = λ v sight mask number user page can is.
      let w = looked v sight mask number in
      goes_on v (next w (slices_like user page is)) (done_by w (slices_like user page is)) (_ ∷ []) refl refl
      (inl ((refl, inl (ap (Saw v.station.post.worker) (saw_phase v.station.post.state sight can is.runs))), tt));
}

-- so the deeds of any call but a like of a row have entries
abbrev HasEntries : LiveView → Told → LiveView → Type 0
HasEntries v t now =
    GoesOn v.station.post now.station.post × All (λ d. MakesEntry v now d ⊎ SharesEntry v t d) (deeds_of_call v t now)

made_entries : (v now : LiveView) (t : Told) → Enters v (deeds_of_call v t now) now → HasEntries v t now
made_entries v now t all =
    let worker = v.station.post.worker in
    let made = made_since v now in
    let deeds = deeds_of_call v t now in
    let Has : Deed → Type 0 = λ d. MakesEntry v now d ⊎ SharesEntry v t d in (
      all.0,
      rec_all Has deeds
          (have_all worker (Contains made) Has (λ e d is there. inl (e, there, is)) made deeds all.1
          (all_rec (Contains made) made (λ k d below. Contains-get_or made k d below))),
    )

-- a like of a row that goes into the slice has its seat's latest number
latest_has : (P : LogEntry → Type 0) (logged : List Logged) → HasLatest (λ e. P e.entry) logged
    → HasLatest (λ e. (e.number ≡ latest_number logged) × P e.entry) logged
latest_has P [] has = absurd has
latest_has P (e ∷ logged) has = (refl, has)

shared_entry : (v now : LiveView) (user page : ℕ) (told : LikeAnswer) → IsInRow v → IsSliced v now user page told
    → HasEntries v (like_on user page told) now
shared_entry v now user page told row s =
    subst (λ x. HasEntries v (like_on user page x) now) (sym s.told_is)
    (subst (HasEntries v (like_on user page Liked)) (sym s.is) (by (row_deeds v after user page Liked refl)))
  where
    after : LiveView
    after = with_station v (liked_last (sliced v.station page) user page)

    d : Deed
    d = deed_now after user page counted

    shares : SharesEntry v (like_on user page Liked) d
    shares = record {
      call = refl;
      act = refl;
      latest = latest_has (IsLookOrLike v.station.post.worker (phase_at v.station)) v.station.post.logged
          (row.latest (runs_split v.station.post page row.runs s.at));
    }

    by : deeds_of_call v (like_on user page Liked) after ≡ d ∷ []
        → HasEntries v (like_on user page Liked) after
    by is = (
      record { worker = refl; since = []; logged = refl },
      subst (All (λ c. MakesEntry v after c ⊎ SharesEntry v (like_on user page Liked) c)) (sym is)
          (rec_all (λ c. MakesEntry v after c ⊎ SharesEntry v (like_on user page Liked) c) (d ∷ []) (inr shares, tt)),
    )

pub deeds_have_entries : DeedsHaveEntries
deeds_have_entries v now (like_on user page told) does =
    elim (by_row Enters enters v now user page told does.0.runs does.1) [
      | inl all ↦ made_entries v now (like_on user page told) all
      | inr s ↦ shared_entry v now user page told does.0 s
    ]
deeds_have_entries v now t does = made_entries v now t (by_call Enters enters t tt v now does)
