-- The law of histories.
use Rattle.std.proofs.Common.{◌≡◌, ℕ, ◌+◌, ◌<◌, true, false, cond, List, [], ◌∷◌, ◌++◌, length, map, drop, get_or, Option, Some, None, refl, ap, sym, ◌∙◌, subst, arith, append-nil, append_assoc}
use Rattle.std.specs.List.{last_or, slice_get}
use Rattle.std.proofs.lemmas.List.{length-replicate, length-set, map-append}
use Rattle.std.proofs.lemmas.List.FromFn.{length-map-range_with_len}
use Rattle.std.proofs.lemmas.List.Sums.{sum_by-cons}
use Rattle.like_core.specs.declared.worker_state.WorkerState.TheVariants as state
use Rattle.like_core.specs.Additions.{added_to}
use Rattle.like_core.specs.Post.{is_split_at}
use Rattle.like_core.specs.PageSteps.{additions_among}
use Rattle.like_core.specs.declared.view.WorkerSeatView.{WorkerSeatView}
use Rattle.like_seat.specs.StationView.{phase_at}
use Rattle.like_seat.proofs.MergedLikes.{same_everywhere}
use Rattle.like_tables.specs.Share.{owns}
use Rattle.like_tables.specs.UserTable.{UserTable, last_in, last_of}
use Rattle.like_tables.specs.StashView.{StashView}
use Rattle.like_live.specs.declared.answer.GlanceAnswer.{GlanceAnswer}
use Rattle.like_live.specs.declared.answer.LikeAnswer.{LikeAnswer}
use Rattle.like_live.specs.declared.answer.LikeAnswer.TheVariants.{Liked}
use Rattle.like_live.specs.declared.answer.LookAnswer.{LookAnswer}
use Rattle.like_live.specs.declared.answer.LookAnswer.TheVariants.{Waits}
use Rattle.like_live.specs.declared.asked.Asked.{Asked}
use Rattle.like_live.specs.declared.asked.Found.{Found}
use Rattle.like_live.specs.LiveView.{LiveView, tally, waiting, with_station}
use Rattle.like_live.specs.Calls as calls
use Rattle.like_live.specs.Calls.{GlanceCase, GlancesNow, LikeCase, LikesNow, LookCase, LooksNow, TakesFound, asked_in}
use Rattle.like_live.specs.History.{Does, HasDone, HistoriesAreCounted, IsUnused, NoneWaitsOnceGone, TaggedLook, Told, come_back, glance, like, like_on, like_told, likes_told, look, look_of, look_taken, look_told, look_waiting, looks_left, looks_taken, looks_told, page_liked, pages_liked, retire, take_found, turn}
use Rattle.like_live.proofs.Calling.{LikesNow-tallies}
use Rattle.like_live.proofs.Telling.{IsQuiet, IsQuiet-both, IsQuiet-come_back, IsQuiet-moves, IsQuiet-retires, IsQuiet-same, IsTold, IsTold-after, IsTold-quiet, IsWhole, TellsNothing, is_counted, last-more, merged-looks, user_there}

-- a like at a seat that runs a phase
told-like : (v after : LiveView) (user page : ℕ) (answer : LikeAnswer)
    → IsWhole v
    → LikesNow v user page answer after
    → IsTold v after (like user page answer)
told-like v after user page answer whole (calls.refused fails a is) =
    IsTold-quiet v after (like user page answer) (subst (IsQuiet v) (sym is) (IsQuiet-same v whole))
    (subst (λ x. TellsNothing (like user page x)) (sym a)
    (record { likes = λ p. refl; pages = λ u. refl; taken = refl; told = refl }))
told-like v after user page answer whole (calls.full accepted most a is) =
    IsTold-quiet v after (like user page answer) (subst (IsQuiet v) (sym is) (IsQuiet-same v whole))
    (subst (λ x. TellsNothing (like user page x)) (sym a)
    (record { likes = λ p. refl; pages = λ u. refl; taken = refl; told = refl }))
told-like v after user page answer whole (calls.liked old s accepted few a counts is) =
    let c = is_counted v.station s user page old counts in
    let there = subst (λ n. user < n) (sym whole.table) (user_there v.station user page accepted) in
    let done : LikesNow v user page answer after = calls.liked old s accepted few a counts is in
    record {
      whole = subst IsWhole (sym is) (record {
        sized = c.sized ∙ whole.sized ∙ ap length (sym c.marks);
        table = ap (λ (t : UserTable). length t.last) c.last ∙ length-set v.station.last.last user (Some page)
            ∙ whole.table ∙ ap (λ (t : UserTable). t.share.users) (sym c.last);
        empty = λ gone. ap (λ (w : StashView Asked). w.looks) c.stash ∙ whole.empty (sym c.is_in ∙ gone);
      });
      tallies = LikesNow-tallies v after user page answer whole.sized done;
      last = λ other.
          ap (λ (w : LiveView). last_of w.station.last other) is ∙ ap (λ (t : UserTable). last_of t other) c.last
          ∙ last-more v.station.last user page other there
          ∙ sym (ap (λ x. last_or (last_of v.station.last other) (page_liked other (like user page x))) a);
      looks = ap looks_left is ∙ merged-looks v s c.stash ∙ sym (append-nil (looks_left v));
    }

-- and a like of a row
told-row : (v after : LiveView) (user page : ℕ) (answer : LikeAnswer)
    → IsTold v after (like user page answer)
    → IsTold v after (like_on user page answer)
told-row v after user page answer t = record {
  whole = t.whole;
  tallies = t.tallies;
  last = λ other. t.last other ∙ ap (last_or (last_of v.station.last other)) (pages other answer);
  looks = t.looks;
}
  where
    pages : (other : ℕ) (answer : LikeAnswer)
        → page_liked other (like user page answer) ≡ page_liked other (like_on user page answer)
    pages other Liked = refl
    pages other answer = refl

-- a look at a seat that runs a phase
told-look : (v after : LiveView) (user page tag : ℕ) (answer : LookAnswer)
    → IsWhole v
    → LooksNow v user page tag answer after
    → IsTold v after (look user page tag answer)
told-look v after user page tag answer whole (calls.refused fails a is) =
    IsTold-quiet v after (look user page tag answer) (subst (IsQuiet v) (sym is) (IsQuiet-same v whole))
    (subst (λ x. TellsNothing (look user page tag x)) (sym a)
    (record { likes = λ p. refl; pages = λ u. refl; taken = refl; told = refl }))
told-look v after user page tag answer whole (calls.no_room accepted split none a is) =
    IsTold-quiet v after (look user page tag answer) (subst (IsQuiet v) (sym is) (IsQuiet-same v whole))
    (subst (λ x. TellsNothing (look user page tag x)) (sym a)
    (record { likes = λ p. refl; pages = λ u. refl; taken = refl; told = refl }))
told-look v after user page tag answer whole (calls.seen shown s accepted plain a reads is) =
    IsTold-quiet v after (look user page tag answer)
    (subst (IsQuiet v) (sym (is ∙ ap (with_station v) reads.read)) (record {
      whole = record { sized = whole.sized; table = whole.table; empty = whole.empty };
      tallies = λ p. refl;
      last = refl;
      looks = refl;
    }))
    (subst (λ x. TellsNothing (look user page tag x)) (sym a)
    (record { likes = λ p. refl; pages = λ u. refl; taken = refl; told = refl }))
told-look v after user page tag answer whole (calls.waits accepted split room a is) =
    subst (λ x. IsTold v after (look user page tag x)) (sym a)
    (subst (λ w. IsTold v w (look user page tag Waits)) (sym is) (record {
      whole = record {
        sized =
            whole.sized;
        table = whole.table;
        empty = λ gone. absurd (gone-plain v.station.post page gone split);
      };
      tallies = λ p. omega arith;
      last = λ u. refl;
      looks =
          ap (λ xs. map look_of v.found ++ xs) (map-append look_waiting (waiting v) (asked_in (phase_at v.station) user page tag ∷ []))
          ∙ sym (append_assoc (map look_of v.found) (map look_waiting (waiting v))
          (look_waiting (asked_in (phase_at v.station) user page tag) ∷ []));
    }))
  where
    -- no page is split for one that is gone
    gone-plain : (post : WorkerSeatView) (page : ℕ) → post.state ≡ state.Gone → is_split_at post page ≡ true → ⊥
    gone-plain post page gone split =
        let e : is_split_at post page ≡ false = ap (λ s. is_split_at (record post { state = s }) page) gone in
        absurd (cc (sym e ∙ split))

-- a glance at a seat that runs a phase
quiet-glance : (v after : LiveView) (user page : ℕ) (answer : GlanceAnswer)
    → IsWhole v
    → GlancesNow v user page answer after
    → IsQuiet v after
quiet-glance v after user page answer whole (calls.refused fails a is) =
    subst (IsQuiet v) (sym is) (IsQuiet-same v whole)
quiet-glance v after user page answer whole (calls.plain shown s accepted plain a reads is) =
    subst (IsQuiet v) (sym (is ∙ ap (with_station v) reads.read)) (record {
      whole = record { sized = whole.sized; table = whole.table; empty = whole.empty };
      tallies = λ p. refl;
      last = refl;
      looks = refl;
    })
quiet-glance v after user page answer whole (calls.split shown s accepted split a glances is) =
    subst (IsQuiet v) (sym (is ∙ ap (with_station v) glances.glanced)) (record {
      whole = record { sized = whole.sized; table = whole.table; empty = whole.empty };
      tallies = λ p. refl;
      last = refl;
      looks = refl;
    })

told-glance : (v after : LiveView) (user page : ℕ) (answer : GlanceAnswer)
    → IsQuiet v after
    → IsTold v after (glance user page answer)
told-glance v after user page answer q =
    IsTold-quiet v after (glance user page answer) q
    (record { likes = λ p. refl; pages = λ u. refl; taken = refl; told = refl })

-- a found look that is taken
takes-looks : (fs : List Found) (waits : List TaggedLook) (taken : Option Found) → taken ≡ slice_get fs 0
    → look_taken (take_found taken) ++ (map look_of (drop 1 fs) ++ waits) ≡ map look_of fs ++ waits
takes-looks [] waits taken e = ap (λ (o : Option Found). look_taken (take_found o) ++ waits) e
takes-looks (f ∷ fs) waits taken e = ap (λ (o : Option Found). look_taken (take_found o) ++ (map look_of fs ++ waits)) e

told-take : (v after : LiveView) (taken : Option Found)
    → IsWhole v
    → TakesFound v taken after
    → IsTold v after (take_found taken)
told-take v after taken whole takes = subst (λ w. IsTold v w (take_found taken)) (sym takes.1) (record {
  whole = record { sized = whole.sized; table = whole.table; empty = whole.empty };
  tallies = λ p. omega arith;
  last = λ u. refl;
  looks = takes-looks v.found (map look_waiting (waiting v)) taken takes.0 ∙ sym (append-nil (looks_left v));
})

-- each call tells what it does
pub told-does : (t : Told) (v after : LiveView) → IsWhole v → Does v t after → IsTold v after t
told-does (turn answer) v after whole m =
    IsTold-quiet v after (turn answer) (IsQuiet-moves v after answer whole m)
    (record { likes = λ p. refl; pages = λ u. refl; taken = refl; told = refl })
told-does (like user page answer) v after whole d = by_case d
  where
    by_case : LikeCase v user page answer after → IsTold v after (like user page answer)
    by_case (calls.gone m a) =
        IsTold-quiet v after (like user page answer) (IsQuiet-moves v after _ whole m)
        (subst (λ x. TellsNothing (like user page x)) (sym a)
        (record { likes = λ p. refl; pages = λ u. refl; taken = refl; told = refl }))
    by_case (calls.between m a) =
        IsTold-quiet v after (like user page answer) (IsQuiet-moves v after _ whole m)
        (subst (λ x. TellsNothing (like user page x)) (sym a)
        (record { likes = λ p. refl; pages = λ u. refl; taken = refl; told = refl }))
    by_case (calls.runs now m l) =
        let q = IsQuiet-moves v now _ whole m in
        IsTold-after v now after (like user page answer) q (told-like now after user page answer q.whole l)
told-does (like_on user page answer) v after whole d =
    told-row v after user page answer (told-like v after user page answer whole d.1)
told-does (look user page tag answer) v after whole d = by_case d
  where
    by_case : LookCase v user page tag answer after → IsTold v after (look user page tag answer)
    by_case (calls.gone m a) =
        IsTold-quiet v after (look user page tag answer) (IsQuiet-moves v after _ whole m)
        (subst (λ x. TellsNothing (look user page tag x)) (sym a)
        (record { likes = λ p. refl; pages = λ u. refl; taken = refl; told = refl }))
    by_case (calls.between m a) =
        IsTold-quiet v after (look user page tag answer) (IsQuiet-moves v after _ whole m)
        (subst (λ x. TellsNothing (look user page tag x)) (sym a)
        (record { likes = λ p. refl; pages = λ u. refl; taken = refl; told = refl }))
    by_case (calls.runs now m l) =
        let q = IsQuiet-moves v now _ whole m in
        IsTold-after v now after (look user page tag answer) q (told-look now after user page tag answer q.whole l)
told-does (glance user page answer) v after whole d = told-glance v after user page answer (by_case d)
  where
    by_case : GlanceCase v user page answer after → IsQuiet v after
    by_case (calls.gone m a) = IsQuiet-moves v after _ whole m
    by_case (calls.between m a) = IsQuiet-moves v after _ whole m
    by_case (calls.runs now m l) =
        let q = IsQuiet-moves v now _ whole m in
        IsQuiet-both v now after q (quiet-glance now after user page answer q.whole l)
told-does (take_found taken) v after whole d = told-take v after taken whole d
told-does (retire answer) v after whole d =
    IsTold-quiet v after (retire answer) (IsQuiet-retires v after answer whole d)
    (record { likes = λ p. refl; pages = λ u. refl; taken = refl; told = refl })
told-does (come_back answer) v after whole d =
    IsTold-quiet v after (come_back answer) (IsQuiet-come_back v after answer whole d)
    (record { likes = λ p. refl; pages = λ u. refl; taken = refl; told = refl })

-- calls tell what they do, one after the other
record AreTold (v after : LiveView) (told : List Told) : Type 0 where
  whole : IsWhole after
  tallies : (page : ℕ) → tally after page ≡ tally v page + likes_told page told
  last : (user : ℕ) → last_of after.station.last user ≡ last_or (last_of v.station.last user) (pages_liked user told)
  looks : looks_taken told ++ looks_left after ≡ looks_left v ++ looks_told told

pub last_or-append : (o : Option ℕ) (xs ys : List ℕ) → last_or o (xs ++ ys) ≡ last_or (last_or o xs) ys
last_or-append o [] ys = refl
last_or-append o (x ∷ xs) ys = last_or-append (Some x) xs ys

are_told : (told : List Told) (v after : LiveView) → IsWhole v → HasDone v told after → AreTold v after told
are_told [] v after whole is = subst (λ w. AreTold v w []) (sym is) (record {
  whole = whole;
  tallies = λ page. omega arith;
  last = λ user. refl;
  looks = sym (append-nil (looks_left v));
})
are_told (t ∷ told) v after whole d =
    let now = d.0 in
    let first = told-does t v now whole d.1.0 in
    let rest = are_told told now after first.whole d.1.1 in
    record {
      whole = rest.whole;
      tallies = λ page. let a = first.tallies page in
          let b = rest.tallies page in omega (arith, sum_by-cons (like_told page) t told);
      last = λ user.
          rest.last user ∙ ap (λ (o : Option ℕ). last_or o (pages_liked user told)) (first.last user)
          ∙ sym (last_or-append (last_of v.station.last user) (page_liked user t) (pages_liked user told));
      looks =
          append_assoc (look_taken t) (looks_taken told) (looks_left after)
          ∙ ap (λ xs. look_taken t ++ xs) rest.looks
          ∙ sym (append_assoc (look_taken t) (looks_left now) (looks_told told))
          ∙ ap (λ xs. xs ++ looks_told told) first.looks
          ∙ append_assoc (looks_left v) (look_told t) (looks_told told);
    }

pub whole_at_first : (v : LiveView) → IsUnused v → IsWhole v
whole_at_first v unused =
    let new = unused.new in
    record {
      sized = ap length new.slice ∙ length-replicate {A = ℕ} _ 0
          ∙ ap (λ (p : WorkerSeatView). length p.opening.marks) (sym new.at_post);
      table = ap (λ (t : UserTable). length t.last) new.last
          ∙ length-map-range_with_len (λ user. cond (owns unused.share user) (last_in unused.lasts user) None) 0 unused.share.users
          ∙ ap (λ (t : UserTable). t.share.users) (sym new.last);
      empty = λ e. ap (λ (w : StashView Asked). w.looks) new.stash;
    }

pub none_waits_once_gone : NoneWaitsOnceGone
none_waits_once_gone v after told unused done gone =
    (are_told told v after (whole_at_first v unused) done).whole.empty gone

pub histories_are_counted : HistoriesAreCounted
histories_are_counted v after told unused done =
    let new = unused.new in
    let t = are_told told v after (whole_at_first v unused) done in
    let nothing : looks_left v ≡ [] = λ m. map look_of (new.found m) ++ map look_waiting ((new.stash m).looks) in
    record {
      tallies = λ page.
          let added : added_to page (additions_among v.station.post.did) ≡ 0 =
          ap (λ (p : WorkerSeatView). added_to page (additions_among p.did)) new.at_post
          ∙ ap (λ (p : WorkerSeatView). added_to page (additions_among p.did)) unused.fresh in
          let slice : get_or v.station.slice page 0 ≡ 0 =
          ap (λ (xs : List ℕ). get_or xs page 0) new.slice ∙ same_everywhere _ page 0 in
          let all = t.tallies page in
          omega arith;
      last = t.last;
      taken = t.looks ∙ ap (λ xs. xs ++ looks_told told) nothing;
    }
