-- A call as steps, each of which does one thing to a seat.
use Rattle.std.proofs.Common.{◌≡◌, ℕ, suc, ◌+◌, Bool, true, List, [], ◌∷◌, ◌++◌, drop, length, reverse, Option, Some, None, refl, ap, sym, ◌∙◌, subst, arith, append-nil, ◌⊎◌, inl, inr}
use Rattle.std.proofs.Math.Seq.{drop-append_seam, drop-length}
use Rattle.std.proofs.lemmas.List.{drop-drop, drop_all}
use Rattle.like_core.specs.declared.log.Logged.{Logged}
use Rattle.like_core.specs.declared.sight.Sight.{Sight}
use Rattle.like_core.specs.Post.{answered, is_split_at, number_of}
use Rattle.like_core.specs.WorkerState.{IsRunning, IsSightOf, RunsJoined, RunsSplit}
use Rattle.like_requests.specs.declared.verdict.Verdict.TheVariants.{Accepted}
use Rattle.like_seat.specs.Merge.{merged}
use Rattle.like_seat.specs.StationView.{StationView}
use Rattle.like_seat.specs.Steps.{liked_last, sliced}
use Rattle.like_live.specs.declared.answer.GlanceAnswer.{GlanceAnswer}
use Rattle.like_live.specs.declared.answer.GlanceAnswer.TheVariants as glanced
use Rattle.like_live.specs.declared.answer.LikeAnswer.{LikeAnswer}
use Rattle.like_live.specs.declared.answer.LikeAnswer.TheVariants.{Liked}
use Rattle.like_live.specs.declared.answer.LookAnswer.{LookAnswer}
use Rattle.like_live.specs.declared.answer.LookAnswer.TheVariants as shown_at
use Rattle.like_live.specs.declared.answer.TurnAnswer.{TurnAnswer}
use Rattle.like_live.specs.declared.answer.TurnAnswer.TheVariants as answer
use Rattle.like_live.specs.declared.asked.Asked.{Asked}
use Rattle.like_live.specs.declared.asked.Found.{Found}
use Rattle.like_live.specs.LiveView.{LiveView, with_station}
use Rattle.like_live.specs.Moves as moves
use Rattle.like_live.specs.Moves.{FindsAll, Moves, MovesBy, Works, looked, with_found}
use Rattle.like_live.specs.Calls as calls
use Rattle.like_live.specs.Calls.{ComeBackCase, GlanceCase, GlancesNow, LikeCase, LikesNow, LookCase, LooksNow, RetireWorks, TakesFound, verdict_at}
use Rattle.like_live.specs.History.{Does, HasDone, Told, come_back, glance, like, look, retire, take_found, turn, like_on}
use Rattle.like_live.specs.Deeds.{Deed, counted, deed_now, deeds_found, deeds_of, deeds_of_call, found_by, made_since, own_deed}
use Rattle.like_live.proofs.Finding.{running}
use Rattle.like_live.proofs.Running.{runs_split, split_runs, unsplit}
use Rattle.like_live.proofs.Stepping.{FollowsCalls, FollowsRows, IsRequest, acknowledges, adds_like, finds, glances, holds, looks, reads, reports, retires, returns, takes}
use Rattle.like_live.proofs.FoundEntries.{enough, found_still}

-- a seat whose turn says that it runs a phase does so
pub moves_run : (v after : LiveView) → Moves v answer.Runs after → IsRunning after.station.post.state
moves_run v after (moves.is_gone gone a is) = absurd (cc a)
moves_run v after (moves.waits sight mask can w a is) = absurd (cc a)
moves_run v after (moves.works sight mask number can w does) = by_works does where
  by_works : Works (looked v sight mask number) sight.ending answer.Runs after → IsRunning after.station.post.state
  by_works (moves.runs_joined joined e a found) =
      subst (λ (w : LiveView). IsRunning w.station.post.state) (sym found.rest)
      (running (looked v sight mask number).station.post.state joined)
  by_works (moves.acknowledges now joined e a found is) = absurd (cc a)
  by_works (moves.runs_split split e a is) =
      subst (λ (w : LiveView). IsRunning w.station.post.state) (sym is)
      (split_runs (looked v sight mask number).station.post.state split)
  by_works (moves.reports s split e a merges is) = absurd (cc a)

-- a seat that runs a split phase after its turn has looked, and done no more
pub record HasLooked (v now : LiveView) : Type 0 where
  pub sight : Sight
  pub mask : ℕ
  pub number : ℕ
  pub can : IsSightOf v.station.post.state sight
  pub is : now ≡ looked v sight mask number

pub has_looked : (v now : LiveView) → Moves v answer.Runs now → RunsSplit now.station.post.state → HasLooked v now
has_looked v now (moves.is_gone gone a is) split = absurd (cc a)
has_looked v now (moves.waits sight mask can w a is) split = absurd (cc a)
has_looked v now (moves.works sight mask number can w does) split = by_works does where
  by_works : Works (looked v sight mask number) sight.ending answer.Runs now → HasLooked v now
  by_works (moves.runs_joined joined e a found) =
      absurd (unsplit (looked v sight mask number).station.post.state joined
      (subst (λ (w : LiveView). RunsSplit w.station.post.state) found.rest split))
  by_works (moves.acknowledges then joined e a found is) = absurd (cc a)
  by_works (moves.runs_split runs e a is) =
      record { sight = sight; mask = mask; number = number; can = can; is = is }
  by_works (moves.reports s runs e a merges is) = absurd (cc a)

-- a like that goes into the slice
pub record IsSliced (v after : LiveView) (user page : ℕ) (told : LikeAnswer) : Type 0 where
  pub told_is : told ≡ Liked
  pub accepted : verdict_at v.station user page ≡ Accepted
  pub at : is_split_at v.station.post page ≡ true
  pub is : after ≡ with_station v (liked_last (sliced v.station page) user page)

-- a like of a row finds nothing, and is the deed that a single one is
pub row_deeds : (v after : LiveView) (user page : ℕ) (told : LikeAnswer) → after.found ≡ v.found
    → deeds_of_call v (like_on user page told) after ≡ own_deed after (like_on user page told)
row_deeds v after user page told same =
    ap (λ fs. deeds_found (drop 1 (made_since v after)) fs ++ own_deed after (like_on user page told))
    (ap (drop (length v.found)) same ∙ drop-length v.found)

same_deed : (after : LiveView) (user page : ℕ) (told : LikeAnswer)
    → own_deed after (like_on user page told) ≡ own_deed after (like user page told)
same_deed after user page Liked = refl
same_deed after user page told = refl

-- a call that is no like of a row
abbrev pub IsNoRow : Told → Type 0
IsNoRow (like_on user page answer) = ⊥
IsNoRow t = Unit {0}

module _ (R : LiveView → List Deed → LiveView → Type 0) (f : FollowsCalls R) where
  -- what finds nothing
  still : (v now : LiveView) (entries : List Logged) → now.found ≡ v.found → R v [] now
      → R v (deeds_found entries (found_by v now)) now
  still v now entries same r =
      subst (λ fs. R v (deeds_found entries fs) now) (sym (ap (drop (length v.found)) same ∙ drop-length v.found)) r

  all_found : (v after : LiveView) → RunsJoined v.station.post.state → FindsAll v after
      → R v (deeds_found (made_since v after) (found_by v after)) after
  all_found v after joined all =
      subst (λ w. R v (deeds_found (made_since v w) (found_by v w)) w) (sym all.rest)
      (subst
      (λ fs. R v (deeds_found (made_since v (with_found v all.found after.station.post.logged)) fs)
      (with_found v all.found after.station.post.logged))
      (sym (drop-append_seam v.found all.found))
      (f.one v (finds all.found after.station.post.logged joined all.order all.shown all.logs) tt))

  -- one step more, which is no deed, finds nothing and makes no entry
  more : (v now after : LiveView) → after.found ≡ now.found → after.station.post.logged ≡ now.station.post.logged
      → R v (deeds_found (made_since v now) (found_by v now)) now
      → R now [] after → R v (deeds_found (made_since v after) (found_by v after)) after
  more v now after same logs r s =
      subst (λ fs. R v (deeds_found (made_since v after) (drop (length v.found) fs)) after) (sym same)
      (subst
      (λ es. R v (deeds_found (drop (length v.station.post.logged) (reverse es)) (found_by v now)) after) (sym logs)
      (subst (λ ds. R v ds after) (append-nil (deeds_found (made_since v now) (found_by v now)))
      (f.both v now after (deeds_found (made_since v now) (found_by v now)) [] r s)))

  joined_still : (v now : LiveView) → FindsAll v now → RunsJoined v.station.post.state → RunsJoined now.station.post.state
  joined_still v now all joined = subst (λ (w : LiveView). RunsJoined w.station.post.state) (sym all.rest) joined

  by_works : (v after : LiveView) (ending : Bool) (answer : TurnAnswer) → Works v ending answer after
      → R v (deeds_found (made_since v after) (found_by v after)) after
  by_works v after ending answer (moves.runs_joined joined e a found) = all_found v after joined found
  by_works v after ending answer (moves.acknowledges now joined e a found is) =
      more v now after (ap (λ (w : LiveView). w.found) is) (ap (λ (w : LiveView). w.station.post.logged) is)
      (all_found v now joined found)
      (subst (R now []) (sym is) (f.one now (acknowledges (joined_still v now found joined)) tt))
  by_works v after ending answer (moves.runs_split split e a is) =
      still v after _ (ap (λ (w : LiveView). w.found) is) (subst (R v []) (sym is) (f.none v))
  by_works v after ending answer (moves.reports s split e a merges is) =
      let adds = merges.1.0.0 in
      let logged : List Logged = merges.0.post.logged in
      let same : s ≡ record (merged v.station adds logged) { post = answered (merged v.station adds logged).post } =
      merges.1.1 ∙ ap (λ (t : StationView Asked). record t { post = answered t.post }) merges.1.0.1.1 in
      still v after _ (ap (λ (w : LiveView). w.found) is)
      (subst (R v []) (sym (is ∙ ap (with_station v) same))
      (f.one v (reports adds logged split merges.1.0.1.0 merges.1.0.1.2) tt))

  by_retire_works : (v after : LiveView) (ending : Bool) (answer : TurnAnswer) → RetireWorks v ending answer after
      → R v (deeds_found (made_since v after) (found_by v after)) after
  by_retire_works v after ending answer (calls.retires now joined a found is) =
      more v now after (ap (λ (w : LiveView). w.found) is) (ap (λ (w : LiveView). w.station.post.logged) is)
      (all_found v now joined found)
      (subst (R now []) (sym is) (f.one now (retires (joined_still v now found joined)) tt))
  by_retire_works v after ending answer (calls.stays split works) = by_works v after ending answer works

  by_moves : (Acts : LiveView → Bool → TurnAnswer → LiveView → Type 0)
      → ((v after : LiveView) (ending : Bool) (answer : TurnAnswer) → Acts v ending answer after
      → R v (deeds_found (made_since v after) (found_by v after)) after)
      → (v after : LiveView) (answer : TurnAnswer) → MovesBy Acts v answer after
      → R v (deeds_found (drop 1 (made_since v after)) (found_by v after)) after
  by_moves Acts run v after answer (moves.is_gone gone a is) =
      still v after _ (ap (λ (w : LiveView). w.found) is) (subst (R v []) (sym is) (f.none v))
  by_moves Acts run v after answer (moves.waits sight mask can w a is) =
      still v after _ (ap (λ (w : LiveView). w.found) is) (subst (R v []) (sym is)
      (f.one v (looks sight mask (number_of after.station.post) can) tt))
  by_moves Acts run v after answer (moves.works sight mask number can w does) =
      let n = length v.station.post.logged in
      subst (λ es. R v (deeds_found es (found_by v after)) after)
      (ap (λ k. drop k (reverse after.station.post.logged)) (next_is n) ∙ sym (drop-drop 1 n (reverse after.station.post.logged)))
      (f.both v (looked v sight mask number) after []
      (deeds_found (made_since (looked v sight mask number) after) (found_by v after))
      (f.one v (looks sight mask number can) tt) (run (looked v sight mask number) after sight.ending answer does))
    where
      next_is : (n : ℕ) → suc n ≡ n + 1
      next_is n = omega arith

  -- a call that is no deed itself
  plain_call : (v after : LiveView) (t : Told) → own_deed after t ≡ []
      → R v (deeds_found (drop 1 (made_since v after)) (found_by v after)) after
      → R v (deeds_of_call v t after) after
  plain_call v after t none r =
      let found = deeds_found (drop 1 (made_since v after)) (found_by v after) in
      subst (λ ds. R v ds after) (sym (ap (λ ds. found ++ ds) none ∙ append-nil found)) r

  -- a request at a seat that runs a phase: its own deed, and it finds nothing
  record Own (now after : LiveView) (t : Told) : Type 0 where
    same : after.found ≡ now.found
    since : List Logged
    logs : after.station.post.logged ≡ since ++ now.station.post.logged
    own : R now (own_deed after t) after

  after_moves : (v now after : LiveView) (t : Told) (answer : TurnAnswer) → Moves v answer now → Own now after t
      → R v (deeds_of_call v t after) after
  after_moves v now after t answer m o =
      subst (λ fs. R v (deeds_found (drop 1 (made_since v after)) (drop (length v.found) fs) ++ own_deed after t) after)
      (sym o.same)
      (subst (λ ds. R v (ds ++ own_deed after t) after)
      (sym (found_still v now after o.since (enough v now answer m) o.logs))
      (f.both v now after (deeds_found (drop 1 (made_since v now)) (found_by v now)) (own_deed after t)
      (by_moves Works by_works v now answer m) o.own))

  nothing : (v after : LiveView) (t : Told) → after ≡ v → own_deed after t ≡ [] → Own v after t
  nothing v after t is none = record {
    same = ap (λ (w : LiveView). w.found) is;
    since = [];
    logs = ap (λ (w : LiveView). w.station.post.logged) is;
    own = subst (λ ds. R v ds after) (sym none) (subst (R v []) (sym is) (f.none v));
  }

  -- a like that goes into the slice: nothing was found, and the look before it is the call's only entry
  by_slice : (v now after : LiveView) (user page : ℕ) (told : LikeAnswer) → Moves v answer.Runs now
      → IsSliced now after user page told → R v (deeds_of_call v (like user page told) after) after
  by_slice v now after user page told m s =
      let runs = moves_run v now m in
      let l = has_looked v now m (runs_split now.station.post page runs s.at) in
      let request : IsRequest now user page true = record { runs = runs; accepted = s.accepted; at = s.at } in
      subst (λ x. R v (deeds_of_call v (like user page x) after) after) (sym s.told_is)
      (subst
      (λ fs. R v (deeds_found (drop 1 (made_since v after)) fs ++ deed_now after user page counted ∷ []) after)
      (sym
      (ap (drop (length v.found)) (ap (λ (w : LiveView). w.found) s.is ∙ ap (λ (w : LiveView). w.found) l.is)
      ∙ drop-length v.found))
      (subst (λ w. R v (deed_now w user page counted ∷ []) w) (sym s.is)
      (subst
      (λ w. R v (deed_now w user page counted ∷ []) (with_station w (liked_last (sliced w.station page) user page)))
      (sym l.is)
      (f.slice v l.sight l.mask l.number user page l.can
      (subst (λ w. IsRequest w user page true) l.is request)))))

  -- any other like at a seat that runs a phase
  own_like : (v after : LiveView) (user page : ℕ) (told : LikeAnswer) → IsRunning v.station.post.state
      → LikesNow v user page told after → Own v after (like user page told) ⊎ IsSliced v after user page told
  own_like v after user page told runs (calls.refused fails a is) =
      inl (nothing v after (like user page told) is (ap (λ x. own_deed after (like user page x)) a))
  own_like v after user page told runs (calls.full accepted most a is) =
      inl (nothing v after (like user page told) is (ap (λ x. own_deed after (like user page x)) a))
  own_like v after user page told runs (calls.liked None s accepted few a c is) =
      inr (record { told_is = a; accepted = accepted; at = c.0; is = is ∙ ap (with_station v) c.1 })
  own_like v after user page told runs (calls.liked (Some old) s accepted few a c is) =
      let e = is ∙ ap (with_station v) c.1 in
      inl (record {
        same = ap (λ (w : LiveView). w.found) is;
        since = _ ∷ [];
        logs = ap (λ (w : LiveView). w.station.post.logged) e;
        own = subst (λ x. R v (own_deed after (like user page x)) after) (sym a)
            (subst (λ w. R v (own_deed w (like user page Liked)) w) (sym e)
            (f.one v (adds_like user page old (number_of s.post)
            (record { runs = runs; accepted = accepted; at = c.0 })) tt));
      })

  by_like : (v now after : LiveView) (user page : ℕ) (told : LikeAnswer) → Moves v answer.Runs now
      → LikesNow now user page told after → R v (deeds_of_call v (like user page told) after) after
  by_like v now after user page told m l = elim (own_like now after user page told (moves_run v now m) l) [
    | inl o ↦ after_moves v now after (like user page told) _ m o
    | inr s ↦ by_slice v now after user page told m s
  ]

  -- a like of a row that isn't sliced
  pub by_row : (v after : LiveView) (user page : ℕ) (told : LikeAnswer) → IsRunning v.station.post.state
      → LikesNow v user page told after
      → R v (deeds_of_call v (like_on user page told) after) after ⊎ IsSliced v after user page told
  by_row v after user page told runs l = elim (own_like v after user page told runs l) [
    | inl o ↦
        inl (subst (λ ds. R v ds after)
        (sym (row_deeds v after user page told o.same ∙ same_deed after user page told)) o.own)
    | inr s ↦ inr s
  ]

  by_looks : (v after : LiveView) (user page tag : ℕ) (answer : LookAnswer) → IsRunning v.station.post.state
      → LooksNow v user page tag answer after → Own v after (look user page tag answer)
  by_looks v after user page tag answer runs (calls.refused fails a is) =
      nothing v after (look user page tag answer) is (ap (λ x. own_deed after (look user page tag x)) a)
  by_looks v after user page tag answer runs (calls.no_room accepted split most a is) =
      nothing v after (look user page tag answer) is (ap (λ x. own_deed after (look user page tag x)) a)
  by_looks v after user page tag answer runs (calls.seen shown s accepted plain a read is) =
      let e = is ∙ ap (with_station v) read.read in
      record {
        same = ap (λ (w : LiveView). w.found) is;
        since = _ ∷ [];
        logs = ap (λ (w : LiveView). w.station.post.logged) e;
        own = subst (λ x. R v (own_deed after (look user page tag x)) after) (sym a)
            (subst (λ w. R v (own_deed w (look user page tag (shown_at.Seen shown))) w) (sym e)
            (f.one v (reads user page shown (number_of s.post) (record { runs = runs; accepted = accepted; at = plain }) read.last) tt));
      }
  by_looks v after user page tag answer runs (calls.waits accepted split room a is) =
      record {
        same = ap (λ (w : LiveView). w.found) is;
        since = [];
        logs = ap (λ (w : LiveView). w.station.post.logged) is;
        own = subst (λ x. R v (own_deed after (look user page tag x)) after) (sym a)
            (subst (R v []) (sym is) (f.one v (holds user page tag (record { runs = runs; accepted = accepted; at = split })) tt));
      }

  by_glances : (v after : LiveView) (user page : ℕ) (answer : GlanceAnswer) → IsRunning v.station.post.state
      → GlancesNow v user page answer after → Own v after (glance user page answer)
  by_glances v after user page answer runs (calls.refused fails a is) =
      nothing v after (glance user page answer) is (ap (λ x. own_deed after (glance user page x)) a)
  by_glances v after user page answer runs (calls.plain shown s accepted plain a read is) =
      let e = is ∙ ap (with_station v) read.read in
      record {
        same = ap (λ (w : LiveView). w.found) is;
        since = _ ∷ [];
        logs = ap (λ (w : LiveView). w.station.post.logged) e;
        own = subst (λ x. R v (own_deed after (glance user page x)) after) (sym a)
            (subst (λ w. R v (own_deed w (glance user page (glanced.Seen shown))) w) (sym e)
            (f.one v (reads user page shown (number_of s.post) (record { runs = runs; accepted = accepted; at = plain }) read.last) tt));
      }
  by_glances v after user page answer runs (calls.split shown s accepted split a g is) =
      let e = is ∙ ap (with_station v) g.glanced in
      record {
        same = ap (λ (w : LiveView). w.found) is;
        since = _ ∷ [];
        logs = ap (λ (w : LiveView). w.station.post.logged) e;
        own = subst (λ x. R v (own_deed after (glance user page x)) after) (sym a)
            (subst (λ w. R v (own_deed w (glance user page (glanced.Glimpsed shown))) w) (sym e)
            (f.one v (glances user page g.count shown (number_of s.post) (record { runs = runs; accepted = accepted; at = split }) g.last) tt));
      }

  by_turn : (v after : LiveView) (answer : TurnAnswer) → Moves v answer after
      → R v (deeds_found (drop 1 (made_since v after)) (found_by v after)) after
  by_turn = by_moves Works by_works

  by_return : (v after : LiveView) (answer : TurnAnswer) → ComeBackCase v answer after
      → R v (deeds_found (drop 1 (made_since v after)) (found_by v after)) after
  by_return v after answer (calls.runs s gone a back is) =
      let e = is ∙ ap (with_station v) back.1.1 in
      still v after _ (ap (λ (w : LiveView). w.found) is)
      (subst (R v []) (sym e) (f.one v (returns back.0 back.1.0 (number_of s.post) gone) tt))
  by_return v after answer (calls.between gone a is) =
      still v after _ (ap (λ (w : LiveView). w.found) is) (subst (R v []) (sym is) (f.none v))
  by_return v after answer (calls.there here m) = by_turn v after answer m

  -- none is found where one is taken
  drop_more : (fs : List Found) → drop (length fs) (drop 1 fs) ≡ []
  drop_more [] = refl
  drop_more (x ∷ fs) = drop_all (length (x ∷ fs)) fs (omega arith)

  by_take : (v after : LiveView) (taken : Option Found) → TakesFound v taken after
      → R v (deeds_found (drop 1 (made_since v after)) (found_by v after)) after
  by_take v after taken does =
      subst (λ w. R v (deeds_found (drop 1 (made_since v w)) (found_by v w)) w) (sym does.1)
      (subst
      (λ fs. R v (deeds_found (drop 1 (made_since v (record v { found = drop 1 v.found }))) fs)
      (record v { found = drop 1 v.found }))
      (sym (drop_more v.found)) (f.one v takes tt))

  pub by_call : (t : Told) → IsNoRow t → (v after : LiveView) → Does v t after → R v (deeds_of_call v t after) after
  by_call (turn answer) plain v after d = plain_call v after (turn answer) refl (by_turn v after answer d)
  by_call (like_on user page answer) plain v after d = absurd plain
  by_call (like user page answer) plain v after d = by_case d
    where
      by_case : LikeCase v user page answer after → R v (deeds_of_call v (like user page answer) after) after
      by_case (calls.gone m a) =
          plain_call v after (like user page answer) (ap (λ x. own_deed after (like user page x)) a)
          (by_turn v after _ m)
      by_case (calls.between m a) =
          plain_call v after (like user page answer) (ap (λ x. own_deed after (like user page x)) a)
          (by_turn v after _ m)
      by_case (calls.runs now m l) =
          by_like v now after user page answer m l
  by_call (look user page tag answer) plain v after d = by_case d
    where
      by_case : LookCase v user page tag answer after → R v (deeds_of_call v (look user page tag answer) after) after
      by_case (calls.gone m a) =
          plain_call v after (look user page tag answer) (ap (λ x. own_deed after (look user page tag x)) a)
          (by_turn v after _ m)
      by_case (calls.between m a) =
          plain_call v after (look user page tag answer) (ap (λ x. own_deed after (look user page tag x)) a)
          (by_turn v after _ m)
      by_case (calls.runs now m l) =
          after_moves v now after (look user page tag answer) _ m (by_looks now after user page tag answer (moves_run v now m) l)
  by_call (glance user page answer) plain v after d = by_case d
    where
      by_case : GlanceCase v user page answer after → R v (deeds_of_call v (glance user page answer) after) after
      by_case (calls.gone m a) =
          plain_call v after (glance user page answer) (ap (λ x. own_deed after (glance user page x)) a)
          (by_turn v after _ m)
      by_case (calls.between m a) =
          plain_call v after (glance user page answer) (ap (λ x. own_deed after (glance user page x)) a)
          (by_turn v after _ m)
      by_case (calls.runs now m l) =
          after_moves v now after (glance user page answer) _ m (by_glances now after user page answer (moves_run v now m) l)
  by_call (take_found taken) plain v after d = plain_call v after (take_found taken) refl (by_take v after taken d)
  by_call (retire answer) plain v after d =
      plain_call v after (retire answer) refl (by_moves RetireWorks by_retire_works v after answer d)
  by_call (come_back answer) plain v after d = plain_call v after (come_back answer) refl (by_return v after answer d)

module _ (R : LiveView → List Deed → LiveView → Type 0) (f : FollowsRows R) where
  each_call : (t : Told) (v after : LiveView) → Does v t after → R v (deeds_of_call v t after) after
  each_call (like_on user page told) v after d = elim (by_row R f.calls v after user page told d.0.runs d.1) [
    | inl r ↦ r
    | inr s ↦
        subst (λ ds. R v ds after)
        (sym (row_deeds v after user page told (ap (λ (w : LiveView). w.found) s.is)
        ∙ ap (λ x. own_deed after (like_on user page x)) s.told_is))
        (subst (λ w. R v (deed_now w user page counted ∷ []) w) (sym s.is)
        (f.row v user page (record { runs = d.0.runs; accepted = s.accepted; at = s.at }) d.0))
  ]
  each_call t v after d = by_call R f.calls t tt v after d

  pub by_calls : (told : List Told) (v after : LiveView) (done : HasDone v told after)
      → R v (deeds_of told v after done) after
  by_calls [] v after done = subst (R v []) (sym done) (f.calls.none v)
  by_calls (t ∷ told) v after done =
      f.calls.both v done.0 after (deeds_of_call v t done.0) (deeds_of told done.0 after done.1.1)
      (each_call t v done.0 done.1.0) (by_calls told done.0 after done.1.1)
