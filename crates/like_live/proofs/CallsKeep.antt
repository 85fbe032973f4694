-- What each call keeps of what the seat did at pages.
use Rattle.std.proofs.Common.{◌≡◌, ℕ, ◌<◌, inl, inr, Bool, length, Option, ap, sym, ◌∙◌, subst, [], refl}
use Rattle.std.proofs.lemmas.List.Elements.{All-drop}
use Rattle.like_core.specs.Post.{number_of}
use Rattle.like_core.specs.WorkerState.{RunsJoined}
use Rattle.like_core.specs.declared.worker_state.WorkerState.TheVariants.{Gone}
use Rattle.like_seat.specs.Steps.{came_back}
use Rattle.like_live.specs.declared.answer.GlanceAnswer.{GlanceAnswer}
use Rattle.like_live.specs.declared.answer.LikeAnswer.{LikeAnswer}
use Rattle.like_live.specs.declared.answer.LookAnswer.{LookAnswer}
use Rattle.like_live.specs.declared.answer.TurnAnswer.{TurnAnswer}
use Rattle.like_live.specs.declared.asked.Found.{Found}
use Rattle.like_live.specs.LiveView.{LiveView, with_station}
use Rattle.like_live.specs.Answers.{IsRead, found_count}
use Rattle.like_live.specs.Calls as calls
use Rattle.like_live.specs.Calls.{ComeBackCase, GlanceCase, GlancesNow, LikeCase, LikesNow, LookCase, LooksNow, RetireCase, RetireWorks, TakesFound}
use Rattle.like_live.specs.History.{Does, Told, come_back, glance, like, like_on, look, retire, take_found, turn}
use Rattle.like_live.specs.Moves.{Moves}
use Rattle.like_live.proofs.Calling.{page_there}
use Rattle.like_live.proofs.Keeping.{Keeps, Keeps-all, Keeps-both, Keeps-by, Keeps-counts, Keeps-finds, Keeps-glanced, Keeps-moves, Keeps-read, Keeps-stopped, Keeps-works}
use Rattle.like_live.proofs.Moving.{IsSized, Leaves-moves}

-- phase work leaves the slice a number for each page
sized-moves : (v after : LiveView) (answer : TurnAnswer) → IsSized v → Moves v answer after → IsSized after
sized-moves v after answer sized m =
    let l = Leaves-moves v after answer sized m in
    l.sized ∙ sized ∙ ap length (sym l.same.marks)

-- what a seat that runs a phase keeps, by call
Keeps-likes : (v after : LiveView) (user page : ℕ) (answer : LikeAnswer)
    → IsSized v
    → LikesNow v user page answer after
    → Keeps v after
Keeps-likes v after user page answer sized (calls.refused fails a is) = subst (Keeps v) (sym is) (Keeps-all v)
Keeps-likes v after user page answer sized (calls.full accepted most a is) = subst (Keeps v) (sym is) (Keeps-all v)
Keeps-likes v after user page answer sized (calls.liked old s accepted few a counts is) =
    subst (Keeps v) (sym is)
    (Keeps-counts v s user page old
    (subst (λ (n : ℕ). page < n) (sym sized) (page_there v.station user page accepted)) counts)

Keeps-looks : (v after : LiveView) (user page tag : ℕ) (answer : LookAnswer)
    → LooksNow v user page tag answer after
    → Keeps v after
Keeps-looks v after user page tag answer (calls.refused fails a is) = subst (Keeps v) (sym is) (Keeps-all v)
Keeps-looks v after user page tag answer (calls.no_room accepted split none a is) =
    subst (Keeps v) (sym is) (Keeps-all v)
Keeps-looks v after user page tag answer (calls.seen shown s accepted plain a reads is) =
    subst (Keeps v) (sym (is ∙ ap (with_station v) reads.read)) (Keeps-read v page shown.count (number_of s.post))
Keeps-looks v after user page tag answer (calls.waits accepted split room a is) =
    subst (Keeps v) (sym is) (record {
      more = [];
      did = refl;
      worker = refl;
      held = λ phase other later n h. h;
      found = λ all. all;
    })

Keeps-glances : (v after : LiveView) (user page : ℕ) (answer : GlanceAnswer)
    → GlancesNow v user page answer after
    → Keeps v after
Keeps-glances v after user page answer (calls.refused fails a is) = subst (Keeps v) (sym is) (Keeps-all v)
Keeps-glances v after user page answer (calls.plain shown s accepted plain a reads is) =
    subst (Keeps v) (sym (is ∙ ap (with_station v) reads.read)) (Keeps-read v page shown.count (number_of s.post))
Keeps-glances v after user page answer (calls.split shown s accepted split a glances is) =
    subst (Keeps v) (sym (is ∙ ap (with_station v) glances.glanced)) (Keeps-glanced v page glances.count (number_of s.post))

Keeps-takes : (v after : LiveView) (taken : Option Found) → TakesFound v taken after → Keeps v after
Keeps-takes v after taken takes = subst (Keeps v) (sym takes.1) (record {
  more = [];
  did = refl;
  worker = refl;
  held = λ phase other later n h. h;
  found = λ all. All-drop (λ f. IsRead v (found_count f)) 1 v.found all;
})

Keeps-retire_works : (v after : LiveView) (ending : Bool) (answer : TurnAnswer)
    → IsSized v
    → RetireWorks v ending answer after
    → Keeps v after
Keeps-retire_works v after ending answer sized (calls.retires now joined a found is) =
    subst (Keeps v) (sym is)
    (Keeps-both v now _ (Keeps-finds v now found)
    (Keeps-stopped now _ (subst (λ (w : LiveView). RunsJoined w.station.post.state) (sym found.rest) joined)))
Keeps-retire_works v after ending answer sized (calls.stays split works) =
    Keeps-works v after ending answer sized works

Keeps-retires : (v after : LiveView) (answer : TurnAnswer) → IsSized v → RetireCase v answer after → Keeps v after
Keeps-retires v after answer sized m = Keeps-by RetireWorks Keeps-retire_works v after answer sized m

-- a seat that was gone had no like in its slice
Keeps-came_back : (v : LiveView) (phase mask number : ℕ) → v.station.post.state ≡ Gone
    → Keeps v (with_station v (came_back v.station phase mask number))
Keeps-came_back v phase mask number gone = record {
  more = [];
  did = refl;
  worker = refl;
  held = λ phase other later n h. (
    h.0,
    elim h.1 [ inl added ↦ inl added | inr still ↦ absurd (cc (gone, still.0)) ],
  );
  found = λ all. all;
}

Keeps-come_back : (v after : LiveView) (answer : TurnAnswer) → IsSized v → ComeBackCase v answer after → Keeps v after
Keeps-come_back v after answer sized (calls.runs s gone a back is) =
    subst (Keeps v) (sym (is ∙ ap (with_station v) back.1.1)) (Keeps-came_back v back.0 back.1.0 (number_of s.post) gone)
Keeps-come_back v after answer sized (calls.between gone a is) = subst (Keeps v) (sym is) (Keeps-all v)
Keeps-come_back v after answer sized (calls.there here m) = Keeps-moves v after answer sized m

-- each call keeps what the seat read
pub Keeps-does : (t : Told) (v after : LiveView) → IsSized v → Does v t after → Keeps v after
Keeps-does (turn answer) v after sized m = Keeps-moves v after answer sized m
Keeps-does (like user page answer) v after sized d = by_case d
  where
    by_case : LikeCase v user page answer after → Keeps v after
    by_case (calls.gone m a) = Keeps-moves v after _ sized m
    by_case (calls.between m a) = Keeps-moves v after _ sized m
    by_case (calls.runs now m l) =
        Keeps-both v now after (Keeps-moves v now _ sized m)
        (Keeps-likes now after user page answer (sized-moves v now _ sized m) l)
Keeps-does (like_on user page answer) v after sized d = Keeps-likes v after user page answer sized d.1
Keeps-does (look user page tag answer) v after sized d = by_case d
  where
    by_case : LookCase v user page tag answer after → Keeps v after
    by_case (calls.gone m a) = Keeps-moves v after _ sized m
    by_case (calls.between m a) = Keeps-moves v after _ sized m
    by_case (calls.runs now m l) =
        Keeps-both v now after (Keeps-moves v now _ sized m) (Keeps-looks now after user page tag answer l)
Keeps-does (glance user page answer) v after sized d = by_case d
  where
    by_case : GlanceCase v user page answer after → Keeps v after
    by_case (calls.gone m a) = Keeps-moves v after _ sized m
    by_case (calls.between m a) = Keeps-moves v after _ sized m
    by_case (calls.runs now m l) =
        Keeps-both v now after (Keeps-moves v now _ sized m) (Keeps-glances now after user page answer l)
Keeps-does (take_found taken) v after sized d = Keeps-takes v after taken d
Keeps-does (retire answer) v after sized d = Keeps-retires v after answer sized d
Keeps-does (come_back answer) v after sized d = Keeps-come_back v after answer sized d
