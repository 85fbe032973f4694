-- The looks that calls find, and those that are taken.
use Rattle.std.proofs.Common.{◌≡◌, ℕ, Bool, List, [], ◌∷◌, ◌++◌, drop, length, Option, ap, sym, ◌∙◌, subst, arith, append-nil, append_assoc}
use Rattle.std.specs.List.{slice_get}
use Rattle.std.proofs.Math.Seq.{drop-append_seam}
use Rattle.std.proofs.lemmas.List.{drop_all}
use Rattle.like_live.specs.declared.answer.GlanceAnswer.{GlanceAnswer}
use Rattle.like_live.specs.declared.answer.LikeAnswer.{LikeAnswer}
use Rattle.like_live.specs.declared.answer.LookAnswer.{LookAnswer}
use Rattle.like_live.specs.declared.answer.TurnAnswer.{TurnAnswer}
use Rattle.like_live.specs.declared.asked.Found.{Found}
use Rattle.like_live.specs.LiveView.{LiveView}
use Rattle.like_live.specs.Moves as moves
use Rattle.like_live.specs.Moves.{FindsAll, MovesBy, Works}
use Rattle.like_live.specs.Calls as calls
use Rattle.like_live.specs.Calls.{ComeBackCase, GlanceCase, GlancesNow, LikeCase, LikesNow, LookCase, LooksNow, RetireWorks, TakesFound}
use Rattle.like_live.specs.History.{Does, HasDone, Told, come_back, glance, like, like_on, look, retire, take_found, turn}
use Rattle.like_live.specs.Deeds.{FoundAreTaken, all_found, all_taken, found_by, found_taken}

-- found looks come behind those that were found before
abbrev Grows : LiveView → LiveView → Type 0
Grows v after = (more : List Found) × (after.found ≡ v.found ++ more)

same : (v after : LiveView) → after.found ≡ v.found → Grows v after
same v after is = ([], is ∙ sym (append-nil v.found))

then_same : (v now after : LiveView) → Grows v now → after.found ≡ now.found → Grows v after
then_same v now after g is = (g.0, is ∙ g.1)

finds : (v after : LiveView) → FindsAll v after → Grows v after
finds v after f = (f.found, ap (λ (w : LiveView). w.found) f.rest)

works : (v after : LiveView) (ending : Bool) (answer : TurnAnswer) → Works v ending answer after → Grows v after
works v after ending answer (moves.runs_joined joined e a found) = finds v after found
works v after ending answer (moves.acknowledges now joined e a found is) =
    then_same v now after (finds v now found) (ap (λ (w : LiveView). w.found) is)
works v after ending answer (moves.runs_split split e a is) = same v after (ap (λ (w : LiveView). w.found) is)
works v after ending answer (moves.reports s split e a merges is) = same v after (ap (λ (w : LiveView). w.found) is)

retire_works : (v after : LiveView) (ending : Bool) (answer : TurnAnswer) → RetireWorks v ending answer after → Grows v after
retire_works v after ending answer (calls.retires now joined a found is) =
    then_same v now after (finds v now found) (ap (λ (w : LiveView). w.found) is)
retire_works v after ending answer (calls.stays split does) = works v after ending answer does

moves_by : (Acts : LiveView → Bool → TurnAnswer → LiveView → Type 0)
    → ((v after : LiveView) (ending : Bool) (answer : TurnAnswer) → Acts v ending answer after → Grows v after)
    → (v after : LiveView) (answer : TurnAnswer) → MovesBy Acts v answer after → Grows v after
moves_by Acts acts v after answer (moves.is_gone gone a is) = same v after (ap (λ (w : LiveView). w.found) is)
moves_by Acts acts v after answer (moves.waits sight mask can w a is) = same v after (ap (λ (w : LiveView). w.found) is)
moves_by Acts acts v after answer (moves.works sight mask number can w does) = acts _ after sight.ending answer does

likes : (v after : LiveView) (user page : ℕ) (answer : LikeAnswer) → LikesNow v user page answer after
    → after.found ≡ v.found
likes v after user page answer (calls.refused fails a is) = ap (λ (w : LiveView). w.found) is
likes v after user page answer (calls.full accepted most a is) = ap (λ (w : LiveView). w.found) is
likes v after user page answer (calls.liked old s accepted few a counts is) = ap (λ (w : LiveView). w.found) is

shows : (v after : LiveView) (user page tag : ℕ) (answer : LookAnswer) → LooksNow v user page tag answer after
    → after.found ≡ v.found
shows v after user page tag answer (calls.refused fails a is) = ap (λ (w : LiveView). w.found) is
shows v after user page tag answer (calls.seen shown s accepted plain a reads is) = ap (λ (w : LiveView). w.found) is
shows v after user page tag answer (calls.no_room accepted split most a is) = ap (λ (w : LiveView). w.found) is
shows v after user page tag answer (calls.waits accepted split room a is) = ap (λ (w : LiveView). w.found) is

glances : (v after : LiveView) (user page : ℕ) (answer : GlanceAnswer) → GlancesNow v user page answer after
    → after.found ≡ v.found
glances v after user page answer (calls.refused fails a is) = ap (λ (w : LiveView). w.found) is
glances v after user page answer (calls.plain shown s accepted plain a reads is) = ap (λ (w : LiveView). w.found) is
glances v after user page answer (calls.split shown s accepted split a g is) = ap (λ (w : LiveView). w.found) is

returns : (v after : LiveView) (answer : TurnAnswer) → ComeBackCase v answer after → Grows v after
returns v after answer (calls.runs s gone a back is) = same v after (ap (λ (w : LiveView). w.found) is)
returns v after answer (calls.between gone a is) = same v after (ap (λ (w : LiveView). w.found) is)
returns v after answer (calls.there here m) = moves_by Works works v after answer m

-- what a call takes and what is left is what was there and what it finds
abbrev IsTaken : LiveView → Told → LiveView → Type 0
IsTaken v t after = found_taken t ++ after.found ≡ v.found ++ found_by v after

grown : (v after : LiveView) → Grows v after → after.found ≡ v.found ++ found_by v after
grown v after g =
    g.1 ∙ ap (λ xs. v.found ++ xs) (sym (ap (drop (length v.found)) g.1 ∙ drop-append_seam v.found g.0))

takes : (fs : List Found) (taken : Option Found) → taken ≡ slice_get fs 0
    → found_taken (take_found taken) ++ drop 1 fs ≡ fs ++ drop (length fs) (drop 1 fs)
takes [] taken is = ap (λ (o : Option Found). found_taken (take_found o) ++ []) is
takes (f ∷ fs) taken is =
    ap (λ (o : Option Found). found_taken (take_found o) ++ fs) is
    ∙ sym (append-nil (f ∷ fs))
    ∙ ap (λ xs. (f ∷ fs) ++ xs) (sym (drop_all (length (f ∷ fs)) fs (omega arith)))

takes_call : (v after : LiveView) (taken : Option Found) → TakesFound v taken after → IsTaken v (take_found taken) after
takes_call v after taken does =
    subst (λ (w : LiveView). IsTaken v (take_found taken) w) (sym does.1) (takes v.found taken does.0)

by_call : (t : Told) (v after : LiveView) → Does v t after → IsTaken v t after
by_call (turn answer) v after d = grown v after (moves_by Works works v after answer d)
by_call (like user page answer) v after d = grown v after (by_case d)
  where
    by_case : LikeCase v user page answer after → Grows v after
    by_case (calls.gone m a) = moves_by Works works v after _ m
    by_case (calls.between m a) = moves_by Works works v after _ m
    by_case (calls.runs now m l) =
        then_same v now after (moves_by Works works v now _ m) (likes now after user page answer l)
by_call (like_on user page answer) v after d = grown v after (same v after (likes v after user page answer d.1))
by_call (look user page tag answer) v after d = grown v after (by_case d)
  where
    by_case : LookCase v user page tag answer after → Grows v after
    by_case (calls.gone m a) = moves_by Works works v after _ m
    by_case (calls.between m a) = moves_by Works works v after _ m
    by_case (calls.runs now m l) =
        then_same v now after (moves_by Works works v now _ m) (shows now after user page tag answer l)
by_call (glance user page answer) v after d = grown v after (by_case d)
  where
    by_case : GlanceCase v user page answer after → Grows v after
    by_case (calls.gone m a) = moves_by Works works v after _ m
    by_case (calls.between m a) = moves_by Works works v after _ m
    by_case (calls.runs now m l) =
        then_same v now after (moves_by Works works v now _ m) (glances now after user page answer l)
by_call (take_found taken) v after d = takes_call v after taken d
by_call (retire answer) v after d = grown v after (moves_by RetireWorks retire_works v after answer d)
by_call (come_back answer) v after d = grown v after (returns v after answer d)

by_calls : (told : List Told) (v after : LiveView) (done : HasDone v told after)
    → all_taken told ++ after.found ≡ v.found ++ all_found told v after done
by_calls [] v after done = ap (λ (w : LiveView). w.found) done ∙ sym (append-nil v.found)
by_calls (t ∷ told) v after done =
    append_assoc (found_taken t) (all_taken told) after.found
    ∙ ap (λ xs. found_taken t ++ xs) (by_calls told done.0 after done.1.1)
    ∙ sym (append_assoc (found_taken t) done.0.found (all_found told done.0 after done.1.1))
    ∙ ap (λ xs. xs ++ all_found told done.0 after done.1.1) (by_call t v done.0 done.1.0)
    ∙ append_assoc v.found (found_by v done.0) (all_found told done.0 after done.1.1)

pub found_are_taken : FoundAreTaken
found_are_taken v after told done unused =
    by_calls told v after done ∙ ap (λ xs. xs ++ all_found told v after done) unused.new.found
