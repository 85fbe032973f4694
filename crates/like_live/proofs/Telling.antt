-- What each call of a live seat tells.
use Rattle.std.proofs.Common.{◌≡◌, ◌≢◌, ℕ, ◌+◌, ◌<◌, ◌==◌, Bool, true, false, cond, List, [], ◌∷◌, ◌++◌, length, map, Option, Some, None, refl, ap, sym, ◌∙◌, subst, inl, inr, arith, append-nil}
use Rattle.std.specs.List.{last_or}
use Rattle.std.proofs.lemmas.Bool.{cases_eq, eq-eqb, ne_eqb}
use Rattle.std.proofs.lemmas.List.{get_or-set_other, get_or-set_same, length-set, map-append}
use Rattle.like_core.specs.declared.sight.Sight.{Sight}
use Rattle.like_core.specs.declared.worker_state.WorkerState.{WorkerState}
use Rattle.like_core.specs.declared.worker_state.WorkerState.TheVariants as state
use Rattle.like_core.specs.WorkerState.{IsSightOf, RunsSplit, seen}
use Rattle.like_requests.specs.declared.verdict.Verdict.TheVariants.{Accepted}
use Rattle.like_seat.specs.StationView.{StationView}
use Rattle.like_seat.specs.Steps.{CountsLike}
use Rattle.like_tables.specs.UserTable.{UserTable, last_of, with_last}
use Rattle.like_live.specs.declared.answer.TurnAnswer.{TurnAnswer}
use Rattle.like_live.specs.declared.asked.Asked.{Asked}
use Rattle.like_live.specs.declared.asked.Found.{Found}
use Rattle.like_live.specs.LiveView.{KeepsTallies, LiveView, tally, waiting, with_station}
use Rattle.like_live.specs.Moves as moves
use Rattle.like_live.specs.Moves.{FindsAll, Moves, MovesBy, Works, looked}
use Rattle.like_live.specs.Calls as calls
use Rattle.like_live.specs.Calls.{ComeBackCase, RetireCase, RetireWorks, verdict_at}
use Rattle.like_live.specs.History.{Told, like_told, look_of, look_taken, look_told, look_waiting, looks_left, page_liked}
use Rattle.like_live.proofs.Requests.{passes_at}
use Rattle.like_live.proofs.Moving.{IsSized, Leaves, Leaves-come_back, Leaves-moves, Leaves-retires}

-- a seat with a number for each page and an entry for each user, at which nothing waits once it is gone
pub record IsWhole (v : LiveView) : Type 0 where
  pub sized : IsSized v
  pub table : length v.station.last.last ≡ v.station.last.share.users
  pub empty : v.station.post.state ≡ state.Gone → waiting v ≡ []

-- nothing that a history counts changes
pub record IsQuiet (v after : LiveView) : Type 0 where
  pub whole : IsWhole after
  pub tallies : KeepsTallies v after
  pub last : after.station.last ≡ v.station.last
  pub looks : looks_left after ≡ looks_left v

-- what a call tells is what it does
pub record IsTold (v after : LiveView) (t : Told) : Type 0 where
  pub whole : IsWhole after
  pub tallies : (page : ℕ) → tally after page ≡ tally v page + like_told page t
  pub last : (user : ℕ) → last_of after.station.last user ≡ last_or (last_of v.station.last user) (page_liked user t)
  pub looks : look_taken t ++ looks_left after ≡ looks_left v ++ look_told t

-- it tells of nothing that a history counts
pub record TellsNothing (t : Told) : Type 0 where
  pub likes : (page : ℕ) → like_told page t ≡ 0
  pub pages : (user : ℕ) → page_liked user t ≡ []
  pub taken : look_taken t ≡ []
  pub told : look_told t ≡ []

pub IsTold-quiet : (v after : LiveView) (t : Told) → IsQuiet v after → TellsNothing t → IsTold v after t
IsTold-quiet v after t q none = record {
  whole = q.whole;
  tallies = λ page. let a = q.tallies page in let b = none.likes page in omega arith;
  last = λ user. ap (λ (x : UserTable). last_of x user) q.last
      ∙ sym (ap (last_or (last_of v.station.last user)) (none.pages user));
  looks = ap (λ xs. xs ++ looks_left after) none.taken ∙ q.looks ∙ sym (append-nil (looks_left v))
      ∙ ap (λ xs. looks_left v ++ xs) (sym none.told);
}

pub IsTold-after : (v now after : LiveView) (t : Told) → IsQuiet v now → IsTold now after t → IsTold v after t
IsTold-after v now after t q s = record {
  whole = s.whole;
  tallies = λ page. s.tallies page ∙ ap (λ n. n + like_told page t) (q.tallies page);
  last = λ user. s.last user ∙ ap (λ (x : UserTable). last_or (last_of x user) (page_liked user t)) q.last;
  looks = s.looks ∙ ap (λ xs. xs ++ look_told t) q.looks;
}

pub IsQuiet-same : (v : LiveView) → IsWhole v → IsQuiet v v
IsQuiet-same v whole = record { whole = whole; tallies = λ page. refl; last = refl; looks = refl }

pub IsQuiet-both : (v now after : LiveView) → IsQuiet v now → IsQuiet now after → IsQuiet v after
IsQuiet-both v now after a b = record {
  whole = b.whole;
  tallies = λ page. b.tallies page ∙ a.tallies page;
  last = b.last ∙ a.last;
  looks = b.looks ∙ a.looks;
}

-- a look leaves a worker that is there
seen-there : (s : WorkerState) (sight : Sight) → IsSightOf s sight → seen s sight ≢ state.Gone
seen-there (state.Runs k) sight can = λ e. absurd (cc e)
seen-there (state.Answered k) sight can = by_test sight.waits
  where
    by_test : (b : Bool) → cond b (state.Answered k) (state.Runs (k + 1)) ≢ state.Gone
    by_test true = λ e. absurd (cc e)
    by_test false = λ e. absurd (cc e)
seen-there state.Gone sight can = absurd can

-- who runs a split phase is there
split-there : (s : WorkerState) → RunsSplit s → s ≢ state.Gone
split-there (state.Runs k) split = λ e. absurd (cc e)
split-there (state.Answered k) split = absurd split
split-there state.Gone split = absurd split

-- nothing waits at a seat that is gone
abbrev IsEmpty : LiveView → Type 0
IsEmpty v = v.station.post.state ≡ state.Gone → waiting v ≡ []

empty-works : (v after : LiveView) (ending : Bool) (answer : TurnAnswer) → Works v ending answer after → IsEmpty after
empty-works v after ending answer (moves.runs_joined joined e a found) = λ gone. ap waiting found.rest
empty-works v after ending answer (moves.acknowledges now joined e a found is) =
    λ gone. ap waiting is ∙ ap waiting found.rest
empty-works v after ending answer (moves.runs_split split e a is) =
    subst IsEmpty (sym is) (λ gone. absurd (split-there v.station.post.state split gone))
empty-works v after ending answer (moves.reports s split e a merges is) =
    subst IsEmpty (sym is) (λ gone. absurd (cc (sym (ap (λ (t : StationView Asked). t.post.state) merges.1.1) ∙ gone)))

empty-retire_works : (v after : LiveView) (ending : Bool) (answer : TurnAnswer)
    → RetireWorks v ending answer after
    → IsEmpty after
empty-retire_works v after ending answer (calls.retires now joined a found is) =
    λ gone. ap waiting is ∙ ap waiting found.rest
empty-retire_works v after ending answer (calls.stays split does) = empty-works v after ending answer does

-- a found look is the one that waited
looks-found : (fs : List Found) → map look_of fs ≡ map look_waiting (map (λ f. f.asked) fs)
looks-found [] = refl
looks-found (f ∷ fs) = ap (λ xs. look_of f ∷ xs) (looks-found fs)

finds-looks : (v after : LiveView) → FindsAll v after → looks_left after ≡ looks_left v
finds-looks v after f =
    ap looks_left f.rest
    ∙ append-nil (map look_of (v.found ++ f.found))
    ∙ map-append look_of v.found f.found
    ∙ ap (λ xs. map look_of v.found ++ xs) (looks-found f.found ∙ ap (map look_waiting) f.order)

pub merged-looks : (v : LiveView) (s : StationView Asked) → s.stash ≡ v.station.stash → looks_left (with_station v s) ≡ looks_left v
merged-looks v s stash = ap (λ h. map look_of v.found ++ map look_waiting h.looks) stash

works-looks : (v after : LiveView) (ending : Bool) (answer : TurnAnswer)
    → Works v ending answer after
    → looks_left after ≡ looks_left v
works-looks v after ending answer (moves.runs_joined joined e a found) = finds-looks v after found
works-looks v after ending answer (moves.acknowledges now joined e a found is) = ap looks_left is ∙ finds-looks v now found
works-looks v after ending answer (moves.runs_split split e a is) = ap looks_left is
works-looks v after ending answer (moves.reports s split e a merges is) =
    ap looks_left is
    ∙ merged-looks v s
    (ap (λ (t : StationView Asked). t.stash) merges.1.1 ∙ ap (λ (t : StationView Asked). t.stash) merges.1.0.1.1)

retire_works-looks : (v after : LiveView) (ending : Bool) (answer : TurnAnswer)
    → RetireWorks v ending answer after
    → looks_left after ≡ looks_left v
retire_works-looks v after ending answer (calls.retires now joined a found is) =
    ap looks_left is ∙ finds-looks v now found
retire_works-looks v after ending answer (calls.stays split does) = works-looks v after ending answer does

-- what a look at the phase word makes a seat do leaves nothing waiting at a seat that is gone, and each look that was
-- asked
record IsFaithful (Runs : LiveView → Bool → TurnAnswer → LiveView → Type 0) : Type 0 where
  empty : (v after : LiveView) (ending : Bool) (answer : TurnAnswer) → Runs v ending answer after → IsEmpty after
  looks : (v after : LiveView) (ending : Bool) (answer : TurnAnswer)
      → Runs v ending answer after
      → looks_left after ≡ looks_left v

empty-by : (Runs : LiveView → Bool → TurnAnswer → LiveView → Type 0)
    → IsFaithful Runs
    → (v after : LiveView) (answer : TurnAnswer)
    → IsEmpty v
    → MovesBy Runs v answer after
    → IsEmpty after
empty-by Runs does v after answer empty (moves.is_gone gone a is) = subst IsEmpty (sym is) empty
empty-by Runs does v after answer empty (moves.waits sight mask can w a is) =
    subst IsEmpty (sym is) (λ gone. absurd (seen-there v.station.post.state sight can gone))
empty-by Runs does v after answer empty (moves.works sight mask number can w work) =
    does.empty (looked v sight mask number) after sight.ending answer work

looks-by : (Runs : LiveView → Bool → TurnAnswer → LiveView → Type 0)
    → IsFaithful Runs
    → (v after : LiveView) (answer : TurnAnswer)
    → MovesBy Runs v answer after
    → looks_left after ≡ looks_left v
looks-by Runs does v after answer (moves.is_gone gone a is) = ap looks_left is
looks-by Runs does v after answer (moves.waits sight mask can w a is) = ap looks_left is
looks-by Runs does v after answer (moves.works sight mask number can w work) =
    does.looks (looked v sight mask number) after sight.ending answer work

-- what leaves all that, and each tally and last like, is quiet
IsQuiet-by : (Runs : LiveView → Bool → TurnAnswer → LiveView → Type 0)
    → IsFaithful Runs
    → (v after : LiveView) (answer : TurnAnswer)
    → IsWhole v
    → Leaves v after
    → MovesBy Runs v answer after
    → IsQuiet v after
IsQuiet-by Runs does v after answer whole l m = record {
  whole = record {
    sized = l.sized ∙ whole.sized ∙ ap length (sym l.same.marks);
    table = ap (λ (t : UserTable). length t.last) l.last ∙ whole.table
        ∙ ap (λ (t : UserTable). t.share.users) (sym l.last);
    empty = empty-by Runs does v after answer whole.empty m;
  };
  tallies = l.tallies;
  last = l.last;
  looks = looks-by Runs does v after answer m;
}

-- phase work is quiet
pub IsQuiet-moves : (v after : LiveView) (answer : TurnAnswer) → IsWhole v → Moves v answer after → IsQuiet v after
IsQuiet-moves v after answer whole m =
    IsQuiet-by Works (record { empty = empty-works; looks = works-looks }) v after answer whole
    (Leaves-moves v after answer whole.sized m) m

-- so is a retirement
pub IsQuiet-retires : (v after : LiveView) (answer : TurnAnswer)
    → IsWhole v
    → RetireCase v answer after
    → IsQuiet v after
IsQuiet-retires v after answer whole m =
    IsQuiet-by RetireWorks (record { empty = empty-retire_works; looks = retire_works-looks }) v after answer whole
    (Leaves-retires v after answer whole.sized m) m

-- so is a return
pub IsQuiet-come_back : (v after : LiveView) (answer : TurnAnswer)
    → IsWhole v
    → ComeBackCase v answer after
    → IsQuiet v after
IsQuiet-come_back v after answer whole (calls.runs s gone a back is) =
    let l = Leaves-come_back v after answer whole.sized (calls.runs s gone a back is) in
    let came = is ∙ ap (with_station v) back.1.1 in
    record {
      whole = record {
        sized = l.sized ∙ whole.sized ∙ ap length (sym l.same.marks);
        table = ap (λ (t : UserTable). length t.last) l.last ∙ whole.table
            ∙ ap (λ (t : UserTable). t.share.users) (sym l.last);
        empty = λ other. ap waiting came ∙ whole.empty gone;
      };
      tallies = l.tallies;
      last = l.last;
      looks = ap looks_left came;
    }
IsQuiet-come_back v after answer whole (calls.between gone a is) = subst (IsQuiet v) (sym is) (IsQuiet-same v whole)
IsQuiet-come_back v after answer whole (calls.there here m) = IsQuiet-moves v after answer whole m

-- the user of a request that is accepted has an entry
pub user_there : (s : StationView Asked) (user page : ℕ) → verdict_at s user page ≡ Accepted → user < s.last.share.users
user_there s user page is = (passes_at s user page is).0

-- a like is the user's last
pub last-more : (t : UserTable) (user page other : ℕ)
    → user < length t.last
    → last_of (with_last t user page) other ≡ last_or (last_of t other) (cond (user == other) (page ∷ []) [])
last-more t user page other there =
    elim (cases_eq user other) [
      | inl same ↦
          subst (λ (k : ℕ). last_of (with_last t user page) k ≡ last_or (last_of t k) (cond (user == k) (page ∷ []) []))
          same
          (get_or-set_same t.last user (Some page) None there
          ∙ ap (λ (b : Bool). last_or (last_of t user) (cond b (page ∷ []) [])) (sym (eq-eqb user user refl)))
      | inr apart ↦
          get_or-set_other t.last user other (Some page) None (λ e. apart (sym e))
          ∙ ap (λ (b : Bool). last_or (last_of t other) (cond b (page ∷ []) [])) (sym (ne_eqb user other apart))
    ]

-- what a like that is counted leaves
pub record IsCounted (s after : StationView Asked) (user page : ℕ) : Type 0 where
  pub stash : after.stash ≡ s.stash
  pub last : after.last ≡ with_last s.last user page
  pub is_in : after.post.state ≡ s.post.state
  pub marks : after.post.opening.marks ≡ s.post.opening.marks
  pub sized : length after.slice ≡ length s.slice

pub is_counted : (s after : StationView Asked) (user page : ℕ) (old : Option ℕ)
    → CountsLike s user page old after
    → IsCounted s after user page
is_counted s after user page None c = record {
  stash = ap (λ (t : StationView Asked). t.stash) c.1;
  last = ap (λ (t : StationView Asked). t.last) c.1;
  is_in = ap (λ (t : StationView Asked). t.post.state) c.1;
  marks = ap (λ (t : StationView Asked). t.post.opening.marks) c.1;
  sized = ap (λ (t : StationView Asked). length t.slice) c.1 ∙ length-set s.slice page _;
}
is_counted s after user page (Some count) c = record {
  stash = ap (λ (t : StationView Asked). t.stash) c.1;
  last = ap (λ (t : StationView Asked). t.last) c.1;
  is_in = ap (λ (t : StationView Asked). t.post.state) c.1;
  marks = ap (λ (t : StationView Asked). t.post.opening.marks) c.1;
  sized = ap (λ (t : StationView Asked). length t.slice) c.1;
}
