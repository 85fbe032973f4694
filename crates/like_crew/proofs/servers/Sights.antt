-- What a turn does to what a worker saw.
use Rattle.std.proofs.Common.{◌≡◌, ◌≢◌, ℕ, ◌+◌, ◌≤◌, ◌<◌, Bool, true, false, cond, List, [], ◌∷◌, ◌++◌, length, get_or, Option, Some, None, refl, ap, sym, ◌∙◌, arith, subst, MatchBool, AllPairs}
use Rattle.std.specs.Option.{IfSome}
use Rattle.std.specs.List.{All}
use Rattle.std.proofs.lemmas.List.Elements.{All-push}
use Rattle.std.proofs.lemmas.List.Quantifiers.{all_pairs_push}
use Rattle.like_requests.specs.declared.request.Numbered.{Numbered}
use Rattle.like_requests.specs.declared.request.Request.{Request}
use Rattle.like_requests.specs.declared.request.Taken.{Taken}
use Rattle.like_core.specs.declared.sight.Sight.{Sight}
use Rattle.like_core.specs.declared.worker_state.WorkerState.{WorkerState}
use Rattle.like_core.specs.declared.worker_state.WorkerState.TheVariants as state
use Rattle.like_core.specs.Phase.{IsJoined, IsSplit}
use Rattle.like_core.specs.WorkerState.{IsSightOf, RunsSome, phase_of, seen}
use Rattle.like_core.specs.Post.{answered, number_of}
use Rattle.like_tables.specs.declared.held.Held.{Held}
use Rattle.like_promises.specs.declared.log.Took.{Took}
use Rattle.like_promises.specs.declared.reply.Reply.{Reply}
use Rattle.like_roles.specs.declared.turn.Turn.{Turn}
use Rattle.like_roles.specs.declared.turn.Turn.TheVariants as turn
use Rattle.like_roles.specs.worker.Serve.{Runs, GivesReply}
use Rattle.like_roles.specs.worker.Turns as turns
use Rattle.like_roles.specs.worker.Turns.{Gives, TakesAsk, Turns, Works, merged, saw, settled, with_taken, without_first}
use Rattle.like_roles.specs.worker.WorkerView.{WorkerView, phase_at, submitter_at}
use Rattle.like_roles.proofs.Served.{GivesReply-keeps, counted_by}
use Rattle.like_roles.proofs.Effects.{Runs-effects}
use Rattle.like_crew.specs.Server.{NoneAbove}

-- nothing was taken above the phase that was seen last, and that is the one that the worker runs or has answered
abbrev pub Seen : WorkerState → Option Sight → List Took → Type 0
Seen s last taken = NoneAbove last taken × (s ≢ state.Gone → IfSome last (λ sight. sight.number ≡ phase_of s))

abbrev pub HasSeen : WorkerView → Type 0
HasSeen v = Seen v.post.state v.post.last v.taken

-- a worker of the same state that saw the same and took the same
alike : (v w : WorkerView)
    → w.post.state ≡ v.post.state
    → w.post.last ≡ v.post.last
    → w.taken ≡ v.taken
    → HasSeen v
    → HasSeen w
alike v w s l t h =
    subst (λ x. Seen x w.post.last w.taken) (sym s)
    (subst (λ x. Seen v.post.state x w.taken) (sym l) (subst (λ x. Seen v.post.state v.post.last x) (sym t) h))

-- a look shows no earlier phase
later_by : (b : Bool) (n k : ℕ) → MatchBool b (n ≡ k) (n ≡ k + 1) → k ≤ n
later_by true n k h = omega (arith, h)
later_by false n k h = omega (arith, h)

later : (s : WorkerState) (sight : Sight) → IsSightOf s sight → phase_of s ≤ sight.number
later (state.Runs k) sight h = omega (arith, h.0)
later (state.Answered k) sight h = later_by sight.waits sight.number k h
later state.Gone sight h = absurd h

-- a look shows the phase that the worker runs or has answered after it
present_by : (b : Bool) (n k : ℕ)
    → MatchBool b (n ≡ k) (n ≡ k + 1)
    → n ≡ phase_of (cond b (state.Answered k) (state.Runs (k + 1)))
present_by true n k h = h
present_by false n k h = h

present_after : (s : WorkerState) (sight : Sight) → IsSightOf s sight → sight.number ≡ phase_of (seen s sight)
present_after (state.Runs k) sight h = h.0
present_after (state.Answered k) sight h = present_by sight.waits sight.number k h
present_after state.Gone sight h = absurd h

above-look : (last : Option Sight) (taken : List Took) (n : ℕ)
    → NoneAbove last taken
    → IfSome last (λ sight. sight.number ≤ n)
    → All (λ t. t.phase ≤ n) taken
above-look None taken n none h = λ k d within. absurd (omega (arith, within, ap (λ (xs : List Took). length xs) none))
above-look (Some old) taken n all h = λ k d within. omega (arith, all k d within, h)

if_some_le : (last : Option Sight) (k n : ℕ)
    → IfSome last (λ sight. sight.number ≡ k)
    → k ≤ n
    → IfSome last (λ sight. sight.number ≤ n)
if_some_le None k n h le = tt
if_some_le (Some sight) k n h le = omega (arith, h, le)

not_gone : (s : WorkerState) (sight : Sight) → IsSightOf s sight → s ≢ state.Gone
not_gone (state.Runs k) sight h = λ e. cc e
not_gone (state.Answered k) sight h = λ e. cc e
not_gone state.Gone sight h = absurd h

seen-look : (v : WorkerView) (sight : Sight) (mask number : ℕ)
    → IsSightOf v.post.state sight
    → HasSeen v
    → HasSeen (saw v sight mask number)
seen-look v sight mask number i h = (
  above-look v.post.last v.taken sight.number h.0
      (if_some_le v.post.last (phase_of v.post.state) sight.number (h.1 (not_gone v.post.state sight i))
      (later v.post.state sight i)),
  λ _. present_after v.post.state sight i,
)

-- who runs a phase is not gone
pub running_here : (P : ℕ → Type 0) (s : WorkerState) → RunsSome P s → s ≢ state.Gone
running_here P (state.Runs k) r = λ e. cc e
running_here P (state.Answered k) r = absurd r
running_here P state.Gone r = absurd r

-- a request that runs leaves the last sight
pub serves-last : (v : WorkerView) (submitter : ℕ) (r : Request) (reply : Reply) (w : WorkerView)
    → GivesReply v submitter r reply w
    → w.post.last ≡ v.post.last
serves-last v submitter r reply w =
    GivesReply-keeps (λ x. x.post.last) v submitter r reply w
    (λ user page old number. counted_by (λ x. x.post.last ≡ v.post.last) v page old number refl refl)
    (λ page count number. refl)

runs-seen : (v : WorkerView) (h : Held) (stashed : Bool) (after : WorkerView)
    → Runs v h stashed after
    → HasSeen v
    → HasSeen after
runs-seen v h stashed after run k =
    let e = Runs-effects v h stashed after run in
    let last : after.post.last ≡ v.post.last =
    ap (λ x. x.post.last) run.noted ∙ serves-last v h.submitter h.ask.request run.reply run.served run.serves in
    alike v after e.state last e.taken k

-- a worker that answers its phase still knows it
answered-seen : (v : WorkerView) (P : ℕ → Type 0)
    → RunsSome P v.post.state
    → HasSeen v
    → Seen (state.Answered (phase_of v.post.state)) v.post.last v.taken
answered-seen v P run h = (h.0, λ _. h.1 (running_here P v.post.state run))

works-seen : (v : WorkerView) (ending : Bool) (answer : Turn) (after : WorkerView)
    → Works v ending answer after
    → HasSeen v
    → HasSeen after
works-seen v ending answer after (turns.runs_stashed first rest j e a run) h =
    runs-seen (without_first v rest) first true after run h
works-seen v ending answer after (turns.retires j e ended a x) h =
    subst HasSeen (sym x) (h.0, λ here. absurd (here refl))
works-seen v ending answer after (turns.acknowledges j e ended seen a x) h =
    subst HasSeen (sym x) (answered-seen v IsJoined j h)
works-seen v ending answer after (turns.tries_joined place j e next seen a x) h = subst HasSeen (sym x) h
works-seen v ending answer after (turns.reports now s seen a m x) h =
    let merges = merged v m.0 now.post.logged in
    let is : after ≡ record merges { post = answered merges.post } =
    x ∙ ap {A = WorkerView} (λ w. record w { post = answered w.post }) m.1.1 in
    subst HasSeen (sym is) (answered-seen v IsSplit s h)
works-seen v ending answer after (turns.idles s seen stuck a x) h = subst HasSeen (sym x) h
works-seen v ending answer after (turns.tries_split place s seen room next a x) h = subst HasSeen (sym x) h

-- a turn
pub turns-seen : (v : WorkerView) (answer : Turn) (after : WorkerView)
    → Turns v answer after
    → HasSeen v
    → HasSeen after
turns-seen v answer after (turns.is_gone gone a x) h = subst HasSeen (sym x) h
turns-seen v answer after (turns.waits sight here i w a x) h = subst HasSeen (sym x) (seen-look v sight 0 (number_of after.post) i h)
turns-seen v answer after (turns.works sight mask number here i w x) h =
    works-seen (saw v sight mask number) sight.ending answer after x (seen-look v sight mask number i h)

-- a worker that tries a submitter has looked, and is there
pub record IsTrying (v : WorkerView) : Type 0 where
  pub sight : Sight
  pub saw_it : v.post.last ≡ Some sight
  pub here : v.post.state ≢ state.Gone

works-tries : (v : WorkerView) (ending : Bool) (answer : Turn) (after : WorkerView) (sight : Sight) (submitter : ℕ)
    → v.post.last ≡ Some sight
    → Works v ending answer after
    → answer ≡ turn.Try submitter → IsTrying after
works-tries v ending answer after sight submitter l (turns.runs_stashed first rest j e a run) r = cc (a, r)
works-tries v ending answer after sight submitter l (turns.retires j e ended a x) r = cc (a, r)
works-tries v ending answer after sight submitter l (turns.acknowledges j e ended seen a x) r = cc (a, r)
works-tries v ending answer after sight submitter l (turns.tries_joined place j e next seen a x) r =
    subst IsTrying (sym x) (record { sight = sight; saw_it = l; here = running_here IsJoined v.post.state j })
works-tries v ending answer after sight submitter l (turns.reports now s seen a m x) r = cc (a, r)
works-tries v ending answer after sight submitter l (turns.idles s seen stuck a x) r = cc (a, r)
works-tries v ending answer after sight submitter l (turns.tries_split place s seen room next a x) r =
    subst IsTrying (sym x) (record { sight = sight; saw_it = l; here = running_here IsSplit v.post.state s })

pub turns-tries : (v : WorkerView) (answer : Turn) (after : WorkerView) (submitter : ℕ)
    → Turns v answer after
    → answer ≡ turn.Try submitter
    → IsTrying after
turns-tries v answer after submitter (turns.is_gone gone a x) r = cc (a, r)
turns-tries v answer after submitter (turns.waits sight here i w a x) r = cc (a, r)
turns-tries v answer after submitter (turns.works sight mask number here i w x) r =
    works-tries (saw v sight mask number) sight.ending answer after sight submitter refl x r

-- what was taken so far was taken in no later phase than the present one
earlier : (v : WorkerView)
    → IsTrying v
    → HasSeen v
    → (k : ℕ) (d : Took)
    → k < length v.taken
    → (get_or v.taken k d).phase ≤ phase_at v
earlier v t h k d within =
    let all : All (λ u. u.phase ≤ t.sight.number) v.taken = subst (λ l. NoneAbove l v.taken) t.saw_it h.0 in
    let now : t.sight.number ≡ phase_at v =
    subst (λ l. IfSome l (λ sight. sight.number ≡ phase_at v)) t.saw_it (h.1 t.here) in
    omega (arith, all k d within, now)

taken-seen : (v : WorkerView) (place : ℕ) (ask : Numbered) → IsTrying v → HasSeen v → HasSeen (with_taken v place ask)
taken-seen v place ask t h =
    let u : Took = record { phase = phase_at v; submitter = submitter_at v place; number = ask.number } in
    let now : t.sight.number ≡ phase_at v =
    subst (λ l. IfSome l (λ sight. sight.number ≡ phase_at v)) t.saw_it (h.1 t.here) in
    let all : All (λ x. x.phase ≤ t.sight.number) v.taken = subst (λ l. NoneAbove l v.taken) t.saw_it h.0 in (
      subst (λ l. NoneAbove l (v.taken ++ u ∷ [])) (sym t.saw_it)
          (All-push (λ (x : Took). x.phase ≤ t.sight.number) v.taken u all (omega (arith, now))),
      h.1,
    )

-- the phases of taking never fall
abbrev pub IsRising : List Took → Type 0
IsRising taken = AllPairs (λ s t. s.phase ≤ t.phase) taken

pub taken-rising : (v : WorkerView) (place : ℕ) (ask : Numbered)
    → IsTrying v
    → HasSeen v
    → IsRising v.taken
    → IsRising (with_taken v place ask).taken
taken-rising v place ask t h rising =
    all_pairs_push (λ (s u : Took). s.phase ≤ u.phase) v.taken
    (record { phase = phase_at v; submitter = submitter_at v place; number = ask.number }) rising (earlier v t h)

takes-seen : (v : WorkerView) (place : ℕ) (ask : Numbered) (answer : Turn) (after : WorkerView)
    → TakesAsk v place ask answer after
    → IsTrying v
    → HasSeen v
    → HasSeen after
takes-seen v place ask answer after (turns.stashes w a x) t h = subst HasSeen (sym x) (taken-seen v place ask t h)
takes-seen v place ask answer after (turns.runs w a run) t h =
    runs-seen (with_taken v place ask) (turns.held_from v place ask) false after run (taken-seen v place ask t h)

-- what is given
pub gives-seen : (v : WorkerView) (took : Taken) (answer : Turn) (after : WorkerView)
    → Gives v took answer after
    → IsTrying v
    → HasSeen v
    → HasSeen after
gives-seen v took answer after (turns.nothing g a x) t h = subst HasSeen (sym x) h
gives-seen v took answer after (turns.ends place p g a x) t h = subst HasSeen (sym x) h
gives-seen v took answer after (turns.asks place ask p g x) t h =
    takes-seen (settled v) place ask answer after x (record { sight = t.sight; saw_it = t.saw_it; here = t.here }) h
