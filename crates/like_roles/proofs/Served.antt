-- What running a request leaves as it is.
use Rattle.std.proofs.Common.{◌≡◌, ℕ, Bool, true, false, cond, List, [], ◌∷◌, ◌++◌, refl, ap, ◌∙◌}
use Rattle.like_requests.specs.declared.request.Request.{Request}
use Rattle.like_core.specs.declared.worker_state.WorkerState.{WorkerState}
use Rattle.like_core.specs.declared.worker_state.WorkerState.TheVariants as state
use Rattle.like_core.specs.Phase.{IsJoined, IsSplit}
use Rattle.like_core.specs.WorkerState.{RunsJoined, RunsSome, RunsSplit, phase_of}
use Rattle.like_core.specs.Post.{is_split_at}
use Rattle.like_tables.specs.declared.held.Held.{Held}
use Rattle.like_promises.specs.declared.log.Ran.{Ran}
use Rattle.like_promises.specs.declared.reply.Reply.{Reply}
use Rattle.like_roles.specs.worker.Serve.{GivesReply, refuses, likes, looks, sliced, with_addition, counted, liked, shown, ran_now, Runs}
use Rattle.like_roles.specs.worker.WorkerView.{WorkerView, phase_at}

-- a worker that runs a phase that is split runs a split phase
pub runs-split : (s : WorkerState) → RunsSome (λ _. Unit {0}) s → IsSplit (phase_of s) → RunsSplit s
runs-split (state.Runs k) r odd = odd
runs-split (state.Answered k) r odd = absurd r
runs-split state.Gone r odd = absurd r

-- and one that runs a phase that is joined runs a joined phase
pub runs-joined : (s : WorkerState) → RunsSome (λ _. Unit {0}) s → IsJoined (phase_of s) → RunsJoined s
runs-joined (state.Runs k) r even = even
runs-joined (state.Answered k) r even = absurd r
runs-joined state.Gone r even = absurd r

-- what holds with one more like in the slice, and with one more on the board, holds once a like is counted
pub counted_by : (P : WorkerView → Type 0) (v : WorkerView) (page old number : ℕ)
    → P (sliced v page) → P (with_addition v page old 1 number) → P (counted v page old number)
counted_by P v page old number in_slice on_board = by_test (is_split_at v.post page) where
  by_test : (b : Bool) → P (cond b (sliced v page) (with_addition v page old 1 number))
  by_test true = in_slice
  by_test false = on_board

-- what no like and no read changes, no answer changes
pub GivesReply-keeps : {X : Type 0} (f : WorkerView → X) (v : WorkerView) (submitter : ℕ) (r : Request) (reply : Reply)
    (w : WorkerView)
    → ((user page old number : ℕ) → f (liked v user page old number) ≡ f v)
    → ((page count number : ℕ) → f (shown v page count number) ≡ f v)
    → GivesReply v submitter r reply w
    → f w ≡ f v
GivesReply-keeps f v submitter r reply w k l (refuses why is a e) = ap f e
GivesReply-keeps f v submitter r reply w k l (likes user page is a e) = ap f e.1 ∙ k user page e.0 _
GivesReply-keeps f v submitter r reply w k l (looks user page count is a least e) = ap f e ∙ l page count _

-- an answer changes no state, and no list of what was run
pub GivesReply-state : (v : WorkerView) (submitter : ℕ) (r : Request) (reply : Reply) (w : WorkerView)
    → GivesReply v submitter r reply w
    → w.post.state ≡ v.post.state
GivesReply-state v submitter r reply w s =
    GivesReply-keeps (λ x. x.post.state) v submitter r reply w
    (λ user page old number. counted_by (λ x. x.post.state ≡ v.post.state) v page old number refl refl)
    (λ page count number. refl) s

pub GivesReply-ran : (v : WorkerView) (submitter : ℕ) (r : Request) (reply : Reply) (w : WorkerView)
    → GivesReply v submitter r reply w
    → w.ran ≡ v.ran
GivesReply-ran v submitter r reply w s =
    GivesReply-keeps (λ x. x.ran) v submitter r reply w
    (λ user page old number. counted_by (λ x. x.ran ≡ v.ran) v page old number refl refl) (λ page count number. refl) s

-- a request is answered, and its entry is put at the end of what was run
pub Runs-noted : (v w : WorkerView) (h : Held) (stashed : Bool) (reply : Reply) (phase : ℕ) (ran : List Ran)
    → GivesReply v h.submitter h.ask.request reply w → phase_at v ≡ phase
    → ran ≡ w.ran
    ++ (record {
      phase =
          phase;
      submitter = h.submitter;
      number = h.ask.number;
      stashed = stashed;
      reply = reply;
    }) ∷ []
    → Runs v h stashed (record w { ran = ran })
Runs-noted v w h stashed reply phase ran gives now is =
    let noted : List Ran = v.ran ++ ran_now v h stashed reply ∷ [] in
    let same : ran ≡ noted = rw (is, GivesReply-ran v h.submitter h.ask.request reply w gives, ← now) refl in
    record {
      reply = reply;
      served = w;
      serves = gives;
      noted = ap (λ (xs : List Ran). record w { ran = xs }) {x = ran} {y = noted} same;
    }
