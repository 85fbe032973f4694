-- What the threads of the workers leave, one after another.
use Rattle.std.proofs.Common.{◌≡◌, ◌∙◌, zero, suc, List, [], ◌∷◌, ◌++◌, length, subst, sym, arith}
use Rattle.std.specs.List.{All, AllZip}
use Rattle.std.proofs.lemmas.List.Elements.{All-append}
use Rattle.like_board.specs.declared.worker_seat.WorkerSeat.{WorkerSeat}
use Rattle.like_core.specs.declared.worker_state.WorkerState.TheVariants.{Gone}
use Rattle.like_promises.specs.declared.log.WorkerLog.{WorkerLog}
use Rattle.like_crew.specs.Ended.{HasLeft, HaveLeft, IsSeatOf}
use Rattle.like_crew.specs.Server.{IsLogOf, ServerGoesOn, ServerView}
use Rattle.like_promises.proofs.Lists.{AllZip-more}
use Rattle.like_crew.proofs.lists.Pairs.{pairs-length}

-- a fact of one element
pub all-one : {A : Type 0} (P : A → Type 0) (x : A) → P x → All P (x ∷ [])
all-one P x h zero d within = h
all-one P x h (suc k) d within = absurd (omega (arith, within))

-- one more
pub one-left : (first more : List ServerView) (logs logs_more : List WorkerLog) (seats seats_more : List WorkerSeat)
    (s : ServerView) (log : WorkerLog) (seat : WorkerSeat)
    → more ≡ first ++ s ∷ []
    → logs_more ≡ logs ++ log ∷ []
    → seats_more ≡ seats ++ seat ∷ []
    → HaveLeft first logs seats
    → HasLeft s log seat
    → HaveLeft more logs_more seats_more
one-left first more logs logs_more seats seats_more s log seat firsts_are logs_are seats_are h one = record {
  servers = servers;
  later = subst (λ xs. AllZip ServerGoesOn xs servers) (sym firsts_are)
      (AllZip-more ServerGoesOn first h.servers s one.server h.later one.later);
  gone = All-append (λ (x : ServerView). x.worker.post.state ≡ Gone) h.servers (one.server ∷ []) h.gone
      (all-one (λ (x : ServerView). x.worker.post.state ≡ Gone) one.server one.gone);
  logs_are = subst (AllZip IsLogOf servers) (sym logs_are)
      (AllZip-more IsLogOf h.servers logs one.server log h.logs_are one.log_is);
  seats_are = subst (AllZip IsSeatOf servers) (sym seats_are)
      (AllZip-more IsSeatOf h.servers seats one.server seat h.seats_are one.seat_is);
} where
  servers : List ServerView
  servers = h.servers ++ one.server ∷ []

-- as many logs and seats as servers
pub logs-left : (first : List ServerView) (logs : List WorkerLog) (seats : List WorkerSeat)
    → HaveLeft first logs seats
    → length logs ≡ length first
logs-left first logs seats h =
    sym (pairs-length IsLogOf h.servers logs h.logs_are) ∙ sym (pairs-length ServerGoesOn first h.servers h.later)

pub seats-left : (first : List ServerView) (logs : List WorkerLog) (seats : List WorkerSeat)
    → HaveLeft first logs seats
    → length seats ≡ length first
seats-left first logs seats h =
    sym (pairs-length IsSeatOf h.servers seats h.seats_are) ∙ sym (pairs-length ServerGoesOn first h.servers h.later)
