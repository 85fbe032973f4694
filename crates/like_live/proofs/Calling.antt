-- What a request does to tallies and last likes.
use Rattle.std.proofs.Common.{◌≡◌, ℕ, ◌+◌, ◌<◌, ◌==◌, Bool, cond, List, [], ◌∷◌, ◌++◌, length, get_or, set, Option, Some, None, refl, ap, sym, ◌∙◌, subst, inl, inr, arith}
use Rattle.std.proofs.lemmas.Bool.{cases_eq, eq-eqb, ne_eqb}
use Rattle.std.proofs.lemmas.List.{get_or-set_other, get_or-set_same}
use Rattle.std.proofs.lemmas.List.Sums.{sum_by-append, sum_by-cons}
use Rattle.like_core.specs.declared.log.Logged.{Logged}
use Rattle.like_core.specs.declared.view.WorkerSeatView.{WorkerSeatView}
use Rattle.like_core.specs.declared.view.Addition.{Addition}
use Rattle.like_core.specs.declared.page_step.PageStep.{PageStep}
use Rattle.like_core.specs.Additions.{addition, added_to}
use Rattle.like_core.specs.Post.{has_glanced, has_read, number_of, pages_of}
use Rattle.like_core.specs.WorkerState.{phase_of}
use Rattle.like_core.specs.PageSteps.{additions_among}
use Rattle.like_requests.specs.declared.verdict.Verdict.TheVariants.{Accepted}
use Rattle.like_seat.specs.StationView.{StationView, phase_at, tally_of}
use Rattle.like_seat.specs.Steps.{CountsLike, stashing}
use Rattle.like_tables.specs.UserTable.{with_last}
use Rattle.like_tables.specs.StashView.{StashView}
use Rattle.like_live.specs.declared.answer.GlanceAnswer.{GlanceAnswer}
use Rattle.like_live.specs.declared.answer.GlanceAnswer.TheVariants as glanced
use Rattle.like_live.specs.declared.answer.LikeAnswer.{LikeAnswer}
use Rattle.like_live.specs.declared.answer.LookAnswer.{LookAnswer}
use Rattle.like_live.specs.declared.answer.TurnAnswer.{TurnAnswer}
use Rattle.like_live.specs.declared.asked.Asked.{Asked}
use Rattle.like_live.specs.LiveView.{IsSameSeat, KeepsTallies, LiveView, tally, with_station}
use Rattle.like_live.specs.Calls as calls
use Rattle.like_live.specs.Calls.{GlancesNow, LikesNow, LooksNow, TalliesLike, TellsIfSplit, asked_in, full, last_after, liked, refused, told_of, verdict_at}
use Rattle.like_live.specs.Moves.{Moves}
use Rattle.like_live.proofs.Moving.{IsSized, Leaves-moves, same_seat}
use Rattle.like_live.proofs.Requests.{passes_at}

-- the page of a request that is accepted is there
pub page_there : (s : StationView Asked) (user page : ℕ) → verdict_at s user page ≡ Accepted → page < pages_of s.post
page_there s user page is = (passes_at s user page is).2

-- one more in a slice, at a page
pub slice-more : (xs : List ℕ) (page other : ℕ)
    → page < length xs
    → get_or (set xs page (get_or xs page 0 + 1)) other 0 ≡ get_or xs other 0 + cond (page == other) 1 0
slice-more xs page other there =
    elim (cases_eq page other) [
      | inl same ↦
          subst (λ (k : ℕ). get_or (set xs page (get_or xs page 0 + 1)) k 0 ≡ get_or xs k 0 + cond (page == k) 1 0) same
          (get_or-set_same xs page (get_or xs page 0 + 1) 0 there
          ∙ ap (λ (b : Bool). get_or xs page 0 + cond b 1 0) (sym (eq-eqb page page refl)))
      | inr apart ↦
          let none : cond {A = ℕ} (page == other) 1 0 ≡ 0 = ap (λ (b : Bool). cond b 1 0) (ne_eqb page other apart) in
          let here : get_or (set xs page (get_or xs page 0 + 1)) other 0 ≡ get_or xs other 0 =
          get_or-set_other xs page other (get_or xs page 0 + 1) 0 (λ e. apart (sym e)) in
          omega arith
    ]

-- one more on the board
added-more : (xs : List Addition) (phase page old other : ℕ)
    → added_to other (xs ++ addition phase page old 1 ∷ []) ≡ added_to other xs + cond (page == other) 1 0
added-more xs phase page old other =
    let f : Addition → ℕ = λ a. cond (a.page == other) a.likes 0 in
    omega (arith, sum_by-append f xs (addition phase page old 1 ∷ []), sum_by-cons f (addition phase page old 1) [])

-- a like that is counted is one more of its page's tally
counts-tally : (s after : StationView Asked) (user page : ℕ) (old : Option ℕ) (other : ℕ)
    → page < length s.slice
    → CountsLike s user page old after
    → tally_of after other ≡ tally_of s other + cond (page == other) 1 0
counts-tally s after user page None other there c =
    let e = ap (λ (t : StationView Asked). tally_of t other) c.1 in
    let more = slice-more s.slice page other there in
    omega arith
counts-tally s after user page (Some count) other there c =
    let e = ap (λ (t : StationView Asked). tally_of t other) c.1 in
    let more = added-more (additions_among s.post.did) (phase_of s.post.state) page count other in
    omega arith

pub LikesNow-tallies : (v after : LiveView) (user page : ℕ) (answer : LikeAnswer)
    → IsSized v
    → LikesNow v user page answer after
    → TalliesLike v page answer after
LikesNow-tallies v after user page answer sized (refused fails a is) other =
    let same = ap (λ (w : LiveView). tally w other) is in
    let none = ap (told_of page other) a in
    omega arith
LikesNow-tallies v after user page answer sized (full accepted most a is) other =
    let same = ap (λ (w : LiveView). tally w other) is in
    let none = ap (told_of page other) a in
    omega arith
LikesNow-tallies v after user page answer sized (liked old s accepted few a counts is) other =
    let more = counts-tally v.station s user page old other
    (subst (λ (n : ℕ). page < n) (sym sized) (page_there v.station user page accepted)) counts in
    let same = ap (λ (w : LiveView). tally w other) is in
    let one = ap (told_of page other) a in
    omega arith

-- a like that is counted leaves the seat the same
counts-same : (v : LiveView) (s : StationView Asked) (user page : ℕ) (old : Option ℕ)
    → CountsLike v.station user page old s
    → IsSameSeat v (with_station v s)
counts-same v s user page None c =
    subst (λ (t : StationView Asked). IsSameSeat v (with_station v t)) (sym c.1)
    (record { board = refl; worker = refl; marks = refl; share = refl })
counts-same v s user page (Some count) c =
    subst (λ (t : StationView Asked). IsSameSeat v (with_station v t)) (sym c.1)
    (record { board = refl; worker = refl; marks = refl; share = refl })

-- so does any like
pub LikesNow-same : (v after : LiveView) (user page : ℕ) (answer : LikeAnswer)
    → LikesNow v user page answer after
    → IsSameSeat v after
LikesNow-same v after user page answer (refused fails a is) = subst (IsSameSeat v) (sym is) (same_seat v)
LikesNow-same v after user page answer (full accepted most a is) = subst (IsSameSeat v) (sym is) (same_seat v)
LikesNow-same v after user page answer (liked old s accepted few a counts is) =
    subst (IsSameSeat v) (sym is) (counts-same v s user page old counts)

-- the page of a like that is counted is its user's last
counts-last : (s after : StationView Asked) (user page : ℕ) (old : Option ℕ)
    → CountsLike s user page old after
    → after.last ≡ with_last s.last user page
counts-last s after user page None c = ap (λ (t : StationView Asked). t.last) c.1
counts-last s after user page (Some count) c = ap (λ (t : StationView Asked). t.last) c.1

-- what is the last like then is as the answer tells
pub LikesNow-last : (v after : LiveView) (user page : ℕ) (answer : LikeAnswer)
    → LikesNow v user page answer after
    → after.station.last ≡ last_after v.station.last user page answer
LikesNow-last v after user page answer (refused fails a is) =
    ap (λ (w : LiveView). w.station.last) is ∙ ap (last_after v.station.last user page) (sym a)
LikesNow-last v after user page answer (full accepted most a is) =
    ap (λ (w : LiveView). w.station.last) is ∙ ap (last_after v.station.last user page) (sym a)
LikesNow-last v after user page answer (liked old s accepted few a counts is) =
    ap (λ (w : LiveView). w.station.last) is ∙ counts-last v.station s user page old counts
    ∙ ap (last_after v.station.last user page) (sym a)

-- what no look or glance changes: the seat, its tallies and its users' last likes
pub record LeavesLikes (v after : LiveView) : Type 0 where
  pub same : IsSameSeat v after
  pub tallies : KeepsTallies v after
  pub last : after.station.last ≡ v.station.last

-- a turn leaves them
pub Moves-leaves : (v after : LiveView) (answer : TurnAnswer)
    → IsSized v
    → Moves v answer after
    → LeavesLikes v after
Moves-leaves v after answer sized moves =
    let left = Leaves-moves v after answer sized moves in
    record { same = left.same; tallies = left.tallies; last = left.last }

-- so reads, glances and looks that wait leave them, after a turn that does
still-leaves : (u v : LiveView) (did : List PageStep) (logged : List Logged) (stash : StashView Asked)
    → additions_among did ≡ additions_among v.station.post.did
    → LeavesLikes u v
    → LeavesLikes u (with_station v (record v.station {
      post = record v.station.post { did = did; logged = logged };
      stash = stash;
    }))
still-leaves u v did logged stash same_adds turn =
    let same = turn.same in
    record {
      same = record { board = same.board; worker = same.worker; marks = same.marks; share = same.share };
      tallies = λ page. ap (λ xs. added_to page xs + get_or v.station.slice page 0) same_adds ∙ turn.tallies page;
      last = turn.last;
    }

-- a look leaves them
pub LooksNow-leaves : (u v after : LiveView) (user page tag : ℕ) (answer : LookAnswer)
    → LeavesLikes u v
    → LooksNow v user page tag answer after
    → LeavesLikes u after
LooksNow-leaves u v after user page tag answer turn (calls.refused fails a is) = subst (LeavesLikes u) (sym is) turn
LooksNow-leaves u v after user page tag answer turn (calls.seen shown s accepted plain a read is) =
    subst (LeavesLikes u) (sym (is ∙ ap (with_station v) read.read))
    (let now : WorkerSeatView = has_read v.station.post page shown.count (number_of s.post) in
    still-leaves u v now.did now.logged v.station.stash refl turn)
LooksNow-leaves u v after user page tag answer turn (calls.no_room accepted split most a is) =
    subst (LeavesLikes u) (sym is) turn
LooksNow-leaves u v after user page tag answer turn (calls.waits accepted split room a is) =
    subst (LeavesLikes u) (sym is)
    (still-leaves u v v.station.post.did v.station.post.logged (stashing v.station (asked_in (phase_at v.station) user page tag)).stash refl turn)

-- so does a glance
pub GlancesNow-leaves : (u v after : LiveView) (user page : ℕ) (answer : GlanceAnswer)
    → LeavesLikes u v
    → GlancesNow v user page answer after
    → LeavesLikes u after
GlancesNow-leaves u v after user page answer turn (calls.refused fails a is) = subst (LeavesLikes u) (sym is) turn
GlancesNow-leaves u v after user page answer turn (calls.plain shown s accepted plain a read is) =
    subst (LeavesLikes u) (sym (is ∙ ap (with_station v) read.read))
    (let now : WorkerSeatView = has_read v.station.post page shown.count (number_of s.post) in
    still-leaves u v now.did now.logged v.station.stash refl turn)
GlancesNow-leaves u v after user page answer turn (calls.split shown s accepted split a glance is) =
    subst (LeavesLikes u) (sym (is ∙ ap (with_station v) glance.glanced))
    (let now : WorkerSeatView = has_glanced v.station.post page glance.count (number_of s.post) in
    still-leaves u v now.did now.logged v.station.stash refl turn)

-- and it tells whether its page is split
pub GlancesNow-tells : (v after : LiveView) (user page : ℕ) (answer : GlanceAnswer)
    → GlancesNow v user page answer after
    → TellsIfSplit after page answer
GlancesNow-tells v after user page answer (calls.refused fails a is) = subst (TellsIfSplit after page) (sym a) tt
GlancesNow-tells v after user page answer (calls.plain shown s accepted plain a read is) =
    subst (TellsIfSplit after page) (sym a)
    (subst (λ (w : LiveView). TellsIfSplit w page (glanced.Seen shown))
    (sym (is ∙ ap (with_station v) read.read)) plain)
GlancesNow-tells v after user page answer (calls.split shown s accepted split a glance is) =
    subst (TellsIfSplit after page) (sym a)
    (subst (λ (w : LiveView). TellsIfSplit w page (glanced.Glimpsed shown))
    (sym (is ∙ ap (with_station v) glance.glanced)) split)
