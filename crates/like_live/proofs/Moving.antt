-- What phase work leaves as it is.
use Rattle.std.proofs.Common.{◌≡◌, ℕ, ◌+◌, ◌/◌, ◌≤◌, Bool, List, length, get_or, refl, ap, sym, ◌∙◌, subst, arith, length-append}
use Rattle.std.proofs.lemmas.List.{length-map, length-replicate}
use Rattle.like_core.specs.declared.log.Logged.{Logged}
use Rattle.like_core.specs.declared.sight.Sight.{Sight}
use Rattle.like_core.specs.Post.{answered, pages_of, number_of}
use Rattle.like_seat.specs.Merge.{MergesAndReports, merged}
use Rattle.like_seat.specs.StationView.{StationView}
use Rattle.like_seat.proofs.MergedLikes.{merged-tally}
use Rattle.like_live.specs.declared.answer.TurnAnswer.{TurnAnswer}
use Rattle.like_live.specs.declared.asked.Asked.{Asked}
use Rattle.like_live.specs.declared.asked.Found.{Found}
use Rattle.like_live.specs.Kept.{AreLiveSeatParts}
use Rattle.like_live.specs.LiveView.{IsLive, IsSameSeat, KeepsTallies, LiveView, live_of, room_of, waiting, with_station}
use Rattle.like_live.specs.LookRoom.{RoomView}
use Rattle.like_tables.specs.Home.{Home, IsHomeOf}
use Rattle.like_tables.specs.StashView.{StashView}
use Rattle.like_seat.specs.Steps.{came_back}
use Rattle.like_live.specs.Calls as calls
use Rattle.like_live.specs.Calls.{ComeBackCase, RetireCase, RetireWorks, retires, stays}
use Rattle.like_live.specs.Moves.{FindsAll, Moves, MovesBy, Works, is_gone, looked, acknowledged, waits, works, runs_joined, acknowledges, runs_split, reports}
use Rattle.like_core.specs.Additions.{added_to}
use Rattle.like_live.proofs.FoundSteps.{found-additions}
use Rattle.like_live.proofs.Stepping.{retired_seat}

-- the slice has a number for each page
abbrev pub IsSized : LiveView → Type 0
IsSized v = length v.station.slice ≡ pages_of v.station.post

-- it is the same seat, with the same tallies, the same last likes, and as much room for looks; and no more looks wait
pub record Leaves (v after : LiveView) : Type 0 where
  pub same : IsSameSeat v after
  pub tallies : KeepsTallies v after
  pub last : after.station.last ≡ v.station.last
  pub sized : length after.station.slice ≡ length v.station.slice
  pub room : room_of after ≡ room_of v
  pub looks : length (waiting after) + length after.found ≡ length (waiting v) + length v.found
  pub fewer : length (waiting after) ≤ length (waiting v)

pub same_seat : (v : LiveView) → IsSameSeat v v
same_seat v = record { board = refl; worker = refl; marks = refl; share = refl }

pub same_seat_both : (v now after : LiveView) → IsSameSeat v now → IsSameSeat now after → IsSameSeat v after
same_seat_both v now after a b = record {
  board = b.board ∙ a.board;
  worker = b.worker ∙ a.worker;
  marks = b.marks ∙ a.marks;
  share = b.share ∙ a.share;
}

pub Leaves-all : (v : LiveView) → Leaves v v
Leaves-all v = record {
  same = same_seat v;
  tallies = λ page. refl;
  last = refl;
  sized = refl;
  room = refl;
  looks = refl;
  fewer = omega arith;
}

pub Leaves-both : (v now after : LiveView) → Leaves v now → Leaves now after → Leaves v after
Leaves-both v now after a b = record {
  same = same_seat_both v now after a.same b.same;
  tallies = λ page. b.tallies page ∙ a.tallies page;
  last = b.last ∙ a.last;
  sized = b.sized ∙ a.sized;
  room = b.room ∙ a.room;
  looks = b.looks ∙ a.looks;
  fewer = omega (arith, a.fewer, b.fewer);
}

pub Leaves-looked : (v : LiveView) (sight : Sight) (mask number : ℕ) → Leaves v (looked v sight mask number)
Leaves-looked v sight mask number = record {
  same = record { board = refl; worker = refl; marks = refl; share = refl };
  tallies = λ page. refl;
  last = refl;
  sized = refl;
  room = refl;
  looks = refl;
  fewer = omega arith;
}

Leaves-acknowledged : (v : LiveView) → Leaves v (acknowledged v)
Leaves-acknowledged v = record {
  same = record { board = refl; worker = refl; marks = refl; share = refl };
  tallies = λ page. refl;
  last = refl;
  sized = refl;
  room = refl;
  looks = refl;
  fewer = omega arith;
}

Leaves-found : (v after : LiveView) → FindsAll v after → Leaves v after
Leaves-found v after f = subst (Leaves v) (sym f.rest) (record {
  same = record { board = refl; worker = refl; marks = refl; share = refl };
  tallies = λ page. ap (λ xs. added_to page xs + get_or v.station.slice page 0)
      (found-additions v.station.post.worker v.station.post.did f.found);
  last = refl;
  sized = refl;
  room = refl;
  looks =
      let asked = ap (λ (xs : List Asked). length xs) f.order in
      omega (arith, asked, length-map f.found (λ (x : Found). x.asked), length-append v.found f.found);
  fewer = omega arith;
})

-- to merge a slice and report leaves each page's tally
Leaves-merged : (v : LiveView) (s : StationView Asked) → IsSized v → MergesAndReports v.station s → Leaves v (with_station v s)
Leaves-merged v s sized m =
    let adds = m.1.0.0 in
    let logged : List Logged = m.0.post.logged in
    let is : s ≡ record (merged v.station adds logged) { post = answered (merged v.station adds logged).post } =
    m.1.1 ∙ ap (λ (t : StationView Asked). record t { post = answered t.post }) m.1.0.1.1 in
    subst (λ (t : StationView Asked). Leaves v (with_station v t)) (sym is) (record {
      same = record { board = refl; worker = refl; marks = refl; share = refl };
      tallies = merged-tally v.station adds logged m.1.0.1.0;
      last = refl;
      sized = length-replicate {A = ℕ} (pages_of v.station.post) 0 ∙ sym sized;
      room = refl;
      looks = refl;
      fewer = omega arith;
    })

pub Leaves-works : (v after : LiveView) (ending : Bool) (answer : TurnAnswer)
    → IsSized v
    → Works v ending answer after
    → Leaves v after
Leaves-works v after ending answer sized (runs_joined joined e a found) = Leaves-found v after found
Leaves-works v after ending answer sized (acknowledges now joined e a found is) =
    subst (Leaves v) (sym is)
    (Leaves-both v now (acknowledged now) (Leaves-found v now found) (Leaves-acknowledged now))
Leaves-works v after ending answer sized (runs_split split e a is) = subst (Leaves v) (sym is) (Leaves-all v)
Leaves-works v after ending answer sized (reports s split e a merges is) =
    subst (Leaves v) (sym is) (Leaves-merged v s sized merges)

-- to look at the phase word leaves all that, if what the look makes a seat do does
Leaves-by : (Runs : LiveView → Bool → TurnAnswer → LiveView → Type 0)
    → ((v after : LiveView) (ending : Bool) (answer : TurnAnswer)
    → IsSized v
    → Runs v ending answer after
    → Leaves v after)
    → (v after : LiveView) (answer : TurnAnswer)
    → IsSized v
    → MovesBy Runs v answer after
    → Leaves v after
Leaves-by Runs leaves v after answer sized (is_gone gone a is) = subst (Leaves v) (sym is) (Leaves-all v)
Leaves-by Runs leaves v after answer sized (waits sight mask can w a is) =
    subst (Leaves v) (sym is) (Leaves-looked v sight mask (number_of after.station.post))
Leaves-by Runs leaves v after answer sized (works sight mask number can w does) =
    Leaves-both v (looked v sight mask number) after (Leaves-looked v sight mask number)
    (leaves (looked v sight mask number) after sight.ending answer sized does)

pub Leaves-moves : (v after : LiveView) (answer : TurnAnswer) → IsSized v → Moves v answer after → Leaves v after
Leaves-moves = Leaves-by Works Leaves-works

Leaves-retired : (v : LiveView) → Leaves v (retired_seat v)
Leaves-retired v = record {
  same = record { board = refl; worker = refl; marks = refl; share = refl };
  tallies = λ page. refl;
  last = refl;
  sized = refl;
  room = refl;
  looks = refl;
  fewer = omega arith;
}

pub Leaves-retire_works : (v after : LiveView) (ending : Bool) (answer : TurnAnswer)
    → IsSized v
    → RetireWorks v ending answer after
    → Leaves v after
Leaves-retire_works v after ending answer sized (retires now joined a found is) =
    subst (Leaves v) (sym is) (Leaves-both v now (retired_seat now) (Leaves-found v now found) (Leaves-retired now))
Leaves-retire_works v after ending answer sized (stays split does) = Leaves-works v after ending answer sized does

pub Leaves-retires : (v after : LiveView) (answer : TurnAnswer) → IsSized v → RetireCase v answer after → Leaves v after
Leaves-retires = Leaves-by RetireWorks Leaves-retire_works

Leaves-came_back : (v : LiveView) (phase mask number : ℕ)
    → Leaves v (with_station v (came_back v.station phase mask number))
Leaves-came_back v phase mask number = record {
  same = record { board = refl; worker = refl; marks = refl; share = refl };
  tallies = λ page. refl;
  last = refl;
  sized = refl;
  room = refl;
  looks = refl;
  fewer = omega arith;
}

pub Leaves-come_back : (v after : LiveView) (answer : TurnAnswer)
    → IsSized v
    → ComeBackCase v answer after
    → Leaves v after
Leaves-come_back v after answer sized (calls.runs s gone a back is) =
    subst (Leaves v) (sym (is ∙ ap (with_station v) back.1.1)) (Leaves-came_back v back.0 back.1.0 (number_of s.post))
Leaves-come_back v after answer sized (calls.between gone a is) = subst (Leaves v) (sym is) (Leaves-all v)
Leaves-come_back v after answer sized (calls.there here m) = Leaves-moves v after answer sized m

-- a live seat's parts agree after what leaves all that, if it is live then
pub after-leaves : (s t : StationView Asked) (found now : StashView Found) (home : Home) (pages : ℕ) (room : RoomView) (half : ℕ)
    → AreLiveSeatParts s found home pages room half
    → Leaves (live_of s found) (live_of t now)
    → IsLive (live_of t now)
    → now.capacity ≡ found.capacity
    → AreLiveSeatParts t now home pages room half
after-leaves s t found now home pages room half parts leaves live capacity = record {
  live = live;
  capacity = capacity ∙ parts.capacity ∙ sym leaves.room;
  home_is = subst (IsHomeOf home) (sym leaves.same.share) parts.home_is;
  pages_are = parts.pages_are ∙ sym (ap (λ (xs : List Bool). length xs) leaves.same.marks);
  room_is = omega (arith, parts.room_is, leaves.looks, leaves.room);
  early = λ some. omega (arith, parts.early some, leaves.fewer, leaves.room);
  half_is = parts.half_is ∙ ap (λ n. n / 2) (sym leaves.room);
}
