use Rattle.std.proofs.Common.{◌≡◌, ℕ, ◌≤◌, ◌∷◌, ◌++◌, [], length, get_or, subst, ap, sym, ◌∙◌, arith}
use Rattle.std.proofs.lemmas.List.{length-set}
use Rattle.like_core.specs.declared.limits.Limits.{Limits}
use Rattle.like_core.specs.OpeningLimits.{has_slots}
use Rattle.like_limits.specs.Buckets.{buckets, run_factor}
use Rattle.like_limits.specs.Limits.{max_pages}
use Rattle.like_tables.specs.declared.held.Held.{Held}
use Rattle.like_core.specs.Post.{number_of, pages_of}
use Rattle.like_core.specs.WorkerState.{RunsSplit, SawEnding, phase_of}
use Rattle.like_seat.proofs.MergedLikes.{same_everywhere}
use Rattle.like_seat.specs.Kept as kept
use Rattle.like_seat.specs.StationView.{StationView, phase_at}
use Rattle.like_seat.specs.Steps.{IsNext, MergesNext, MergesPage, NoneFrom}
use Rattle.like_seat.specs.declared.merged.Merged.{Merged}
use Rattle.like_tables.specs.Liked.{IsNextLiked}
use Rattle.std.proofs.lemmas.List.Sums.{sum_by-set}
use Rattle.like_seat.proofs.WholeMerge.{merge_of}
use Rattle.like_roles.proofs.PageOrder.{AreUnliked-run, IsNextLiked-run, Merging-done, Merging-next, Merging-start}
use Rattle.like_roles.specs.declared.worker.ledger.Ledger.{Ledger}
use Rattle.like_roles.specs.worker.Ledger.{IsSettled}
use Rattle.like_roles.specs.worker.WorkerView.{WorkerView}
use Rattle.like_roles.proofs.Counting.{merged-settled}
use Rattle.like_roles.proofs.Merging.{HaveNoted-more, HaveNoted-none, IsMerged-noted}
use Rattle.like_roles.proofs.worker.tasks.Work.merge.Goals as goal

-- a run has no more pages than there are buckets
few_pages : (s : StationView Held) (d : Ledger) → IsSettled s d → length s.slice ≤ buckets
few_pages s d is =
    let most : s.post.opening.limits.pages ≡ max_pages = ap (λ (l : Limits). l.pages) is.sound.run in
    omega (arith, is.sound.station.sized, is.sound.station.few_pages, most)

-- and there page i has bucket i
in_run : (s : StationView Held) (d : Ledger) → IsSettled s d → s.post.opening.factor ≡ run_factor
in_run s d is = is.sound.station.factor (ap (λ (l : Limits). has_slots l) is.sound.run)

-- there the next page that is merged is the next that has likes
next_liked : (s t : StationView Held) (d : Ledger) (from : ℕ) (m : Merged)
    → IsSettled s d
    → MergesPage s from m t
    → IsNextLiked s.slice from m.page
next_liked s t d from m is merges =
    IsNextLiked-run s.slice from m.page (few_pages s d is)
    (subst (λ f. IsNext f s.slice from m.page) (in_run s d is) merges.next)

pub merge_next-requires-clause-within : goal.merge_next-requires-clause-within
merge_next-requires-clause-within g c =
    let l = c.loop-merged in
    let s = kept.view_of (g.P.Post.board l.post) (g.P.Post.view l.post) l.self.tables in
    omega (arith, l.invariant.within, few_pages s l.self.ledger l.invariant.idle.settled)

pub merge_next-requires-clause-split : goal.merge_next-requires-clause-split
merge_next-requires-clause-split g c =
    subst RunsSplit (sym (ap (λ (x : StationView Held). x.post.state) c.loop-merged.invariant.merging.1.0.rest))
    c.requires.split

pub merge_next-requires-clause-ending : goal.merge_next-requires-clause-ending
merge_next-requires-clause-ending g c =
    subst SawEnding (sym (ap (λ (x : StationView Held). x.post.last) c.loop-merged.invariant.merging.1.0.rest))
    c.requires.ending

pub note_addition-requires-clause-few : goal.note_addition-requires-clause-few
note_addition-requires-clause-few g c =
    let room = c.loop-merged.invariant.idle.settled.sound.room in
    omega (arith, room.ran, room.few_ran)

pub note_addition-requires-clause-room : goal.note_addition-requires-clause-room
note_addition-requires-clause-room g c = λ notes.
    let l = c.loop-merged in
    let s = kept.view_of (g.P.Post.board l.post) (g.P.Post.view l.post) l.self.tables in
    let now = c.merge_next.new in
    let t = kept.view_of (g.P.Post.board now.post) (g.P.Post.view now.post) now.self in
    let merges = subst (λ r. MergesNext s l.from r t) c.in-Some.is c.merge_next.ensures.merges in
    let less = sum_by-set (λ x. x) s.slice c.in-Some.merged.page 0 0 merges.next.there in
    omega (arith, l.invariant.idle.settled.sound.room.adds notes, less, merges.next.liked)

pub loop-merged-smaller : goal.loop-merged-smaller
loop-merged-smaller g c =
    let l = c.loop-merged in
    let s = kept.view_of (g.P.Post.board l.post) (g.P.Post.view l.post) l.self.tables in
    let now = c.merge_next.new in
    let t = kept.view_of (g.P.Post.board now.post) (g.P.Post.view now.post) now.self in
    let merges = subst (λ r. MergesNext s l.from r t) c.in-Some.is c.merge_next.ensures.merges in
    let next = next_liked s t l.self.ledger l.from c.in-Some.merged l.invariant.idle.settled merges in
    omega (arith, l.invariant.merging.1.0.sized, next.after, next.there)

pub overflow_add-from : goal.overflow_add-from
overflow_add-from g c =
    let l = c.loop-merged in
    let s = kept.view_of (g.P.Post.board l.post) (g.P.Post.view l.post) l.self.tables in
    let now = c.merge_next.new in
    let t = kept.view_of (g.P.Post.board now.post) (g.P.Post.view now.post) now.self in
    let merges = subst (λ r. MergesNext s l.from r t) c.in-Some.is c.merge_next.ensures.merges in
    let few = few_pages s l.self.ledger l.invariant.idle.settled in
    omega (arith, merges.next.there, few)

pub returns : goal.returns
returns g c =
    let l = c.loop-merged in
    let i = l.invariant in
    let first = kept.view_of (g.P.Post.board c.args.post.now) (g.P.Post.view c.args.post.now) c.args.self.now.tables in
    let s = kept.view_of (g.P.Post.board l.post) (g.P.Post.view l.post) l.self.tables in
    let now = c.merge_next.new in
    let t = kept.view_of (g.P.Post.board now.post) (g.P.Post.view now.post) now.self in
    let adds = i.merging.0 in
    let done = subst (λ r. MergesNext s l.from r t) c.in_default.is c.merge_next.ensures.merges in
    let none = subst (λ f. NoneFrom f s.slice l.from) (in_run s l.self.ledger i.idle.settled) done.0 in
    let rest = AreUnliked-run s.slice l.from (few_pages s l.self.ledger i.idle.settled) none in
    let whole = Merging-done first s t l.from adds i.merging.1.0 i.within rest done.1
    c.requires.idle.settled.sound.station.sized in
    let merged = IsMerged-noted first t c.args.self.now.ledger l.self.ledger adds whole.0 whole.1 whole.2 i.merging.1.1 in
    record {
      idle = record {
        kept = c.merge_next.ensures.kept;
        settled = subst (λ (x : StationView Held). IsSettled x l.self.ledger) (sym done.1) i.idle.settled;
      };
      board = ap (λ (x : StationView Held). x.board) (done.1 ∙ i.merging.1.0.rest);
      empty = λ page _ _.
          ap (λ (v : WorkerView). get_or v.slice page 0) merged.1.1 ∙ same_everywhere (pages_of first.post) page 0;
      merged = merged;
    }

pub loop-merged-init : goal.loop-merged-init
loop-merged-init g c = record {
  idle = c.requires.idle;
  within = omega arith;
  merging = (
    [],
    (
      Merging-start (kept.view_of (g.P.Post.board c.args.post.now) (g.P.Post.view c.args.post.now) c.args.self.now.tables),
      HaveNoted-none c.args.self.now.ledger,
    ),
  );
}

pub loop-merged-preserved : goal.loop-merged-preserved
loop-merged-preserved g c =
    let l = c.loop-merged in
    let first = kept.view_of (g.P.Post.board c.args.post.now) (g.P.Post.view c.args.post.now) c.args.self.now.tables in
    let s = kept.view_of (g.P.Post.board l.post) (g.P.Post.view l.post) l.self.tables in
    let now = c.merge_next.new in
    let t = kept.view_of (g.P.Post.board now.post) (g.P.Post.view now.post) now.self in
    let d = l.self.ledger in
    let e = c.note_addition.new.self in
    let i = l.invariant in
    let adds = i.merging.0 in
    let m = c.in-Some.merged in
    let merges = subst (λ r. MergesNext s l.from r t) c.in-Some.is c.merge_next.ensures.merges in
    let phase_is : c.phase-phase.result ≡ phase_at s =
    c.phase-phase.ensures ∙ sym (ap phase_of c.requires.idle.kept.state)
    ∙ sym (ap (λ (x : StationView Held). phase_at x) i.merging.1.0.rest) in
    let noted = c.note_addition.ensures in
    let next = next_liked s t d l.from m i.idle.settled merges in
    let sized = ap (λ (x : StationView Held). length x.slice) merges.merged ∙ length-set s.slice m.page 0 in
    record {
      idle = record {
        kept = c.merge_next.ensures.kept;
        settled = merged-settled s t d e l.from c.phase-phase.result m i.idle.settled c.merge_next.ensures.kept.station merges noted;
      };
      within = omega (arith, sized, merges.next.there);
      merging = (
        adds ++ merge_of s m.page m.old ∷ [],
        (
          Merging-next first s t l.from m.page m.old (number_of t.post) adds i.merging.1.0 next merges.merged,
          HaveNoted-more s c.args.self.now.ledger d e adds c.phase-phase.result m.page m.old m.likes i.merging.1.1 noted
              phase_is merges.likes,
        ),
      );
    }
