-- The ends of a worker's life: it starts as the plans say, and ends so.
use Rattle.std.proofs.Common.{false, ◌≡◌, ℕ, ◌==◌, cond, Bool, true, [], ◌++◌, length, map, get_or, Some, None, refl, ap, sym, ◌∙◌, inl, inr, arith, subst, append-nil}
use Rattle.std.proofs.lemmas.Bool.{cases_eq}
use Rattle.std.proofs.lemmas.List.{length-map, length-replicate}
use Rattle.std.proofs.lemmas.List.Elements.{All-nil}
use Rattle.like_requests.specs.Pages.{marks_of}
use Rattle.like_requests.specs.declared.setup.Setup.{Setup}
use Rattle.like_core.specs.declared.worker_state.WorkerState.{WorkerState}
use Rattle.like_core.specs.declared.worker_state.WorkerState.TheVariants as state
use Rattle.like_core.specs.WorkerState.{RunsSplit}
use Rattle.like_core.specs.Additions.{added_in, added_to}
use Rattle.like_core.specs.PhaseMasks.{AreMasksOf}
use Rattle.like_core.specs.Post.{additions_in, additions_of, pages_of}
use Rattle.like_core.specs.PageSteps.{additions_among, earliest_first, likes_of}
use Rattle.like_core.specs.declared.view.WorkerSeatView.{WorkerSeatView}
use Rattle.like_tables.specs.UserTable.{last_of}
use Rattle.like_roles.specs.declared.terms.Terms.{Terms}
use Rattle.like_roles.specs.declared.turn.Turn.{Turn}
use Rattle.like_roles.specs.declared.turn.Turn.TheVariants as turn
use Rattle.like_roles.specs.worker.Follows.{adds_to, ArePlainReads, Follows, IsDone, IsNoted, IsWorkloadOf, IsUnmerged, HasNothingLater, Stands, entry_stashed, next_joined}
use Rattle.like_promises.specs.Likes.{likes_within}
use Rattle.like_roles.specs.worker.New.{IsNew, IsPostOf}
use Rattle.like_promises.specs.Order.{entry_of}
use Rattle.like_promises.specs.Workload.{Workload, is_split_in}
use Rattle.like_roles.specs.worker.Turns as turns
use Rattle.like_roles.specs.worker.Turns.{Pends, Turns, Works}
use Rattle.like_roles.specs.worker.WorkerView.{WorkerView, phase_at, submitter_at}
use Rattle.like_seat.specs.StationView.{IsSliceInSplit}
use Rattle.like_serial.specs.StepsTold.{plain_told, steps_ran}
use Rattle.like_roles.proofs.Effects.{Runs-effects}
use Rattle.like_seat.proofs.MergedLikes.{cond_same, same_everywhere}
use Rattle.like_roles.proofs.notes.NotedMerge.{noted-nothing, one-of_likes}

-- a new worker follows the plans
pub follows-new : (s : Setup) (terms : Terms) (worker : ℕ) (post : WorkerSeatView) (v : WorkerView)
    (workload : Workload)
    → IsPostOf worker s.pages post
    → IsNew s terms worker post v
    → IsWorkloadOf s terms.sizes.now workload → Follows workload v
follows-new s terms worker post v workload p new same =
    let marks_are : v.post.opening.marks ≡ marks_of workload.pages =
    ap (λ x. x.opening.marks) new.at_post ∙ p.opening.marks ∙ ap (map (λ q. q.split)) (sym same.pages_are) in
    let pages : pages_of v.post ≡ length s.pages =
    ap length (ap (λ x. x.opening.marks) new.at_post ∙ p.opening.marks) ∙ length-map s.pages (λ q. q.split) in
    let did_is : v.post.did ≡ [] = ap (λ x. x.did) (new.at_post ∙ p.fresh) in
    let additions : additions_among v.post.did ≡ [] = ap additions_among did_is in
    let state_is : v.post.state ≡ state.Runs 0 = ap (λ x. x.state) (new.at_post ∙ p.fresh) in
    let stashed : v.stash.looks ≡ [] = ap (λ x. x.looks) new.stash in
    let did : earliest_first v.post.did ≡ [] = ap earliest_first did_is in
    let masks : v.post.masks ≡ [] = ap (λ x. x.masks) (new.at_post ∙ p.fresh) in
    let nothing : (page : ℕ) → additions_of v.post page ≡ 0 = λ page. ap (added_to page) additions in
    let in_slice : (page : ℕ) → get_or v.slice page 0 ≡ 0 =
    λ page. ap (λ xs. get_or xs page 0) new.slice ∙ same_everywhere (length s.pages) page 0 in
    let within : HasNothingLater v.taken v.ran 0 = (
      λ i t h. absurd (omega (arith, ap length new.taken)),
      λ i e h. absurd (omega (arith, ap length new.ran)),
    ) in
    record {
      served = record {
        users = same.users_are ∙ sym (ap (λ x. x.share.users) new.last);
        submitters_alike =
            sym (length-map workload.plans length) ∙ ap length same.sizes_are
            ∙ sym (ap (λ x. x.share.submitters) new.last);
        marks_alike = sym marks_are;
        hot_alike = subst (AreMasksOf workload.hot) (sym masks) (All-nil (λ m. m.mask ≡ workload.hot m.phase));
        stash_alike = same.stash_is ∙ sym (ap (λ x. x.capacity) new.stash);
        run = ap (λ x. x.opening.limits) new.at_post ∙ p.opening.limits;
      };
      sized = record {
        slice = ap length new.slice ∙ length-replicate (length s.pages) 0 ∙ sym pages;
        users = ap (λ x. length x.last) new.last ∙ length-replicate s.users None
            ∙ sym (ap (λ x. x.share.users) new.last);
      };
      tallied = record {
        likes = λ page. rw new.ran (omega (arith, nothing page, in_slice page));
        by_phase = λ phase page.
            let none : additions_in v.post phase page ≡ 0 = ap (added_in phase page) additions in
            let none_kept : cond (phase_at v == phase) (get_or v.slice page 0) 0 ≡ 0 =
            ap (λ (n : ℕ). cond (phase_at v == phase) n 0) (in_slice page) ∙ cond_same (phase_at v == phase) 0 in
            rw new.ran (omega (arith, none, none_kept));
        steps = ap (plain_told workload) did ∙ sym (ap (steps_ran workload) new.ran);
        reads = subst (ArePlainReads workload) (sym did_is)
            (All-nil (λ s. likes_of s.call ≡ 0 → is_split_in workload s.phase s.page ≡ false));
        replies = λ i e h. let k : None ≡ Some e = rw new.ran at h in cc k;
        last = λ user. ap (λ x. last_of x user) new.last ∙ same_everywhere s.users user None ∙ rw new.ran refl;
      };
      noted = λ _.
          subst (λ xs. IsNoted workload xs v.adds v.ran) (sym did_is)
          (subst (λ xs. IsNoted workload [] xs v.ran) (sym new.adds)
          (subst (λ xs. IsNoted workload [] [] xs) (sym new.ran) (noted-nothing workload)));
      unmerged = λ _. subst (IsUnmerged workload v.adds) (sym state_is) (
        λ i d inside. absurd (omega (arith, ap length new.adds)),
        λ page is. ap (adds_to 0 page) new.adds,
      );
      in_order = rw (new.taken, new.ran, stashed) refl;
      fits = λ phase. rw new.taken (omega arith);
      stashed = λ i h k. absurd (omega (arith, ap length stashed));
      stands = subst (Stands v) (sym state_is) within;
      trying = λ rank e. absurd (cc (new.pending, e));
    }

-- the slice of a worker that is gone is empty
empty-gone : (v : WorkerView)
    → v.post.state ≡ state.Gone
    → IsSliceInSplit v.post v.slice
    → (page : ℕ)
    → get_or v.slice page 0 ≡ 0
empty-gone v gone s page =
    elim (cases_eq (get_or v.slice page 0) 0) [
      | inl none ↦ none
      | inr some ↦ absurd (no_split v.post.state gone (s page some).0)
    ] where
      no_split : (x : WorkerState) → x ≡ state.Gone → RunsSplit x → ⊥
      no_split (state.Runs k) e r = cc e
      no_split (state.Answered k) e r = r
      no_split state.Gone e r = r

-- a worker that is gone has done what the plans say
pub follows-done : (workload : Workload) (v : WorkerView)
    → Follows workload v
    → v.post.state ≡ state.Gone
    → IsSliceInSplit v.post v.slice
    → IsDone workload v
follows-done workload v f gone s =
    let stands = subst (Stands v) gone f.stands in
    let in_phase : (phase page : ℕ) → likes_within workload page v.ran phase ≡ additions_in v.post phase page =
    λ phase page.
    (let none : cond (phase_at v == phase) (get_or v.slice page 0) 0 ≡ 0 =
    ap (λ (n : ℕ). cond (phase_at v == phase) n 0) (empty-gone v gone s page) ∙ cond_same (phase_at v == phase) 0 in
    f.tallied.by_phase phase page ∙ omega arith)
    in
    record {
      in_order = sym (append-nil _)
          ∙ ap (λ hs. map entry_of v.ran ++ map (entry_stashed (next_joined v)) hs) (sym stands.0) ∙ f.in_order;
      fits = f.fits;
      likes = λ page. f.tallied.likes page ∙ omega (arith, empty-gone v gone s page);
      by_phase = in_phase;
      steps = f.tallied.steps;
      reads = f.tallied.reads;
      noted = λ notes. (
          let noted = f.noted notes in
          record {
            additions = noted.additions_are;
            adds = record {
              each = noted.each;
              rising = noted.rising;
              plain = noted.plain;
              split = λ phase page is.
                  one-of_likes workload v.post.did v.adds v.ran phase page noted is
                  (in_phase phase page);
            };
            calls = noted.calls;
          });
      replies = f.tallied.replies;
      last = f.tallied.last;
      ended = stands.1;
    }

-- nothing is tried after an answer other than that it is
works-pends : (v : WorkerView) (ending : Bool) (answer : Turn) (after : WorkerView)
    → v.pending ≡ None
    → Works v ending answer after
    → Pends answer after
works-pends v ending answer after none (turns.runs_stashed first rest j e a run) =
    subst (λ x. Pends x after) (sym a) ((Runs-effects (turns.without_first v rest) first true after run).pending ∙ none)
works-pends v ending answer after none (turns.retires j e ended a x) =
    subst (λ y. Pends y after) (sym a) (ap (λ y. y.pending) x ∙ none)
works-pends v ending answer after none (turns.acknowledges j e ended seen a x) =
    subst (λ y. Pends y after) (sym a) (ap (λ y. y.pending) x ∙ none)
works-pends v ending answer after none (turns.tries_joined rank j e next seen a x) =
    subst (λ y. Pends y after) (sym a)
    (subst (λ y. Pends (turn.Try (submitter_at v rank)) y) (sym x)
    (rank, (refl, refl, next.there, next.not_ended)))
works-pends v ending answer after none (turns.reports now s seen a m x) =
    subst (λ y. Pends y after) (sym a) (ap (λ y. y.pending) x ∙ (ap (λ y. y.pending) m.1.1 ∙ none))
works-pends v ending answer after none (turns.idles s seen stuck a x) =
    subst (λ y. Pends y after) (sym a) (ap (λ y. y.pending) x ∙ none)
works-pends v ending answer after none (turns.tries_split rank s seen room next a x) =
    subst (λ y. Pends y after) (sym a)
    (subst (λ y. Pends (turn.Try (submitter_at v rank)) y) (sym x)
    (rank, (refl, refl, next.there, next.not_ended)))

pub turns-pends : (v : WorkerView) (answer : Turn) (after : WorkerView)
    → v.pending ≡ None
    → Turns v answer after
    → Pends answer after
turns-pends v answer after none (turns.is_gone gone a x) =
    subst (λ y. Pends y after) (sym a) (ap (λ y. y.pending) x ∙ none)
turns-pends v answer after none (turns.waits sight here i w a x) =
    subst (λ y. Pends y after) (sym a) (ap (λ y. y.pending) x ∙ none)
turns-pends v answer after none (turns.works sight mask number here i w x) =
    works-pends (turns.saw v sight mask number) sight.ending answer after none x

-- who answers that it is gone is gone
works-retired : (v : WorkerView) (ending : Bool) (answer : Turn) (after : WorkerView)
    → Works v ending answer after
    → answer ≡ turn.Retired
    → after.post.state ≡ state.Gone
works-retired v ending answer after (turns.runs_stashed first rest j e a run) r = cc (a, r)
works-retired v ending answer after (turns.retires j e ended a x) r = ap (λ y. y.post.state) x
works-retired v ending answer after (turns.acknowledges j e ended seen a x) r = cc (a, r)
works-retired v ending answer after (turns.tries_joined rank j e next seen a x) r = cc (a, r)
works-retired v ending answer after (turns.reports now s seen a m x) r = cc (a, r)
works-retired v ending answer after (turns.idles s seen stuck a x) r = cc (a, r)
works-retired v ending answer after (turns.tries_split rank s seen room next a x) r = cc (a, r)

pub turns-retired : (v : WorkerView) (answer : Turn) (after : WorkerView)
    → Turns v answer after
    → answer ≡ turn.Retired
    → after.post.state ≡ state.Gone
turns-retired v answer after (turns.is_gone gone a x) r = ap (λ y. y.post.state) x ∙ gone
turns-retired v answer after (turns.waits sight here i w a x) r = cc (a, r)
turns-retired v answer after (turns.works sight mask number here i w x) r =
    works-retired (turns.saw v sight mask number) sight.ending answer after x r
