-- What the steps of a seat keep.
use Rattle.std.proofs.Common.{◌≡◌, ℕ, ◌%◌, ◌<◌, true, cond, List, [], ◌++◌, length, get_or, set, Some, None, refl, ap, sym, ◌∙◌, subst, append-nil, append_assoc, inl, inr}
use Rattle.std.specs.List.{AllByRecursion}
use Rattle.std.proofs.lemmas.Bool.{cases_eq}
use Rattle.std.proofs.lemmas.List.{get_or-set_other, length-replicate, length-set}
use Rattle.std.proofs.lemmas.List.FromFn.{length-map-range_with_len}
use Rattle.like_core.specs.declared.worker_state.WorkerState.{WorkerState}
use Rattle.like_core.specs.declared.worker_state.WorkerState.TheVariants.{Runs}
use Rattle.like_core.specs.Post.{is_split_at, pages_of}
use Rattle.like_core.specs.WorkerState.{RunsSplit}
use Rattle.like_core.specs.declared.view.WorkerSeatView.{WorkerSeatView}
use Rattle.like_requests.specs.declared.verdict.Verdict.TheVariants.{Accepted}
use Rattle.like_requests.specs.Verdict.{home}
use Rattle.like_seat.specs.StationView.{HasPhaseMask, IsSliceInSplit}
use Rattle.like_seat.proofs.Looking.{has-after, splits-after}
use Rattle.like_seat.proofs.MergedLikes.{same_everywhere}
use Rattle.like_serial.proofs.Phases.{all_append}
use Rattle.like_tables.specs.Share.{owns}
use Rattle.like_tables.specs.UserTable.{UserTable, last_in}
use Rattle.like_tables.specs.StashView.{StashView}
use Rattle.like_live.specs.declared.asked.Asked.{Asked}
use Rattle.like_live.specs.LiveView.{LiveView, waiting}
use Rattle.like_live.specs.Calls.{verdict_at}
use Rattle.like_live.specs.Deeds.{Deed, deeds_of}
use Rattle.like_live.specs.History.{HasDone, IsUnused, Told}
use Rattle.like_seat.proofs.Entering.{entered-has}
use Rattle.like_live.proofs.CallSteps.{by_calls}
use Rattle.like_live.proofs.Stepping.{FollowsSteps, Step, acknowledges, adds_like, done_by, finds, glances, holds, looks, next, reads, reports, retires, returns, slices_like, takes, rows_follow}
use Rattle.like_live.proofs.Requests.{passes_at}
use Rattle.like_live.proofs.Running.{runs_split, unsplit}

-- the user is one of the seat's
abbrev pub IsHis : LiveView → ℕ → Type 0
IsHis v user =
    (user < v.station.last.share.users) × (home v.station.last.share.submitters user ≡ v.station.last.share.worker)

-- what is true of a seat between any two steps: whose it is; that it has a number for each page and an entry for each
-- user; that it has read the mask of a split phase that it runs; that its slice has likes of pages alone that are split
-- then; and that the looks that wait are of its users
pub record Stands (first v : LiveView) : Type 0 where
  pub worker : v.station.post.worker ≡ first.station.post.worker
  pub marks : v.station.post.opening.marks ≡ first.station.post.opening.marks
  pub limits : v.station.post.opening.limits ≡ first.station.post.opening.limits
  pub share : v.station.last.share ≡ first.station.last.share
  pub sized : length v.station.slice ≡ pages_of v.station.post
  pub table : length v.station.last.last ≡ v.station.last.share.users
  pub masked : HasPhaseMask v.station.post
  pub split : IsSliceInSplit v.station.post v.station.slice
  pub own : AllByRecursion (λ a. IsHis v a.user) (waiting v)

-- an accepted request is of one of the seat's users
pub is_his : (v : LiveView) (user page : ℕ) → verdict_at v.station user page ≡ Accepted → IsHis v user
is_his v user page is = let known = passes_at v.station user page is in (known.0, known.1)

-- one like more of a page that is split
one_more : (post : WorkerSeatView) (slice : List ℕ) (page n : ℕ) → IsSliceInSplit post slice → RunsSplit post.state
    → is_split_at post page ≡ true → IsSliceInSplit post (set slice page n)
one_more post slice page n kept runs split other some = elim (cases_eq page other) [
  | inl same ↦ (runs, ap (is_split_at post) (sym same) ∙ split)
  | inr apart ↦ kept other (λ none. some (get_or-set_other slice page other n 0 (λ e. apart (sym e)) ∙ none))
]

pub stands_next : (first v : LiveView) (s : Step v) → Stands first v → Stands first (next v s)
stands_next first v (looks sight mask number can) k = record {
  worker = k.worker;
  marks = k.marks;
  limits = k.limits;
  share = k.share;
  sized = k.sized;
  table = k.table;
  masked = has-after v.station.post sight mask number k.masked;
  split = splits-after v.station.post v.station.slice sight mask number k.split;
  own = k.own;
}
stands_next first v (finds found logged joined order shown logs) k = record {
  worker = k.worker;
  marks = k.marks;
  limits = k.limits;
  share = k.share;
  sized = k.sized;
  table = k.table;
  masked = k.masked;
  split = k.split;
  own = tt;
}
stands_next first v (acknowledges joined) k = record {
  worker = k.worker;
  marks = k.marks;
  limits = k.limits;
  share = k.share;
  sized = k.sized;
  table = k.table;
  masked = λ split. absurd split;
  split = λ page some. absurd (unsplit v.station.post.state joined (k.split page some).0);
  own = k.own;
}
stands_next first v (reports adds logged split merges logs) k = record {
  worker = k.worker;
  marks = k.marks;
  limits = k.limits;
  share = k.share;
  sized = length-replicate {A = ℕ} (pages_of v.station.post) 0;
  table = k.table;
  masked = λ split. absurd split;
  split = λ page some. absurd (some (same_everywhere (pages_of v.station.post) page 0));
  own = k.own;
}
stands_next first v (retires joined) k = record {
  worker = k.worker;
  marks = k.marks;
  limits = k.limits;
  share = k.share;
  sized = k.sized;
  table = k.table;
  masked = λ split. absurd split;
  split = λ page some. absurd (unsplit v.station.post.state joined (k.split page some).0);
  own = k.own;
}
stands_next first v (returns phase mask number gone) k = record {
  worker = k.worker;
  marks = k.marks;
  limits = k.limits;
  share = k.share;
  sized = k.sized;
  table = k.table;
  masked = λ odd. entered-has v.station.post.masks phase mask odd;
  split = λ page some. absurd (subst RunsSplit gone (k.split page some).0);
  own = k.own;
}
stands_next first v takes k = record {
  worker = k.worker;
  marks = k.marks;
  limits = k.limits;
  share = k.share;
  sized = k.sized;
  table = k.table;
  masked = k.masked;
  split = k.split;
  own = k.own;
}
stands_next first v (slices_like user page is) k = record {
  worker = k.worker;
  marks = k.marks;
  limits = k.limits;
  share = k.share;
  sized = length-set v.station.slice page _ ∙ k.sized;
  table = length-set v.station.last.last user (Some page) ∙ k.table;
  masked = k.masked;
  split = one_more v.station.post v.station.slice page _ k.split (runs_split v.station.post page is.runs is.at) is.at;
  own = k.own;
}
stands_next first v (adds_like user page old number is) k = record {
  worker = k.worker;
  marks = k.marks;
  limits = k.limits;
  share = k.share;
  sized = k.sized;
  table = length-set v.station.last.last user (Some page) ∙ k.table;
  masked = k.masked;
  split = k.split;
  own = k.own;
}
stands_next first v (reads user page shown number is last) k = record {
  worker = k.worker;
  marks = k.marks;
  limits = k.limits;
  share = k.share;
  sized = k.sized;
  table = k.table;
  masked = k.masked;
  split = k.split;
  own = k.own;
}
stands_next first v (glances user page count shown number is last) k = record {
  worker = k.worker;
  marks = k.marks;
  limits = k.limits;
  share = k.share;
  sized = k.sized;
  table = k.table;
  masked = k.masked;
  split = k.split;
  own = k.own;
}
stands_next first v (holds user page tag is) k = record {
  worker = k.worker;
  marks = k.marks;
  limits = k.limits;
  share = k.share;
  sized = k.sized;
  table = k.table;
  masked = k.masked;
  split = k.split;
  own = all_append (λ a. IsHis v a.user) (waiting v) _ k.own (is_his v user page is.accepted, tt);
}

-- a fresh seat stands so
pub stands_at_first : (v : LiveView) → IsUnused v → Stands v v
stands_at_first v unused =
    let new = unused.new in
    record {
      worker = refl;
      marks = refl;
      limits = refl;
      share = refl;
      sized = ap length new.slice ∙ length-replicate {A = ℕ} _ 0
          ∙ ap (λ (p : WorkerSeatView). length p.opening.marks) (sym new.at_post);
      table = ap (λ (t : UserTable). length t.last) new.last
          ∙ length-map-range_with_len (λ user. cond (owns unused.share user) (last_in unused.lasts user) None) 0 unused.share.users
          ∙ ap (λ (t : UserTable). t.share.users) (sym new.last);
      masked = λ split. absurd (joined_first v.station.post.state
          (ap (λ (p : WorkerSeatView). p.state) (new.at_post ∙ unused.fresh)) split);
      split = λ page some. absurd (some (ap (λ (xs : List ℕ). get_or xs page 0) new.slice ∙ same_everywhere _ page 0));
      own = subst (AllByRecursion (λ a. IsHis v a.user))
          (sym (ap (λ (w : StashView Asked). w.looks) new.stash)) tt;
    }
  where
    joined_first : (s : WorkerState) → s ≡ Runs 0 → RunsSplit s → ⊥
    joined_first s is split = absurd (odd (subst RunsSplit is split)) where
      odd : (0 % 2) ≡ 1 → ⊥
      odd e = absurd (cc e)

-- what each step of a seat that stands so keeps of the seat and its deeds so far, if something is true of the seat after
-- the step, which was true before it then
pub record IsKept (first : LiveView) (Sound : LiveView → Type 0) (Kept : LiveView → List Deed → Type 0) : Type 0 where
  pub back : (v : LiveView) (s : Step v) → Stands first v → Sound (next v s) → Sound v
  pub kept : (v : LiveView) (s : Step v) (before : List Deed) → Stands first v → Sound (next v s) → Kept v before
      → Kept (next v s) (before ++ done_by v s)

-- calls keep it then, from a fresh seat on
module _ (first : LiveView) (Sound : LiveView → Type 0) (Kept : LiveView → List Deed → Type 0)
    (k : IsKept first Sound Kept) where
  abbrev Keeps : LiveView → List Deed → LiveView → Type 0
  Keeps v ds after =
      Stands first v
      → Stands first after
      × (Sound after → Sound v × ((before : List Deed) → Kept v before → Kept after (before ++ ds)))

  steps_keep : FollowsSteps Keeps
  steps_keep = record {
    none = λ v stands. (
      stands,
      λ sound. (sound, λ before kept. subst (Kept v) (sym (append-nil before)) kept),
    );
    both = λ v now after ds rest r s stands.
        let earlier = r stands in
        let later = s earlier.0 in (
          later.0,
          λ sound.
              let there = later.1 sound in
              let here = earlier.1 there.0 in (
                here.0,
                λ before kept. subst (Kept after) (append_assoc before ds rest)
                    (there.1 (before ++ ds) (here.1 before kept)),
              ),
        );
    one = λ v s stands. (
      stands_next first v s stands,
      λ sound. (k.back v s stands sound, λ before kept. k.kept v s before stands sound kept),
    );
  }

  pub stands_by_calls : (told : List Told) (after : LiveView) → HasDone first told after → IsUnused first
      → Stands first after
  stands_by_calls told after done unused =
      (by_calls Keeps (rows_follow Keeps steps_keep) told first after done (stands_at_first first unused)).0

  pub kept_by_calls : (told : List Told) (after : LiveView) (done : HasDone first told after)
      → IsUnused first → Sound after → Kept first [] → Kept after (deeds_of told first after done)
  kept_by_calls told after done unused sound at_first =
      ((by_calls Keeps (rows_follow Keeps steps_keep) told first after done (stands_at_first first unused)).1 sound).1 [] at_first
