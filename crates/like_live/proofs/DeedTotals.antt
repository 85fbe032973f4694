-- In each phase a seat adds to a page as many likes as its deeds of the phase count.
use Rattle.std.proofs.Common.{◌≡◌, ◌≢◌, ℕ, zero, suc, ◌+◌, ◌<◌, ◌==◌, ◌&&◌, ◌⊎◌, Bool, true, false, cond, List, [], ◌∷◌, ◌++◌, drop, map, get_or, replicate, refl, ap, sym, ◌∙◌, subst, arith, append-nil, inl, inr}
use Rattle.std.proofs.lemmas.List.Sums.{sum_by-cons}
use Rattle.like_core.specs.declared.log.Logged.{Logged}
use Rattle.like_core.specs.declared.page_step.PageCall.{PageCall}
use Rattle.like_core.specs.declared.page_step.PageCall.TheVariants.{Add, Read, Glance}
use Rattle.like_core.specs.declared.page_step.PageStep.{PageStep}
use Rattle.like_core.specs.declared.view.Addition.{Addition}
use Rattle.like_core.specs.Additions.{added_in}
use Rattle.like_core.specs.PageSteps.{adds_to, earliest_first, page_step, step_adding}
use Rattle.like_core.specs.Post.{pages_of}
use Rattle.like_core.specs.WorkerState.{RunsSplit, phase_of, seen}
use Rattle.like_core.proofs.Steps.{then-earliest}
use Rattle.like_seat.specs.StationView.{phase_at}
use Rattle.like_seat.proofs.MergedLikes.{added_in-phase, same_everywhere}
use Rattle.like_serial.proofs.Totals.{only-none}
use Rattle.like_serial.proofs.Weigh.{only, weigh, weigh-append}
use Rattle.like_live.specs.declared.asked.Found.{Found}
use Rattle.like_live.specs.LiveView.{LiveView}
use Rattle.like_live.specs.Moves.{step_for, with_found}
use Rattle.like_live.specs.Deeds.{Deed, counted, deed, deed_now, deeds_found, glimpsed, made_since, showed}
use Rattle.like_live.proofs.Calling.{page_there, slice-more}
use Rattle.like_live.proofs.DeedLikes.{likes_counted}
use Rattle.like_live.proofs.Ordered.{looked_phase}
use Rattle.like_live.proofs.Running.{unsplit}
use Rattle.like_live.proofs.Standing.{IsKept, Stands}
use Rattle.like_live.proofs.Stepping.{Step, acknowledges, adds_like, done_by, finds, glances, holds, looks, next, reads, reports, retires, returns, slices_like, takes}

-- how many likes of a page a deed counts, and how many in a phase
abbrev pub likes_of_deed : ℕ → Deed → ℕ
likes_of_deed page d = likes_counted page d.page d.act

abbrev pub deed_in : ℕ → ℕ → Deed → ℕ
deed_in phase page d = only (d.phase == phase) (likes_of_deed page d)

-- how many likes a step adds to a page in a phase
abbrev pub step_in : ℕ → ℕ → PageStep → ℕ
step_in phase page s = only (s.phase == phase) (adds_to page s)

-- how many likes of a page are in the slice, if this is the seat's phase
abbrev pub sliced_in : ℕ → ℕ → LiveView → ℕ
sliced_in phase page v = only (phase_at v.station == phase) (get_or v.station.slice page 0)

-- the deeds so far count, phase by phase, what the seat added and what it has in its slice
pub record HasTotals (v : LiveView) (ds : List Deed) : Type 0 where
  pub total : (phase page : ℕ)
      → weigh (deed_in phase page) ds ≡ weigh (step_in phase page) (earliest_first v.station.post.did) + sliced_in phase page v

-- a slice that cannot have a like has none
pub is_none : (n : ℕ) → (n ≢ 0 → ⊥) → n ≡ 0
is_none zero not = refl
is_none (suc n) not = absurd (not (λ e. absurd (cc e)))

module _ (first : LiveView) where
  -- deeds more, steps more, and another slice
  more : (v w : LiveView) (ds es : List Deed) (steps : List PageStep) → earliest_first w.station.post.did ≡ earliest_first v.station.post.did ++ steps
      → ((phase page : ℕ)
      → weigh (deed_in phase page) es + sliced_in phase page v
      ≡ weigh (step_in phase page) steps + sliced_in phase page w)
      → HasTotals v ds → HasTotals w (ds ++ es)
  more v w ds es steps did same h = record {
    total = λ phase page. omega (
      arith,
      weigh-append (deed_in phase page) ds es,
      h.total phase page,
      same phase page,
      ap (weigh (step_in phase page)) did,
      weigh-append (step_in phase page) (earliest_first v.station.post.did) steps,
    );
  }

  -- no deed and no step, with the same in the slice
  none : (v w : LiveView) (ds : List Deed) → earliest_first w.station.post.did ≡ earliest_first v.station.post.did
      → ((phase page : ℕ) → sliced_in phase page v ≡ sliced_in phase page w)
      → HasTotals v ds → HasTotals w (ds ++ [])
  none v w ds did same h =
      more v w ds [] [] (did ∙ sym (append-nil (earliest_first v.station.post.did))) (λ phase page. ap (λ n. 0 + n) (same phase page)) h

  -- an empty slice counts nothing in whichever phase
  empty : (a b : Bool) (n m : ℕ) → n ≡ 0 → m ≡ 0 → only a n ≡ only b m
  empty a b n m n_is m_is = ap (only a) n_is ∙ only-none a ∙ sym (only-none b) ∙ sym (ap (only b) m_is)

  -- a look and what the slice has
  looked_same : (a b n k : ℕ) → (n ≢ 0 → b ≡ a) → only (a == k) n ≡ only (b == k) n
  looked_same a b zero k same = only-none (a == k) ∙ sym (only-none (b == k))
  looked_same a b (suc n) k same = ap (λ c. only (c == k) (suc n)) (sym (same (λ e. absurd (cc e))))

  -- found looks count nothing, and their entries add nothing
  found_none : (phase page : ℕ) (entries : List Logged) (found : List Found)
      → weigh (deed_in phase page) (deeds_found entries found) ≡ 0
  found_none phase page entries [] = refl
  found_none phase page entries (f ∷ found) =
      let rest = found_none phase page (drop 1 entries) found in let here = only-none (f.phase == phase) in omega arith

  if_none : (b : Bool) → cond {A = ℕ} b 0 0 ≡ 0
  if_none true = refl
  if_none false = refl

  read_none : (phase page worker k other count : ℕ) (call : PageCall) → (call ≡ Read) ⊎ (call ≡ Glance)
      → step_in phase page (page_step worker k other count call) ≡ 0
  read_none phase page worker k other count call (inl is) =
      ap (λ c. step_in phase page (page_step worker k other count c)) is
      ∙ ap (only (k == phase)) (if_none (other == page)) ∙ only-none (k == phase)
  read_none phase page worker k other count call (inr is) =
      ap (λ c. step_in phase page (page_step worker k other count c)) is
      ∙ ap (only (k == phase)) (if_none (other == page)) ∙ only-none (k == phase)

  reads_none : (phase page worker : ℕ) (found : List Found)
      → weigh (step_in phase page) (map (step_for worker) found) ≡ 0
  reads_none phase page worker [] = refl
  reads_none phase page worker (f ∷ found) =
      let rest = reads_none phase page worker found in
      let here = read_none phase page worker f.phase f.asked.page f.count Read (inl refl) in omega arith

  -- what additions add in a phase
  both_tests : (a b : Bool) (n : ℕ) → only a (cond b n 0) ≡ cond (a && b) n 0
  both_tests true b n = refl
  both_tests false b n = refl

  adds_in : (phase page worker : ℕ) (adds : List Addition)
      → weigh (step_in phase page) (map (step_adding worker) adds) ≡ added_in phase page adds
  adds_in phase page worker [] = refl
  adds_in phase page worker (a ∷ adds) =
      let rest = adds_in phase page worker adds in
      let here = both_tests (a.phase == phase) (a.page == page) a.likes in
      let all = sum_by-cons (λ (b : Addition). cond ((b.phase == phase) && (b.page == page)) b.likes 0) a adds in
      omega arith

  -- one like
  like_one : (a b : Bool) (n m : ℕ) → m ≡ n + cond b 1 0 → only a (cond b 1 0) + 0 + only a n ≡ 0 + only a m
  like_one true b n m is = omega arith
  like_one false b n m is = omega arith

  totals_next : (v : LiveView) (s : Step v) (ds : List Deed) → Stands first v
      → HasTotals v ds → HasTotals (next v s) (ds ++ done_by v s)
  totals_next v (looks sight mask number can) ds k h =
      none v _ ds refl
      (λ phase page. looked_same (phase_at v.station) (phase_of (seen v.station.post.state sight)) (get_or v.station.slice page 0)
      phase (λ has. looked_phase v.station.post.state sight (k.split page has).0)) h
  totals_next v (finds found logged joined order shown logs) ds k h =
      let entries = made_since v (with_found v found logged) in
      more v _ ds (deeds_found entries found) (map (step_for v.station.post.worker) found)
      (then-earliest v.station.post.did (map (step_for v.station.post.worker) found))
      (λ phase page.
      let a = found_none phase page entries found in
      let b = reads_none phase page v.station.post.worker found in omega arith) h
  totals_next v (acknowledges joined) ds k h = none v _ ds refl (λ phase page. refl) h
  totals_next v (reports adds logged runs merges logs) ds k h =
      more v _ ds [] (map (step_adding v.station.post.worker) adds)
      (then-earliest v.station.post.did (map (step_adding v.station.post.worker) adds))
      (λ phase page.
      let added : weigh (step_in phase page) (map (step_adding v.station.post.worker) adds)
      ≡ only (phase_at v.station == phase) (get_or v.station.slice page 0) =
      adds_in phase page v.station.post.worker adds
      ∙ added_in-phase (phase_at v.station) page phase adds merges.phase_is
      ∙ ap (only (phase_at v.station == phase)) (merges.sums page) in
      let left : only (phase_at v.station == phase) (get_or (replicate (pages_of v.station.post) 0) page 0) ≡ 0 =
      ap (only (phase_at v.station == phase)) (same_everywhere (pages_of v.station.post) page 0)
      ∙ only-none (phase_at v.station == phase) in
      omega arith) h
  totals_next v (retires joined) ds k h =
      none v _ ds refl
      (λ phase page.
      let zero_is = is_none (get_or v.station.slice page 0)
      (λ has. unsplit v.station.post.state joined (k.split page has).0) in
      empty (phase_at v.station == phase) (0 == phase) _ _ zero_is zero_is) h
  totals_next v (returns to mask number gone) ds k h =
      none v _ ds refl
      (λ phase page.
      let zero_is = is_none (get_or v.station.slice page 0) (λ has. subst RunsSplit gone (k.split page has).0) in
      empty (phase_at v.station == phase) (to == phase) _ _ zero_is zero_is) h
  totals_next v takes ds k h = none v _ ds refl (λ phase page. refl) h
  totals_next v (slices_like user page is) ds k h =
      more v _ ds (deed_now v user page counted ∷ []) [] (sym (append-nil (earliest_first v.station.post.did)))
      (λ phase other.
      let there = subst (λ n. page < n) (sym k.sized) (page_there v.station user page is.accepted) in
      like_one (phase_at v.station == phase) (page == other) _ _ (slice-more v.station.slice page other there)) h
  totals_next v (adds_like user page old number is) ds k h =
      more v _ ds (deed number (phase_at v.station) user page counted ∷ [])
      (page_step v.station.post.worker (phase_at v.station) page old (Add 1) ∷ []) refl (λ phase other. refl) h
  totals_next v (reads user page shown number is last) ds k h =
      more v _ ds (deed number (phase_at v.station) user page (showed shown) ∷ [])
      (page_step v.station.post.worker (phase_at v.station) page shown.count Read ∷ []) refl
      (λ phase other.
      let a = only-none (phase_at v.station == phase) in
      let b = read_none phase other v.station.post.worker (phase_at v.station) page shown.count Read (inl refl) in
      omega arith) h
  totals_next v (glances user page count shown number is last) ds k h =
      more v _ ds (deed number (phase_at v.station) user page (glimpsed shown) ∷ [])
      (page_step v.station.post.worker (phase_at v.station) page count Glance ∷ []) refl
      (λ phase other.
      let a = only-none (phase_at v.station == phase) in
      let b = read_none phase other v.station.post.worker (phase_at v.station) page count Glance (inr refl) in
      omega arith) h
  totals_next v (holds user page tag is) ds k h = none v _ ds refl (λ phase page. refl) h

  pub totals_kept : IsKept first (λ w. Unit {0}) HasTotals
  totals_kept = record {
    back = λ w s stands sound. tt;
    kept = λ w s ds stands sound k. totals_next w s ds stands k;
  }
