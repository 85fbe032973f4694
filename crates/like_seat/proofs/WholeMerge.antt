-- How the merge of a slice goes from page to page, by the pages' buckets.
use Rattle.std.proofs.Common.{◌≡◌, ℕ, suc, ◌≢◌, ◌+◌, ◌<◌, ◌≤◌, ◌==◌, Bool, cond, List, [], ◌∷◌, ◌++◌, length, get_or, set, replicate, map, refl, ap, sym, ◌∙◌, inl, inr, arith, subst, length-append}
use Rattle.std.specs.List.{All}
use Rattle.std.specs.List.Sorted.{IsStrictlyIncreasing}
use Rattle.std.proofs.Math.ListN.{get_or-append}
use Rattle.std.proofs.Math.Seq.{get_or-append_seam}
use Rattle.std.proofs.lemmas.Bool.{cases_eq, cases_lt, eq-eqb, ne_eqb}
use Rattle.std.proofs.lemmas.List.{length-set, map-append, get_or-set_same, get_or-set_other}
use Rattle.std.proofs.lemmas.List.Elements.{All-map, All-nil, All-push, All-weaker}
use Rattle.std.proofs.lemmas.List.Sums.{sum_by-append, sum_by-cons}
use Rattle.like_core.specs.declared.log.LogEntry.TheVariants.{Did}
use Rattle.like_core.specs.declared.log.Logged.{Logged}
use Rattle.like_core.specs.declared.page_step.PageStep.{PageStep}
use Rattle.like_core.specs.declared.view.Addition.{Addition}
use Rattle.like_core.specs.Additions.{added_to}
use Rattle.like_core.specs.Log.{numbered}
use Rattle.like_core.specs.PageSteps.{step_adding, then_steps}
use Rattle.like_core.specs.Post.{pages_of}
use Rattle.like_limits.specs.Buckets.{bucket}
use Rattle.like_core.proofs.Steps.{then-push}
use Rattle.like_seat.specs.Merge.{LogsSteps, MergesAll, merged}
use Rattle.like_seat.specs.StationView.{StationView, phase_at}
use Rattle.like_seat.specs.Steps.{IsNext, NoneFrom, merged_page}

-- a list of zeros
pub zeros : (xs : List ℕ) → ((i : ℕ) → i < length xs → get_or xs i 0 ≡ 0) → xs ≡ replicate (length xs) 0
zeros [] h = refl
zeros (x ∷ xs) h =
    let first : x ≡ 0 = h 0 (omega arith) in
    let rest : xs ≡ replicate (length xs) 0 = zeros xs (λ i k. h (suc i) (omega arith)) in
    ap (λ y. y ∷ xs) first ∙ ap (λ ys. 0 ∷ ys) rest

-- one more number, which is above all others
increasing-push : (xs : List ℕ) (x : ℕ) → IsStrictlyIncreasing xs → All (λ y. y < x) xs
    → IsStrictlyIncreasing (xs ++ x ∷ [])
increasing-push xs x rises below k less =
    let long : length (xs ++ x ∷ []) ≡ length xs + 1 = length-append xs (x ∷ []) in
    let here : get_or (xs ++ x ∷ []) k 0 ≡ get_or xs k 0 = get_or-append xs (x ∷ []) 0 k (omega arith) in
    elim (cases_lt (k + 1) (length xs)) [
      | inl inside ↦
          let next = get_or-append xs (x ∷ []) 0 (k + 1) inside in omega (arith, rises k inside, next)
      | inr last ↦
          let at : length xs ≡ k + 1 = omega arith in
          let end : get_or (xs ++ x ∷ []) (k + 1) 0 ≡ x =
          ap (λ n. get_or (xs ++ x ∷ []) n 0) (sym at) ∙ get_or-append_seam xs x [] 0 in
          omega (arith, below k 0 (omega arith))
    ]

-- how much one more addition adds to a page
added_to-push : (page : ℕ) (adds : List Addition) (a : Addition)
    → added_to page (adds ++ a ∷ []) ≡ added_to page adds + cond (a.page == page) a.likes 0
added_to-push page adds a =
    let f : Addition → ℕ = λ b. cond (b.page == page) b.likes 0 in
    omega (arith, sum_by-append f adds (a ∷ []), sum_by-cons f a [])

-- one more addition comes last among the steps that additions make
pub then-more : (worker : ℕ) (did : List PageStep) (adds : List Addition) (new : Addition)
    → step_adding worker new ∷ then_steps did (map (step_adding worker) adds)
    ≡ then_steps did (map (step_adding worker) (adds ++ new ∷ []))
then-more worker did adds new =
    let step : Addition → PageStep = step_adding worker in
    sym (then-push did (map step adds) (step new)) ∙ ap (then_steps did) (sym (map-append step adds (new ∷ [])))

-- and its entry last in the log, whatever its number
pub logs-more : (worker own number : ℕ) (adds : List Addition) (new : Addition) (before logged : List Logged)
    → LogsSteps (map (step_adding worker) adds) before logged → own ≡ worker
    → LogsSteps (map (step_adding worker) (adds ++ new ∷ [])) before
    (numbered number (Did (step_adding own new)) ∷ logged)
logs-more worker own number adds new before logged logs is =
    let entry : Logged = numbered number (Did (step_adding own new)) in record {
      since = entry ∷ logs.since;
      made = (λ k. Did (step_adding (is k) new) ∷ logs.made k)
          ∙ ap (λ (ds : List PageStep). map (λ s. Did s) ds) (then-more worker [] adds new);
      logged = ap (λ (es : List Logged). entry ∷ es) logs.logged;
    }

module _ {W : Type 0} where
  -- the station after pages were merged by these additions, with this slice and these entries
  abbrev pub merged_with : StationView W → List Addition → List ℕ → List Logged → StationView W
  merged_with s adds slice logged = record s {
    post = record s.post {
      did = then_steps s.post.did (map (step_adding s.post.worker) adds);
      logged = logged;
    };
    slice = slice;
  }

  -- the pages whose bucket, by this factor, is below one are merged, by these additions
  pub record Merging (factor : ℕ) (s0 s : StationView W) (from : ℕ) (adds : List Addition) : Type 0 where
    pub likes_are : All (λ a. a.likes ≡ get_or s0.slice a.page 0) adds
    pub phase_is : All (λ a. a.phase ≡ phase_at s0) adds
    pub in_order : IsStrictlyIncreasing (map (λ a. bucket factor a.page) adds)
    pub below : All (λ a. bucket factor a.page < from) adds
    pub rest : s ≡ merged_with s0 adds s.slice s.post.logged
    pub logs : LogsSteps (map (step_adding s0.post.worker) adds) s0.post.logged s.post.logged
    pub sized : length s.slice ≡ length s0.slice
    pub sums : (page : ℕ) → added_to page adds + get_or s.slice page 0 ≡ get_or s0.slice page 0
    pub emptied : (page : ℕ) → bucket factor page < from → get_or s.slice page 0 ≡ 0
    pub left : (page : ℕ) → from ≤ bucket factor page → get_or s.slice page 0 ≡ get_or s0.slice page 0

  -- no page is merged at first
  pub Merging-start : (factor : ℕ) (s : StationView W) → Merging factor s s 0 []
  Merging-start factor s = record {
    likes_are = All-nil (λ (a : Addition). a.likes ≡ get_or s.slice a.page 0);
    phase_is = All-nil (λ (a : Addition). a.phase ≡ phase_at s);
    in_order = λ k less. absurd (omega (arith, less));
    below = All-nil (λ (a : Addition). bucket factor a.page < 0);
    rest = refl;
    logs = record { since = []; made = refl; logged = refl };
    sized = refl;
    sums = λ page. omega arith;
    emptied = λ page less. absurd (omega (arith, less));
    left = λ page h. refl;
  }

  -- the addition that merges a page, where its count was this
  abbrev pub merge_of : StationView W → ℕ → ℕ → Addition
  merge_of s page old =
      record { phase = phase_at s; page = page; old = old; likes = get_or s.slice page 0 }

  -- what the slice has after the next page was merged
  module _ (factor : ℕ) (s0 s : StationView W) (from page old number : ℕ) (adds : List Addition)
      (m : Merging factor s0 s from adds) (next : IsNext factor s.slice from page) where
    sums-next : (other : ℕ)
        → added_to other (adds ++ merge_of s page old ∷ []) + get_or (set s.slice page 0) other 0
        ≡ get_or s0.slice other 0
    sums-next other =
        let more = added_to-push other adds (merge_of s page old) in
        let before = m.sums other in
        elim (cases_eq page other) [
          | inl same ↦
              let here : get_or (set s.slice page 0) other 0 ≡ 0 =
              ap (λ k. get_or (set s.slice page 0) k 0) (sym same) ∙ get_or-set_same s.slice page 0 0 next.there in
              let all : cond (page == other) (get_or s.slice page 0) 0 ≡ get_or s.slice other 0 =
              ap (λ (b : Bool). cond b (get_or s.slice page 0) 0) (eq-eqb page other same)
              ∙ ap (λ k. get_or s.slice k 0) same in
              omega (arith, more, before, here, all)
          | inr apart ↦
              let kept : get_or (set s.slice page 0) other 0 ≡ get_or s.slice other 0 =
              get_or-set_other s.slice page other 0 0 (λ e. apart (sym e)) in
              let none : cond (page == other) (get_or s.slice page 0) 0 ≡ 0 =
              ap (λ (b : Bool). cond b (get_or s.slice page 0) 0) (ne_eqb page other apart) in
              omega (arith, more, before, kept, none)
        ]

    emptied-next : (other : ℕ) → bucket factor other < bucket factor page + 1
        → get_or (set s.slice page 0) other 0 ≡ 0
    emptied-next other less =
        elim (cases_eq other page) [
          | inl same ↦
              ap (λ k. get_or (set s.slice page 0) k 0) same ∙ get_or-set_same s.slice page 0 0 next.there
          | inr apart ↦
              get_or-set_other s.slice page other 0 0 apart
              ∙ elim (cases_lt (bucket factor other) from) [
                | inl before ↦ m.emptied other before
                | inr after ↦ next.first other after (omega arith) apart
              ]
        ]

    left-next : (other : ℕ) → bucket factor page + 1 ≤ bucket factor other
        → get_or (set s.slice page 0) other 0 ≡ get_or s0.slice other 0
    left-next other above =
        let apart : other ≢ page = λ e. absurd (omega (arith, above, ap (bucket factor) e)) in
        get_or-set_other s.slice page other 0 0 apart ∙ m.left other (omega (arith, next.after))

    -- the next page is merged, where its count was this
    merging-page : Merging factor s0 (merged_page s page old number) (bucket factor page + 1)
        (adds ++ merge_of s page old ∷ [])
    merging-page =
        let new : Addition = merge_of s page old in
        let phase : phase_at s ≡ phase_at s0 = ap {A = StationView W} (λ x. phase_at x) m.rest in
        let same : get_or s.slice page 0 ≡ get_or s0.slice page 0 = m.left page next.after in
        let entry : Logged = numbered number (Did (step_adding s.post.worker new)) in
        record {
          likes_are = All-push (λ (a : Addition). a.likes ≡ get_or s0.slice a.page 0) adds new m.likes_are same;
          phase_is = All-push (λ (a : Addition). a.phase ≡ phase_at s0) adds new m.phase_is phase;
          in_order = subst IsStrictlyIncreasing (sym (map-append (λ (a : Addition). bucket factor a.page) adds (new ∷ [])))
              (increasing-push (map (λ (a : Addition). bucket factor a.page) adds) (bucket factor page) m.in_order
              (All-map (λ b. b < bucket factor page) (λ (a : Addition). bucket factor a.page) adds
              (All-weaker (λ (a : Addition). bucket factor a.page < from)
              (λ (a : Addition). bucket factor a.page < bucket factor page)
              (λ a less. omega (arith, less, next.after)) adds m.below)));
          below = All-push (λ (a : Addition). bucket factor a.page < bucket factor page + 1) adds new
              (All-weaker (λ (a : Addition). bucket factor a.page < from)
              (λ (a : Addition). bucket factor a.page < bucket factor page + 1)
              (λ a less. omega (arith, less, next.after)) adds m.below)
              (omega arith);
          rest =
              ap {A = StationView W} (λ x. merged_with x (new ∷ []) (set s.slice page 0) (entry ∷ s.post.logged)) m.rest
              ∙ (λ k. record s0 {
                post =
                    record s0.post {
                      did = then-more s0.post.worker s0.post.did adds new k;
                      logged = entry ∷ s.post.logged;
                    };
                slice =
                    set s.slice page 0;
              });
          logs = logs-more s0.post.worker s.post.worker number adds new s0.post.logged s.post.logged m.logs
              (ap {A = StationView W} (λ x. x.post.worker) m.rest);
          sized = length-set s.slice page 0 ∙ m.sized;
          sums = sums-next;
          emptied = emptied-next;
          left = left-next;
        }

    pub Merging-next : (t : StationView W) → t ≡ merged_page s page old number
        → Merging factor s0 t (bucket factor page + 1) (adds ++ merge_of s page old ∷ [])
    Merging-next t is =
        subst (λ x. Merging factor s0 x (bucket factor page + 1) (adds ++ merge_of s page old ∷ [])) (sym is)
        merging-page

  -- no page is left
  pub Merging-done : (factor : ℕ) (s0 s t : StationView W) (from : ℕ) (adds : List Addition)
      → Merging factor s0 s from adds → NoneFrom factor s.slice from → t ≡ s → length s0.slice ≡ pages_of s0.post
      → MergesAll factor (phase_at s0) s0.slice adds × (t ≡ merged s0 adds t.post.logged)
      × LogsSteps (map (step_adding s0.post.worker) adds) s0.post.logged t.post.logged
  Merging-done factor s0 s t from adds m none is pages =
      let empty : (page : ℕ) → get_or s.slice page 0 ≡ 0 = λ page. elim (cases_lt (bucket factor page) from) [
        | inl before ↦ m.emptied page before
        | inr after ↦ none page after
      ] in
      let slice : s.slice ≡ replicate (pages_of s0.post) 0 =
      zeros s.slice (λ i k. empty i) ∙ ap (λ n. replicate n 0) (m.sized ∙ pages) in
      let same : s.post.logged ≡ t.post.logged = sym (ap {A = StationView W} (λ x. x.post.logged) is) in (
        record {
          likes_are = m.likes_are;
          phase_is = m.phase_is;
          sums = λ page. omega (arith, m.sums page, empty page);
          in_order = m.in_order;
        },
        is ∙ m.rest ∙ (λ k. merged_with s0 adds (slice k) (same k)),
        subst (LogsSteps (map (step_adding s0.post.worker) adds) s0.post.logged) same m.logs,
      )
