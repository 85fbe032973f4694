-- How the merge of a slice goes from page to page, in the order of the pages.
use Rattle.std.proofs.Common.{◌≡◌, ℕ, zero, suc, ◌≢◌, ◌+◌, ◌-◌, ◌<◌, ◌≤◌, ◌==◌, Bool, not, cond, List, [], ◌∷◌, ◌++◌, length, map, get_or, set, replicate, refl, ap, sym, ◌∙◌, inl, inr, arith, subst, append-nil}
use Rattle.std.proofs.lemmas.Bool.{cases_lt, eq-eqb, ne_eqb}
use Rattle.std.proofs.lemmas.List.{length-set, map-append, map-id, get_or-set_same, get_or-set_other}
use Rattle.std.proofs.lemmas.List.Elements.{All-nil, All-push}
use Rattle.std.proofs.lemmas.List.FromFn.{filter_of_map_range_with_len_more}
use Rattle.std.specs.List.{filter, range_with_len}
use Rattle.like_core.specs.declared.log.LogEntry.TheVariants.{Did}
use Rattle.like_core.specs.declared.log.Logged.{Logged}
use Rattle.like_core.specs.declared.view.Addition.{Addition}
use Rattle.like_core.specs.Log.{numbered}
use Rattle.like_core.specs.PageSteps.{step_adding}
use Rattle.like_core.specs.Post.{pages_of}
use Rattle.like_tables.specs.Liked.{AreUnliked, IsNextLiked}
use Rattle.like_roles.specs.worker.Merges.{Merges, liked_below}
use Rattle.like_limits.specs.Buckets.{buckets, run_factor}
use Rattle.like_seat.specs.Merge.{LogsSteps, merged}
use Rattle.like_seat.specs.StationView.{StationView, phase_at}
use Rattle.like_seat.specs.Steps.{IsNext, NoneFrom, merged_page}
use Rattle.like_seat.proofs.Filling.{bucket-run}
use Rattle.like_seat.proofs.WholeMerge.{logs-more, merge_of, merged_with, then-more, zeros}

-- the pages that a slice has likes of, and one page more
pub liked-next : (slice : List ℕ) (n : ℕ)
    → liked_below slice (n + 1) ≡ liked_below slice n ++ cond (not (get_or slice n 0 == 0)) (n ∷ []) []
liked-next slice n =
    let liked : ℕ → Bool = λ page. not (get_or slice page 0 == 0) in
    ap (filter liked) (sym (map-id (range_with_len 0 (n + 1))))
    ∙ filter_of_map_range_with_len_more liked (λ page. page) 0 n n (omega arith)
    ∙ ap (λ (pages : List ℕ). filter liked pages ++ cond (liked n) (n ∷ []) []) (map-id (range_with_len 0 n))

-- which has likes
pub liked-more : (slice : List ℕ) (n : ℕ)
    → get_or slice n 0 ≢ 0
    → liked_below slice (n + 1) ≡ liked_below slice n ++ n ∷ []
liked-more slice n liked =
    liked-next slice n
    ∙ ap (λ (b : Bool). liked_below slice n ++ cond (not b) (n ∷ []) []) (ne_eqb (get_or slice n 0) 0 liked)

-- or has none
pub liked-none : (slice : List ℕ) (n : ℕ)
    → get_or slice n 0 ≡ 0
    → liked_below slice (n + 1) ≡ liked_below slice n
liked-none slice n none =
    liked-next slice n
    ∙ ap (λ (b : Bool). liked_below slice n ++ cond (not b) (n ∷ []) []) (eq-eqb (get_or slice n 0) 0 none)
    ∙ append-nil (liked_below slice n)

-- what stands below n + 1 after a write at n
below : (xs : List ℕ) (n x : ℕ) (f : ℕ → ℕ)
    → n < length xs
    → f n ≡ x
    → ((i : ℕ) → i < n → get_or xs i 0 ≡ f i)
    → (i : ℕ)
    → i < n + 1
    → get_or (set xs n x) i 0 ≡ f i
below xs n x f within here before i h =
    elim (cases_lt i n) [
      | inl earlier ↦ get_or-set_other xs n i x 0 (λ e. absurd (omega arith)) ∙ before i earlier
      | inr at_end ↦
          let same : n ≡ i = omega arith in
          subst (λ k. get_or (set xs n x) k 0 ≡ f k) same (get_or-set_same xs n x 0 within ∙ sym here)
    ]

-- what stands above n after a write at n
above : (xs ys : List ℕ) (n x : ℕ)
    → ((i : ℕ) → n ≤ i → get_or xs i 0 ≡ get_or ys i 0)
    → (i : ℕ)
    → n + 1 ≤ i
    → get_or (set xs n x) i 0 ≡ get_or ys i 0
above xs ys n x after i h = get_or-set_other xs n i x 0 (λ e. absurd (omega arith)) ∙ after i (omega arith)

module _ {W : Type 0} where
  -- the first n pages are merged, by these additions
  pub record Merging (s0 s : StationView W) (n : ℕ) (adds : List Addition) : Type 0 where
    pub merges : Merges (phase_at s0) s0.slice n adds
    pub rest : s ≡ merged_with s0 adds s.slice s.post.logged
    pub logs : LogsSteps (map (step_adding s0.post.worker) adds) s0.post.logged s.post.logged
    pub sized : length s.slice ≡ length s0.slice
    pub emptied : (page : ℕ) → page < n → get_or s.slice page 0 ≡ 0
    pub left : (page : ℕ) → n ≤ page → get_or s.slice page 0 ≡ get_or s0.slice page 0

  -- no page is merged at first
  pub Merging-start : (s : StationView W) → Merging s s 0 []
  Merging-start s = record {
    merges = record {
      pages_are = refl;
      likes_are = All-nil (λ (a : Addition). a.likes ≡ get_or s.slice a.page 0);
      phase_is = All-nil (λ (a : Addition). a.phase ≡ phase_at s);
    };
    rest = refl;
    logs = record { since = []; made = refl; logged = refl };
    sized = refl;
    emptied = λ page h. absurd (omega arith);
    left = λ page h. refl;
  }

  -- the next page is merged, where its count was this
  pub Merging-page : (s0 s t : StationView W) (n old number : ℕ) (adds : List Addition) → Merging s0 s n adds
      → n < length s.slice → get_or s.slice n 0 ≢ 0 → t ≡ merged_page s n old number
      → Merging s0 t (n + 1) (adds ++ merge_of s n old ∷ [])
  Merging-page s0 s t n old number adds m inside liked is =
      let new : Addition = merge_of s n old in
      let phase : phase_at s ≡ phase_at s0 = ap {A = StationView W} (λ x. phase_at x) m.rest in
      let same : get_or s.slice n 0 ≡ get_or s0.slice n 0 = m.left n (omega arith) in
      let slice : t.slice ≡ set s.slice n 0 = ap {A = StationView W} (λ x. x.slice) is in
      let entry : Logged = numbered number (Did (step_adding s.post.worker new)) in
      let walks : Merging s0 (merged_page s n old number) (n + 1) (adds ++ new ∷ []) = record {
        merges = record {
          pages_are = map-append (λ (a : Addition). a.page) adds (new ∷ [])
              ∙ ap (λ (pages : List ℕ). pages ++ n ∷ []) m.merges.pages_are
              ∙ sym (liked-more s0.slice n (λ e. liked (same ∙ e)));
          likes_are = All-push (λ (a : Addition). a.likes ≡ get_or s0.slice a.page 0) adds new m.merges.likes_are same;
          phase_is = All-push (λ (a : Addition). a.phase ≡ phase_at s0) adds new m.merges.phase_is phase;
        };
        rest =
            ap {A = StationView W} (λ x. merged_with x (new ∷ []) (set s.slice n 0) (entry ∷ s.post.logged)) m.rest
            ∙ (λ k. record s0 {
              post =
                  record s0.post {
                    did = then-more s0.post.worker s0.post.did adds new k;
                    logged = entry ∷ s.post.logged;
                  };
              slice =
                  set s.slice n 0;
            });
        logs = logs-more s0.post.worker s.post.worker number adds new s0.post.logged s.post.logged m.logs
            (ap {A = StationView W} (λ x. x.post.worker) m.rest);
        sized = length-set s.slice n 0 ∙ m.sized;
        emptied = below s.slice n 0 (λ _. 0) inside refl m.emptied;
        left = above s.slice s0.slice n 0 m.left;
      }
      in subst (λ x. Merging s0 x (n + 1) (adds ++ new ∷ [])) (sym is) walks

  -- there is nothing to merge of a page that has no like
  Merging-none : (s0 s : StationView W) (n : ℕ) (adds : List Addition) → Merging s0 s n adds → get_or s.slice n 0 ≡ 0
      → Merging s0 s (n + 1) adds
  Merging-none s0 s n adds m none =
      let is : get_or s0.slice n 0 ≡ 0 = sym (m.left n (omega arith)) ∙ none in
      record {
        merges = record {
          pages_are = m.merges.pages_are ∙ sym (liked-none s0.slice n is);
          likes_are = m.merges.likes_are;
          phase_is = m.merges.phase_is;
        };
        rest = m.rest;
        logs = m.logs;
        sized = m.sized;
        emptied = λ page h. elim (cases_lt page n) [
          | inl earlier ↦ m.emptied page earlier
          | inr past ↦ let same : n ≡ page = omega arith in subst (λ k. get_or s.slice k 0 ≡ 0) same none
        ];
        left = λ page h. m.left page (omega arith);
      }

  -- nor of so many of them
  unliked_next : (s0 s : StationView W) (n more : ℕ) (adds : List Addition) → Merging s0 s n adds
      → AreUnliked s.slice n (n + more) → Merging s0 s (n + more) adds
  unliked_next s0 s n zero adds m none = subst (λ k. Merging s0 s k adds) (omega arith) m
  unliked_next s0 s n (suc more) adds m none =
      let first = Merging-none s0 s n adds m (none n (omega arith) (omega arith)) in
      subst (λ k. Merging s0 s k adds) (omega arith)
      (unliked_next s0 s (n + 1) more adds first (λ page low high. none page (omega arith) (omega arith)))

  pub Merging-unliked : (s0 s : StationView W) (n k : ℕ) (adds : List Addition) → Merging s0 s n adds → n ≤ k
      → AreUnliked s.slice n k → Merging s0 s k adds
  Merging-unliked s0 s n k adds m up none =
      let same : n + (k - n) ≡ k = omega arith in
      subst (λ j. Merging s0 s j adds) same
      (unliked_next s0 s n (k - n) adds m (λ page low high. none page low (omega arith)))

  -- all pages are merged
  pub Merging-end : (s0 s : StationView W) (adds : List Addition) → Merging s0 s (pages_of s0.post) adds
      → length s0.slice ≡ pages_of s0.post → s ≡ merged s0 adds s.post.logged
  Merging-end s0 s adds m pages =
      let slice : s.slice ≡ replicate (pages_of s0.post) 0 =
      zeros s.slice (λ i k. m.emptied i (omega (arith, m.sized, pages))) ∙ ap (λ n. replicate n 0) (m.sized ∙ pages) in
      m.rest ∙ ap (λ xs. merged_with s0 adds xs s.post.logged) slice

  -- a page is merged, and those before it that have no like
  pub Merging-next : (s0 s t : StationView W) (from page old number : ℕ) (adds : List Addition)
      → Merging s0 s from adds → IsNextLiked s.slice from page → t ≡ merged_page s page old number
      → Merging s0 t (page + 1) (adds ++ merge_of s page old ∷ [])
  Merging-next s0 s t from page old number adds m next is =
      Merging-page s0 s t page old number adds
      (Merging-unliked s0 s from page adds m next.after next.least) next.there next.liked is

  -- no page is left
  pub Merging-done : (s0 s t : StationView W) (from : ℕ) (adds : List Addition) → Merging s0 s from adds
      → from ≤ length s.slice → AreUnliked s.slice from (length s.slice) → t ≡ s → length s0.slice ≡ pages_of s0.post
      → Merges (phase_at s0) s0.slice (pages_of s0.post) adds × (t ≡ merged s0 adds t.post.logged)
      × LogsSteps (map (step_adding s0.post.worker) adds) s0.post.logged t.post.logged
  Merging-done s0 s t from adds m within none is pages =
      let all = subst (λ k. Merging s0 s k adds) (m.sized ∙ pages)
      (Merging-unliked s0 s from (length s.slice) adds m within none) in
      let same : s.post.logged ≡ t.post.logged = sym (ap {A = StationView W} (λ x. x.post.logged) is) in (
        all.merges,
        is ∙ Merging-end s0 s adds all pages ∙ ap (merged s0 adds) same,
        subst (LogsSteps (map (step_adding s0.post.worker) adds) s0.post.logged) same all.logs,
      )

-- in a run a page has the bucket of its number, so the next page by buckets is the next page
pub IsNextLiked-run : (slice : List ℕ) (from page : ℕ) → length slice ≤ buckets → IsNext run_factor slice from page
    → IsNextLiked slice from page
IsNextLiked-run slice from page few next =
    let here = bucket-run page (omega (arith, next.there)) in
    record {
      after = omega (arith, here, next.after);
      there = next.there;
      liked = next.liked;
      least = λ other after before.
          let same = bucket-run other (omega (arith, next.there)) in
          next.first other (omega arith) (omega arith) (λ e. absurd (omega arith));
    }

pub AreUnliked-run : (slice : List ℕ) (from : ℕ) → length slice ≤ buckets → NoneFrom run_factor slice from
    → AreUnliked slice from (length slice)
AreUnliked-run slice from few none page after inside =
    let same = bucket-run page (omega arith) in none page (omega arith)
