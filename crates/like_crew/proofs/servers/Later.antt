-- The same server later, and later than that.
use Rattle.std.proofs.Common.{◌≡◌, ℕ, zero, suc, ◌<◌, List, [], ◌∷◌, length, get_or, set, slice_get, Some, refl, sym, ap, ◌∙◌, ◌+◌, arith, subst, inl, inr}
use Rattle.std.proofs.lemmas.Bool.{cases_eq}
use Rattle.std.proofs.lemmas.List.{get_or-set_same, get_or-set_other}
use Rattle.like_core.specs.declared.worker_state.WorkerState.TheVariants.{Gone}
use Rattle.std.specs.List.{AllZip}
use Rattle.like_crew.specs.Server.{ServerGoesOn, ServerView}

pub goes-same : (s : ServerView) → ServerGoesOn s s
goes-same s = record { share = refl; notes = refl; whose = refl; board = refl; inboxes = refl; works = λ _ h. h }

pub goes-further : (s t u : ServerView) → ServerGoesOn s t → ServerGoesOn t u → ServerGoesOn s u
goes-further s t u a b = record {
  share = b.share ∙ a.share;
  notes = b.notes ∙ a.notes;
  whose = b.whose ∙ a.whose;
  board = b.board ∙ a.board;
  inboxes = b.inboxes ∙ a.inboxes;
  works = λ workload h. b.works workload (a.works workload h);
}

-- all servers
pub all-same : (ss : List ServerView) → AllZip ServerGoesOn ss ss
all-same [] = tt
all-same (s ∷ ss) = (goes-same s, all-same ss)

-- all servers, of which one goes further
pub all-further : (ss ts : List ServerView) (k : ℕ) (t u : ServerView)
    → AllZip ServerGoesOn ss ts
    → slice_get ts k ≡ Some t
    → ServerGoesOn t u
    → AllZip ServerGoesOn ss (set ts k u)
all-further [] [] k t u all e g = cc e
all-further [] (t0 ∷ ts) k t u all e g = absurd all
all-further (s ∷ ss) [] k t u all e g = absurd all
all-further (s ∷ ss) (t0 ∷ ts) zero t u all e g =
    let same : t0 ≡ t = cc e in
    (goes-further s t0 u all.0 (subst (λ x. ServerGoesOn x u) (sym same) g), all.1)
all-further (s ∷ ss) (t0 ∷ ts) (suc k) t u all e g = (all.0, all-further ss ts k t u all.1 e g)

pub all-further-both : (ss ts us : List ServerView)
    → AllZip ServerGoesOn ss ts
    → AllZip ServerGoesOn ts us
    → AllZip ServerGoesOn ss us
all-further-both [] [] us a b = b
all-further-both [] (t ∷ ts) us a b = absurd a
all-further-both (s ∷ ss) [] us a b = absurd a
all-further-both (s ∷ ss) (t ∷ ts) [] a b = absurd b
all-further-both (s ∷ ss) (t ∷ ts) (u ∷ us) a b = (goes-further s t u a.0 b.0, all-further-both ss ts us a.1 b.1)

-- the workers of the first servers are gone, and one more
pub gone-more : (servers : List ServerView) (i : ℕ) (s : ServerView)
    → i < length servers
    → ((k : ℕ) (d : ServerView) → k < i → (get_or servers k d).worker.post.state ≡ Gone)
    → s.worker.post.state ≡ Gone
    → (k : ℕ) (d : ServerView)
    → k < i + 1
    → (get_or (set servers i s) k d).worker.post.state ≡ Gone
gone-more servers i s within before gone k d below =
    elim (cases_eq k i) [
      | inl same ↦ ap (λ (x : ServerView). x.worker.post.state)
          (ap (λ n. get_or (set servers i s) n d) same ∙ get_or-set_same servers i s d within) ∙ gone
      | inr other ↦ ap (λ (x : ServerView). x.worker.post.state) (get_or-set_other servers i k s d other)
          ∙ before k d (omega (arith, below, other))
    ]

-- and back: if they are gone with this one, the first ones are, and this one is
pub gone-less : (servers : List ServerView) (i : ℕ) (s : ServerView)
    → i < length servers
    → ((k : ℕ) (d : ServerView) → k < i + 1 → (get_or (set servers i s) k d).worker.post.state ≡ Gone)
    → ((k : ℕ) (d : ServerView) → k < i → (get_or servers k d).worker.post.state ≡ Gone)
    × (s.worker.post.state ≡ Gone)
gone-less servers i s within gone = (
  λ k d below. ap (λ (x : ServerView). x.worker.post.state)
      (sym (get_or-set_other servers i k s d (λ e. absurd (omega (arith, below, e)))))
      ∙ gone k d (omega (arith, below)),
  ap (λ (x : ServerView). x.worker.post.state) (sym (get_or-set_same servers i s s within)) ∙ gone i s (omega arith),
)
