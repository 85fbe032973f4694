-- How the servers of a crew whose thread owns its board are made.
use Rattle.std.proofs.Common.{◌≡◌, ℕ, zero, suc, List, [], ◌∷◌, ◌++◌, length, slice_get, Some, refl, sym, ap, subst}
use Rattle.like_requests.specs.declared.setup.Setup.{Setup}
use Rattle.like_core.specs.declared.opening.Opening.{Opening}
use Rattle.like_core.specs.declared.view.WorkerSeatView.{WorkerSeatView}
use Rattle.like_core.specs.Post.{fresh}
use Rattle.like_core.specs.declared.view.View.TheVariants.{Worker}
use Rattle.like_board.specs.NewViews.{new_workers}
use Rattle.like_roles.specs.worker.New.{IsPostOf}
use Rattle.like_crew.specs.Site.{opening_of}

-- the post of a new seat is its worker's
pub own-post : (setup : Setup) (z : Opening) (k : ℕ) (v : WorkerSeatView)
    → z ≡ opening_of setup
    → v ≡ fresh z k
    → IsPostOf k setup.pages v
own-post setup z k v opened is = subst (IsPostOf k setup.pages) (sym is) (record {
  is_his = refl;
  opening = record {
    marks = ap (λ (o : Opening). o.marks) opened;
    limits = ap (λ (o : Opening). o.limits) opened;
    factor = ap (λ (o : Opening). o.factor) opened;
  };
  fresh = refl;
})

-- what the seats of none and of one worker more know
pub workers-none : (z : Opening) → new_workers z 0 ≡ []
unfolding new_workers
workers-none z = refl

pub workers-more : (z : Opening) (k : ℕ) → new_workers z (suc k) ≡ new_workers z k ++ Worker (fresh z k) ∷ []
unfolding new_workers
workers-more z k = refl

-- what holds of each element of a list, and of one more
pub each-more : {A : Type 0} (P : ℕ → A → Type 0) (xs : List A) (x : A)
    → ((k : ℕ) (y : A) → slice_get xs k ≡ Some y → P k y)
    → P (length xs) x
    → (k : ℕ) (y : A)
    → slice_get (xs ++ x ∷ []) k ≡ Some y
    → P k y
each-more P [] x each last zero y e = let same : x ≡ y = cc e in subst (P zero) same last
each-more P [] x each last (suc k) y e = absurd (cc e)
each-more P (z ∷ xs) x each last zero y e = each zero y e
each-more P (z ∷ xs) x each last (suc k) y e =
    each-more (λ n. P (suc n)) xs x (λ j w at. each (suc j) w at) last k y e
