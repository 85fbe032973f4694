-- Worked examples, computed: run order, what requests ask, and what a store replies.
use Rattle.std.proofs.Common.{◌≡◌, ℕ, Bool, true, false, [], ◌∷◌, map, Some, None, refl}
use Rattle.like_requests.specs.Pages.{Page}
use Rattle.like_requests.specs.declared.request.Op.{Op}
use Rattle.like_requests.specs.declared.request.Op.TheVariants.{Like, Look}
use Rattle.like_requests.specs.declared.request.PageRef.TheVariants.{Known, Unknown}
use Rattle.like_requests.specs.declared.request.Request.{Request}
use Rattle.like_requests.specs.declared.verdict.Verdict.TheVariants.{UnknownUser, OtherHome, UnknownPage}
use Rattle.like_promises.specs.declared.log.Took.{Took}
use Rattle.like_promises.specs.declared.reply.Reply.TheVariants.{Liked, Seen, Refused}
use Rattle.like_promises.specs.Asked.{asked}
use Rattle.like_promises.specs.RunStore.{start}
use Rattle.like_promises.specs.Order.{Entry, order}
use Rattle.like_promises.specs.Store.{like, look, refuse, replies}
use Rattle.like_promises.specs.Workload.{Workload}

-- a page without a name
abbrev page : ℕ → Bool → Page
page count is_split = record { name = []; count = count; split = is_split }

-- a request of user 0
abbrev asks : Op → ℕ → Request
asks op number = record { op = op; user = 0; page = Known number }

-- what submitter 0 asked, as it was taken
abbrev took : ℕ → ℕ → Took
took phase number = record { phase = phase; submitter = 0; number = number }

-- and as it runs
abbrev runs : ℕ → ℕ → Bool → Entry
runs phase number stashed = record { phase = phase; submitter = 0; number = number; stashed = stashed }

-- split-and-stash: the like runs in its slice, and the look in the next joined phase
pub split_and_stash : order
    (record {
      users =
          2;
      pages = page 10 true ∷ [];
      stash = 256;
      hot = λ _. 0;
      plans = (asks Like 0 ∷ asks Look 0 ∷ []) ∷ [];
    })
    (took 1 1 ∷ took 1 2 ∷ []) ≡ runs 1 1 false ∷ runs 2 2 true ∷ []
split_and_stash = refl

-- stash-then-like: a like of a page that is not split overtakes the look
pub stash_then_like : order
    (record {
      users =
          1;
      pages = page 5 true ∷ page 0 false ∷ [];
      stash =
          256;
      hot = λ _. 0;
      plans = (asks Look 0 ∷ asks Like 1 ∷ []) ∷ [];
    }) (took 1 1 ∷ took 1 2 ∷ [])
    ≡ runs 1 2 false ∷ runs 2 1 true ∷ []
stash_then_like = refl

-- full-stash: the second look is taken in the joined phase, after the backlog
pub full_stash : order
    (record {
      users =
          1;
      pages = page 0 true ∷ [];
      stash = 256;
      hot = λ _. 0;
      plans = (asks Look 0 ∷ asks Look 0 ∷ []) ∷ [];
    })
    (took 1 1 ∷ took 2 2 ∷ []) ≡ runs 2 1 true ∷ runs 2 2 false ∷ []
full_stash = refl

-- unsplit-in-split-phase: nothing waits
pub unsplit_in_split_phase : order
    (record {
      users =
          1;
      pages = page 7 false ∷ [];
      stash = 256;
      hot = λ _. 0;
      plans = (asks Like 0 ∷ asks Look 0 ∷ []) ∷ [];
    })
    (took 1 1 ∷ took 1 2 ∷ []) ≡ runs 1 1 false ∷ runs 1 2 false ∷ []
unsplit_in_split_phase = refl

-- two users and two submitters. The first asks for a user who isn't there, for the other's user, for a page that isn't
-- there, and then for its own user at a page
abbrev refusing : Workload
refusing = record {
  users = 2;
  pages = page 10 false ∷ [];
  stash = 256;
  hot = λ _. 0;
  plans = (record { op = Like; user = 2; page = Known 0 }
      ∷ record { op = Look; user = 1; page = Known 0 }
      ∷ record { op = Look; user = 0; page = Unknown }
      ∷ asks Like 0
      ∷ asks Look 0
      ∷ []) ∷ [] ∷ [];
}

-- who is refused, and why
pub refusals : map (asked refusing 0) (1 ∷ 2 ∷ 3 ∷ 4 ∷ 5 ∷ 6 ∷ [])
    ≡ Some (refuse UnknownUser)
    ∷ Some (refuse OtherHome)
    ∷ Some (refuse UnknownPage)
    ∷ Some (like 0 0)
    ∷ Some (look 0 0)
    ∷ None
    ∷ []
refusals = refl

-- what the store replies: a look shows the like before it
pub one_thread : replies (start refusing) (look 0 0 ∷ like 0 0 ∷ look 0 0 ∷ look 1 0 ∷ refuse OtherHome ∷ [])
    ≡ Seen None 10 ∷ Liked ∷ Seen (Some 0) 11 ∷ Seen None 11 ∷ Refused OtherHome ∷ []
one_thread = refl
