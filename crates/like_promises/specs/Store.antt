-- The store: what one thread replies to each thing that is asked, and what that leaves.
use Rattle.std.specs.Prelude.{ℕ, ◌+◌, ◌==◌, if◌then◌else◌, List, [], ◌∷◌, fold, Option, Some}
use Rattle.like_requests.specs.Types.{Verdict}
use Rattle.like_promises.specs.Types.{Liked, Refused, Reply, Seen}

-- the store: the count of each page, and the page of each user's last like, if any
pub record Store : Type 0 where
  pub count : ℕ → ℕ
  pub last : ℕ → Option ℕ

-- what is asked of it: a user's like of a page, a user's look at a page, or what is refused, with its verdict
pub data Ask : Type 0 where
  like : (user page : ℕ) → Ask
  look : (user page : ℕ) → Ask
  refuse : Verdict → Ask

-- what it replies: a look shows the user's last like and the page's count
abbrev pub reply : Store → Ask → Reply
reply s (like user page) = Liked
reply s (look user page) = Seen (s.last user) (s.count page)
reply s (refuse why) = Refused why

-- the store after that: a like adds 1 to its page's count, and is its user's last; nothing else changes it
abbrev pub after : Store → Ask → Store
after s (like user page) = record {
  count = λ p. s.count p + (if page == p then 1 else 0);
  last = λ u. if user == u then Some page else s.last u;
}
after s _ = s

-- what it replies to all of these, one after the other
abbrev pub replies : Store → List Ask → List Reply
replies s [] = []
replies s (a ∷ asks) = reply s a ∷ replies (after s a) asks

-- the store after all of these
abbrev pub after_all : Store → List Ask → Store
after_all s asks = fold after s asks
