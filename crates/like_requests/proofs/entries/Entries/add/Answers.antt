use Rattle.std.proofs.Common.{◌≡◌, ◌∷◌, [], ◌++◌, ◌∙◌, sym, refl, rules}
use Rattle.like_requests.specs.Entries.{AreKeyed, listed_pages}
use Rattle.like_requests.proofs.Added.{AreEntries-push, IsDistinct-names, entry-added, keyed-push, listed_pages-push}
use Rattle.like_requests.proofs.entries.Entries.add.Goals as goal

-- the map's entries after the insertion
added : (c : goal.Joined-branch-4)
    → c.insert.new.self.entries
    ≡ c.self.inside.by_name.entries
    ++ (c.in_ok-key.key, record { name = c.in_ok-name.name; initial = c.args.initial }) ∷ []
added c =
    entry-added c.self.inside.by_name.entries c.insert.new.self.entries c.in_ok-key.key _ c.args.name.now
    c.in_ok-insert.ensures.entries c.self.invariant.0
    (c.in_ok-key.ensures.items ∙ c.as_bytes.ensures.value) (rw (← c.self.view_is) at c.requires.other)

-- its keys are its pages' names
keyed : (c : goal.Joined-branch-4) → AreKeyed c.insert.new.self.entries
keyed c =
    rw (added c) (keyed-push c.self.inside.by_name.entries c.in_ok-key.key _ c.self.invariant.0
    (c.in_ok-key.ensures.items ∙ c.as_bytes.ensures.value ∙ sym c.in_ok-name.ensures.ok))

-- the pages after it
listed : (c : goal.Joined-branch-4) → listed_pages c.insert.new.self.entries
    ≡ listed_pages c.self.inside.by_name.entries
    ++ (record { name = c.args.name.now; count = c.args.initial.count; split = c.args.initial.split }) ∷ []
listed c = rw (added c, listed_pages-push, c.in_ok-name.ensures.ok) refl

pub invariant_of-self-2 : goal.invariant_of-self-2
invariant_of-self-2 c = (
  keyed c,
  rw (listed c)
      (AreEntries-push _ _ c.self.invariant.1 (rw c.self.view_is c.requires.room) c.requires.named c.requires.counted
      (rw (← listed c) (IsDistinct-names c.insert.new.self.entries (keyed c) c.insert.ensures.unique))),
)

pub returns : goal.returns
returns c = record { added = rw (listed c, c.self.view_is) (search rules) }
