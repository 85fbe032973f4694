use Rattle.std.proofs.Common.{◌≡◌, ◌∙◌, rules}
use Rattle.like_requests.specs.Pages.{number_of}
use Rattle.like_requests.proofs.Names.{position-keys}
use Rattle.like_requests.proofs.entries.Entries.find.Goals as goal

pub returns : goal.returns
returns c =
    let known : c.get_index_of.result ≡ number_of c.args.self.now c.args.name.now =
    c.get_index_of.ensures.index
    ∙ rw (← c.self.view_is) (position-keys c.args.name.now c.self.inside.by_name.entries c.self.invariant.0) in
    rw (← known) (search rules)
