use Rattle.std.proofs.Common.{◌≡◌, ◌∙◌, ap, map, length, string_bytes, sym, arith}
use Rattle.std.proofs.lemmas.List.{length-map}
use Rattle.std.proofs.lemmas.Option.{same_Some}
use Rattle.like_command.proofs.matches.options.Goals as goal

pub returns-clause-values : goal.returns-clause-values
returns-clause-values c =
    let names = c.requires.requests.0 in
    let items = c.in_ok-requests.requests.items in
    let same : names ≡ map string_bytes items =
    same_Some names (map string_bytes items) (sym c.requires.requests.1 ∙ c.in_ok-requests.ensures) in
    let size : length names ≡ length items = ap length same ∙ length-map items string_bytes in
    record {
      workers = c.number-workers.ensures 1 16 (omega arith) c.requires.workers;
      users = c.number-users.ensures 1 1000000 (omega arith) c.requires.users;
      stash = c.number-stash.ensures 1 4096 (omega arith) c.requires.stash;
      turns = c.number-turns.ensures 0 1000000 (omega arith) c.requires.turns;
      hot = c.optional_number-hot.ensures 1 1000000 (omega arith) c.requires.hot;
      places = c.flag-places.ensures;
      totals = c.flag-totals.ensures;
      summary = c.flag-summary.ensures;
      progress = c.flag-progress.ensures;
      pages = c.in_ok-pages.ensures;
      requests = c.in_ok-requests.ensures;
      some_requests = omega (arith, size, c.requires.requests.2);
    }

pub number-workers-requires : goal.number-workers-requires
number-workers-requires c = (1, 16, c.requires.workers, omega arith)

pub number-users-requires : goal.number-users-requires
number-users-requires c = (1, 1000000, c.requires.users, omega arith)

pub number-stash-requires : goal.number-stash-requires
number-stash-requires c = (1, 4096, c.requires.stash, omega arith)

pub number-turns-requires : goal.number-turns-requires
number-turns-requires c = (0, 1000000, c.requires.turns, omega arith)
