use Rattle.std.proofs.Common.{◌≤◌, ℕ, Result, List, ap, arith, subst, Ok, Err, MatchResult, OnOk, inl, inr, refl, Contains}
use Rattle.std.specs.Result.{result_or}
use Rattle.std.specs.declared.alloc.AllocError.{AllocError}
use Rattle.std.proofs.lemmas.Result.{err_from_is_err_and}
use Rattle.like_requests.specs.declared.pages_file.PagesFault.{PagesFault}
use Rattle.like_requests.specs.declared.pages_file.PagesFault.TheVariants.{Memory}
use Rattle.std.proofs.lemmas.List.{length-map}
use Rattle.like_requests.specs.Pages.{IsName, Page, names}
use Rattle.like_limits.specs.Limits.{max_count}
use Rattle.like_records.specs.Rows.{max_rows}
use Rattle.like_requests.proofs.PagesRead.{count-listed, names-listed, page-listed}
use Rattle.like_requests.proofs.pages_file.PagesFileFileKind.take.Goals as goal

pub returns-in_err-name-clause-row : goal.returns-in_err-name-clause-row
returns-in_err-name-clause-row g c = λ done same at.
    let p = err_from_is_err_and c.from_residual.result c.from_residual.ensures.1 in
    rw (p.1, p.2) (inr (rw (names-listed c.args.entries.now done same) at c.in_err-name.ensures))

-- a growth that was refused is the fault
or-memory : {A P : Type 0} (Q : PagesFault → Type 0) (r : Result (Unit {0}) AllocError)
    → OnOk r A
    → (A → P)
    → Q Memory
    → MatchResult (result_or r (Err Memory)) (λ _. P) Q
or-memory Q (Ok done) a f memory = f a
or-memory Q (Err refused) a f memory = memory

pub returns-clause-row : goal.returns-clause-row
returns-clause-row g c = λ done same at.
    rw c.or.ensures (or-memory _ c.add-added.result c.add-added.ensures.added
    (λ added. (
      rw (names-listed c.args.entries.now done same) at c.in_ok-name.ensures.0,
      page-listed c.add-added.new.self c.args.entries.now done c.args.records.now.fields _ same c.in_ok-name.ensures.1
          added,
    ))
    (inl refl))

pub entry_at-requires : goal.entry_at-requires
entry_at-requires g c = omega (arith, count-listed c.args.entries.now c.requires.0 c.requires.1, c.requires.2)

pub add-added-requires-clause-room : goal.add-added-requires-clause-room
add-added-requires-clause-room g c =
    omega (arith, c.in_ok-name.ensures.0.1.1.1.1.1.0, length-map c.args.entries.now (λ (p : Page). p.name))

pub add-added-requires-clause-named : goal.add-added-requires-clause-named
add-added-requires-clause-named g c =
    subst IsName (ap (λ (p : Page). p.name) c.in_ok-name.ensures.1) c.in_ok-name.ensures.0.1.0

pub add-added-requires-clause-counted : goal.add-added-requires-clause-counted
add-added-requires-clause-counted g c =
    subst (λ n. n ≤ max_count) (ap (λ (p : Page). p.count) c.in_ok-name.ensures.1) c.in_ok-name.ensures.0.1.1.1.0.limited

pub add-added-requires-clause-other : goal.add-added-requires-clause-other
add-added-requires-clause-other g c =
    subst (λ (n : List ℕ). ¬ Contains (names c.args.entries.now) n) (ap (λ (p : Page). p.name) c.in_ok-name.ensures.1)
    c.in_ok-name.ensures.0.1.1.0

pub returns-in_err-name-clause-few : goal.returns-in_err-name-clause-few
returns-in_err-name-clause-few g c =
    let p = err_from_is_err_and c.from_residual.result c.from_residual.ensures.1 in rw p.1 tt

pub returns-clause-few : goal.returns-clause-few
returns-clause-few g c =
    let few : c.args.row ≤ max_rows =
    omega (
      arith,
      count-listed c.args.entries.now c.requires.0 c.requires.1,
      c.requires.2,
      c.in_ok-name.ensures.0.1.1.1.1.1.0,
      length-map c.args.entries.now (λ (p : Page). p.name),
    )
    in
    rw c.or.ensures (or-memory (λ _. Unit {0}) c.add-added.result c.add-added.ensures.added (λ _. few) tt)
