-- Runs and replays of the files that options name.
use Rattle.std.proofs.Common.{◌≡◌, ◌∙◌, ℕ, List, [], ◌∷◌, ◌++◌, Option, None, Some, Result, Ok, Err, IfErr, add-one, length, map, option_map, refl, string_bytes, sym, inl, inr, take}
use Rattle.std.specs.Prelude.{IsSomeAnd, OnErr, is_some, slice_get}
use Rattle.std.proofs.lemmas.List.{length-map, take-map}
use Rattle.std.proofs.lemmas.Option.{none-some, slice_get-map}
use Rattle.like_requests.specs.Pages.{Page}
use Rattle.like_requests.specs.declared.request.Request.{Request}
use Rattle.like_requests.specs.declared.requests_file.RequestsFault.{RequestsFault}
use Rattle.like_requests.specs.declared.script_file.ScriptFault.{ScriptFault}
use Rattle.like_command.specs.declared.options.Options.{Options}
use Rattle.like_replies.specs.declared.notice.Notice.{Notice}
use Rattle.like_files.specs.FailedReads.{TellsRead}
use Rattle.like_files.specs.Inputs.{BeginsReportOf, GivesPlans, Inputs, RefusesLists, RefusesPlan, RefusesScript, inputs_in}
use Rattle.like_files.specs.Opened.{AreNamed, IsUnopened}
use Rattle.like_files.specs.Outcome.{LeavesFront}
use Rattle.like_files.specs.Replay.{HasReplayed, IsReplayFilesFault}
use Rattle.like_files.specs.Run.{HasRun, IsRunFilesFault}
use Rattle.like_files.specs.Tries.{Try}
use Rattle.like_files.specs.declared.fault.DriverFault.{DriverFault}
use Rattle.like_files.specs.declared.fault.DriverFault.TheVariants as driver
use Rattle.like_files.specs.declared.opened.Opened.{Opened}
use Rattle.like_program.specs.Program.{OfSome}
use Rattle.like_program.proofs.Serving.{BeginsSome}
use Rattle.like_program.specs.Named.{IsNamedFault, OfNamed}

-- a script tells something just if there is one
tells_if : {R A : Type 0} (f : R → A) (reader : Option R) → is_some (option_map f reader) ≡ is_some reader
tells_if f None = refl
tells_if f (Some reader) = refl

-- ---- files whose bytes are not known

abbrev unknown : {X : Type 0} → X → Option (List ℕ)
unknown x = None

-- they give some plans
unknown-plans : {X : Type 0} (pages : List Page) (names : List X)
    → (plans : List (List Request)) × GivesPlans pages (map unknown names) plans
unknown-plans pages [] = ([], tt)
unknown-plans pages (name ∷ names) =
    let rest = unknown-plans pages names in ([] ∷ rest.0, ((λ rows none. absurd (none-some rows none)), rest.1))

-- each that is there may be refused
unknown-plan : {X : Type 0} (P : X → Type 0) (name : Option X) (why : RequestsFault)
    → IsSomeAnd name P
    → IsSomeAnd (option_map unknown name) (λ source. RefusesPlan source why)
unknown-plan P None why there = absurd there
unknown-plan P (Some name) why there = λ rows none. absurd (none-some rows none)

unknown-script : {X : Type 0} (name : Option X) (why : ScriptFault)
    → ¬ (name ≡ None)
    → RefusesScript (option_map unknown name) why
unknown-script None why there = absurd (there refl)
unknown-script (Some name) why there = λ rows none. absurd (none-some rows none)

-- ---- where an opening stopped

-- a file that stopped it is there
there-mapped : {X Y : Type 0} (f : X → Y) (P : Y → Type 0) (o : Option X) → IsSomeAnd (option_map f o) P
    → IsSomeAnd o (λ x. P (f x))
there-mapped f P None h = absurd h
there-mapped f P (Some x) h = h

-- none is behind the last
none_behind : {X : Type 0} (P : X → Type 0) (xs : List X) → ¬ IsSomeAnd (slice_get (xs ++ []) (length xs)) P
none_behind P [] h = h
none_behind P (x ∷ xs) h = none_behind P xs h

-- a front of a report of named files was written
abbrev pub BeginsNamed : {R : Type 0} → (R → Option (List ℕ)) → Option (List (Try R)) → Option (List (Try R)) → Options
    → Option (List ℕ) → Option (List ℕ) → Type 0
BeginsNamed left before after options old new =
    OfNamed before after options (λ files. BeginsReportOf options (inputs_in left files) old new)

module _ {R : Type 0} (left : R → Option (List ℕ)) (before after : Option (List (Try R))) (options : Options) where
  module _ (opened : Opened R) (named : AreNamed before after options opened) where
    -- what was opened was refused
    pub files-refused : (Refused : Opened R → DriverFault → Type 0) (r : Result (Option Notice) DriverFault)
        → IfErr r (Refused opened)
        → IfErr r (TellsRead opened.pages opened.requests.items opened.script)
        → IfErr r (IsNamedFault before after options Refused)
    files-refused Refused (Ok notice) refused told = tt
    files-refused Refused (Err fault) refused told =
        inr (record { opened = opened; named = named; holds = (refused, told) })

    -- what was begun of these files was begun of named files
    pub named-begun : {W A : Type 0} (held : W → Option (List ℕ)) (old new : W) (r : Result A DriverFault)
        → OnErr r (LeavesFront (BeginsReportOf options (inputs_in left opened)) held old new)
        → OnErr r (LeavesFront (BeginsNamed left before after options) held old new)
    named-begun held old new (Ok done) begun = tt
    named-begun held old new (Err fault) (inl same) = inl same
    named-begun held old new (Err fault) (inr begun) = inr (record { opened = opened; named = named; holds = begun })

  -- named files are some files
  some-files : (Holds : Inputs → Type 0)
      → OfNamed before after options (λ opened. Holds (inputs_in left opened))
      → OfSome options Holds
  some-files Holds files = record {
    inputs = inputs_in left files.opened;
    all_requests = length-map files.opened.requests.items left ∙ files.named.all_requests;
    scripted = tells_if left files.opened.script ∙ files.named.scripted;
    holds = files.holds;
  }

  pub some-run : (old new : Option (List ℕ)) (notice : Option Notice)
      → OfNamed before after options (λ files. HasRun options (inputs_in left files) old new notice)
      → OfSome options (λ inputs. HasRun options inputs old new notice)
  some-run old new notice files = some-files (λ inputs. HasRun options inputs old new notice) files

  pub some-replay : (old new : Option (List ℕ)) (notice : Option Notice)
      → OfNamed before after options (λ files. HasReplayed options (inputs_in left files) old new notice)
      → OfSome options (λ inputs. HasReplayed options inputs old new notice)
  some-replay old new notice files = some-files (λ inputs. HasReplayed options inputs old new notice) files

  pub some-begun : {W A : Type 0} (held : W → Option (List ℕ)) (old new : W) (r : Result A DriverFault)
      → OnErr r (LeavesFront (BeginsNamed left before after options) held old new)
      → OnErr r (LeavesFront (BeginsSome options) held old new)
  some-begun held old new (Ok done) begun = tt
  some-begun held old new (Err fault) (inl same) = inl same
  some-begun held old new (Err fault) (inr front) =
      inr (some-files (λ inputs. BeginsReportOf options inputs (held old) (held new)) front)

  -- files that were not opened may have any bytes
  abbrev unread : Inputs
  unread = record {
    pages = None;
    requests = map unknown options.requests.items;
    script = option_map unknown options.script;
  }

  unread-files : (Holds : Inputs → Type 0) → Holds unread → OfSome options Holds
  unread-files Holds holds = record {
    inputs = unread;
    all_requests = length-map options.requests.items unknown;
    scripted = tells_if unknown options.script;
    holds = holds;
  }

  -- so the fault of one that was not opened is one with which a run or a replay of them may end
  request-unopened : (submitter : ℕ) (why : RequestsFault)
      → IsUnopened before after options (driver.Requests submitter why)
      → RefusesLists unread.pages unread.requests (driver.Requests submitter why)
  request-unopened submitter why unopened =
      let (place, named, last, reason, stops) = unopened in
      let names = options.requests.items in
      let plans = unknown-plans [] (take place names) in
      let at = rw (add-one place, slice_get-map string_bytes names place) at stops.tries in (
        [],
        (λ rows none. absurd (none-some rows none)),
        (
          place,
          named,
          (plans.0, rw (take-map unknown place names) plans.1),
          rw (slice_get-map unknown names place)
              (unknown-plan _ (slice_get names place) why
              (there-mapped string_bytes _ (slice_get names place) at)),
        ),
      )

  -- options without a script name none that stops the opening
  scripted : (why : ScriptFault) → IsUnopened before after options (driver.Script why) → ¬ (options.script ≡ None)
  scripted why unopened none =
      let requested = map string_bytes options.requests.items in
      let at = rw (
        none,
        add-one (length options.requests.items),
        sym (length-map options.requests.items string_bytes),
      ) at unopened.1.tries in
      none_behind _ requested at

  run-unopened : (fault : DriverFault) → options.script ≡ None
      → IsUnopened before after options fault
      → IsRunFilesFault options unread fault
  run-unopened (driver.Pages why) none unopened = inl (λ rows none. absurd (none-some rows none))
  run-unopened (driver.Requests submitter why) none unopened = inl (request-unopened submitter why unopened)
  run-unopened (driver.Script why) none unopened = absurd (scripted why unopened none)
  run-unopened (driver.Settings why) none unopened = absurd unopened
  run-unopened driver.Start none unopened = absurd unopened
  run-unopened driver.Unfinished none unopened = absurd unopened
  run-unopened driver.Write none unopened = absurd unopened
  run-unopened driver.Memory none unopened = absurd unopened

  replay-unopened : (fault : DriverFault)
      → IsUnopened before after options fault
      → IsReplayFilesFault options unread fault
  replay-unopened (driver.Pages why) unopened = inl (λ rows none. absurd (none-some rows none))
  replay-unopened (driver.Requests submitter why) unopened = inl (request-unopened submitter why unopened)
  replay-unopened (driver.Script why) unopened =
      let plans = unknown-plans [] options.requests.items in
      inr (record {
        pages = [];
        plans = plans.0;
        pages_given = λ rows none. absurd (none-some rows none);
        plans_given = plans.1;
        holds = unknown-script options.script why (scripted why unopened);
      })
  replay-unopened (driver.Settings why) unopened = absurd unopened
  replay-unopened driver.Start unopened = absurd unopened
  replay-unopened driver.Unfinished unopened = absurd unopened
  replay-unopened driver.Write unopened = absurd unopened
  replay-unopened driver.Memory unopened = absurd unopened

  pub some-run-fault : (fault : DriverFault) → options.script ≡ None
      → IsNamedFault before after options (λ files. IsRunFilesFault options (inputs_in left files)) fault
      → OfSome options (λ inputs. IsRunFilesFault options inputs fault)
  some-run-fault fault none (inl unopened) =
      unread-files (λ inputs. IsRunFilesFault options inputs fault) (run-unopened fault none unopened)
  some-run-fault fault none (inr files) =
      some-files (λ inputs. IsRunFilesFault options inputs fault)
      (record { opened = files.opened; named = files.named; holds = files.holds.0 })

  pub some-replay-fault : (fault : DriverFault)
      → IsNamedFault before after options (λ files. IsReplayFilesFault options (inputs_in left files)) fault
      → OfSome options (λ inputs. IsReplayFilesFault options inputs fault)
  some-replay-fault fault (inl unopened) =
      unread-files (λ inputs. IsReplayFilesFault options inputs fault) (replay-unopened fault unopened)
  some-replay-fault fault (inr files) =
      some-files (λ inputs. IsReplayFilesFault options inputs fault)
      (record { opened = files.opened; named = files.named; holds = files.holds.0 })
