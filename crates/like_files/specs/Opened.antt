-- The files that options name, opened by their names, or why they were not.
use Rattle.std.specs.Prelude.{◌≡◌, ◌+◌, ◌++◌, ◌∷◌, [], ℕ, List, Option, Some, None, IsSomeAnd, is_some, length, map, slice_get, string_bytes, zip, option_to_list}
use Rattle.like_requests.specs.Types.{PagesFault as pages_fault, RequestsFault, RequestsFault as requests_fault}
use Rattle.like_requests.specs.Types.{ScriptFault as script_fault}
use Rattle.like_command.specs.declared.options.Options.{Options}
use Rattle.like_files.specs.Types.{DriverFault, Opened, Pages, Requests, Script}
use Rattle.like_files.specs.{Faults.submitter_at, StandardInput.names_of, Tries.Tries, Tries.Try}

module _ {R : Type 0} where
  -- the files of these names were opened, in their order
  abbrev pub opened_as : List (List ℕ) → List R → List (Try R)
  opened_as names readers = map (λ p. record { name = p.0; opened = Some p.1 }) (zip names readers)

  -- why a request file stops the opening: it can't be opened, or it was opened and memory for it was refused
  abbrev pub stopped_by : Option R → RequestsFault
  stopped_by None = requests_fault.Read
  stopped_by (Some reader) = requests_fault.Memory

  -- what an opener was asked to open before and after a call, where that is known
  module _ (old new : Option (List (Try R))) where
    -- these are the files that the options name: they were opened, and no other was tried
    pub record AreNamed (options : Options) (opened : Opened R) : Type 0 where
      pub all_requests : length opened.requests.items ≡ length options.requests.items
      pub scripted : is_some opened.script ≡ is_some options.script
      pub tries :
          Tries old new
          (opened_as (names_of options) (opened.pages ∷ opened.requests.items ++ option_to_list opened.script))

    -- the files of these names were opened up to this place, and then the one there was tried, with this outcome
    pub record StopsAt (names : List (List ℕ)) (place : ℕ) (last : Option R) : Type 0 where
      pub readers : List R
      pub opened : length readers ≡ place
      pub tries :
          IsSomeAnd (slice_get names place) (λ name.
          Tries old new (opened_as names readers ++ record { name = name; opened = last } ∷ []))

    -- why the files that the options name were not opened: the first that stops the opening; none was tried after it
    abbrev pub IsUnopened : Options → DriverFault → Type 0
    IsUnopened options (Pages why) = (why ≡ pages_fault.Read) × StopsAt (names_of options) 0 None
    IsUnopened options (Requests submitter why) =
        (place : ℕ) × (submitter ≡ submitter_at place) × (last : Option R) × (why ≡ stopped_by last)
        × StopsAt (string_bytes options.pages ∷ map string_bytes options.requests.items) (place + 1) last
    IsUnopened options (Script why) =
        (why ≡ script_fault.Read) × StopsAt (names_of options) (length options.requests.items + 1) None
    IsUnopened options fault = ⊥
