-- What clap finds in words that ask for a run or a replay.
use Rattle.std.proofs.Common.{◌≡◌, ◌∙◌, ◌||◌, ℕ, Bool, cond, true, false, not, refl, sym, ap, ap₂, inl, inr, subst, arith, codes, List, [], ◌∷◌, ◌++◌, take, drop, Option, Some, None, Result, Ok, Err, IfOk, IfErr, MatchResult, true≢false, is_some}
use Rattle.std.specs.Prelude.{pos, option_map}
use Rattle.std.specs.List.{find, fold, slice_index_or}
use Rattle.std.specs.Option.{option_map_or}
use Rattle.std.specs.Str.{bytes_eq}
use Rattle.std.proofs.lemmas.Option.{same_Some}
use Rattle.std.proofs.lemmas.Slice.Eq.{bytes_eq-Decides}
use Rattle.clap.proofs.ValueTestLemmas.{accepts-Accepts}
use Rattle.clap.specs.Facts.{explicit_source, parser_of_value}
use Rattle.clap.specs.Faults.{check_fault, entered_fault, fault_of, is_simple_and_free, level_fault}
use Rattle.clap.specs.Kinds.{HasKind, Kinds, value_kinds}
use Rattle.clap.specs.Simple.{App, HasMatchesOf, Shape, app_of, built, built_leaf, entered, inherited, is_simple, marked_built, names_of, new_rule, rows_at, subcommand_of, with_leaf_noted}
use Rattle.clap.specs.Words.{subcommand_rows_of}
use Rattle.clap.specs.declared.parser.matches.ArgMatches.{ArgMatches}
use Rattle.clap.specs.Takes.{is_given}
use Rattle.clap.specs.Values.{bool_text, reading_of, refused_kind}
use Rattle.clap.specs.ValueTests.{accepts}
use Rattle.clap.specs.Walk.{Held, Names, Row, Rule, Text, all_of, answers_to, arg_by_id, default_rows, finished, first_of, has_row, more_values, nothing_held, reading_by, rows_after, settled, stop_after, walk, walk_from, with_default, with_values}
use Rattle.clap.specs.declared.builder.command.Command.{Command}
use Rattle.clap.specs.declared.error.Error.{Error}
use Rattle.clap.specs.declared.error.kind.ErrorKind.TheVariants.{MissingRequiredArgument}
use Rattle.clap.specs.declared.builder.value_parser.Reading.{Reading}
use Rattle.clap.specs.declared.builder.value_parser.ValueParser.{ValueParser}
use Rattle.clap.specs.declared.builder.value_parser.ValueParser.TheVariants as vp
use Rattle.clap.specs.declared.parser.matches.ValueSource.{ValueSource}
use Rattle.clap.specs.declared.parser.matches.ValueSource.TheVariants.{DefaultValue}
use Rattle.like_command.specs.declared.asked.Asked.{Asked}
use Rattle.like_command.specs.declared.asked.Asked.TheVariants.{Run, Replay, Help}
use Rattle.like_command.specs.Asked.{Asks, MeansAsked, entered_of, faults_of, spelled_out, HasAll, HasFlag, HasNumber, IsEntered, MayHaveNumber}
use Rattle.like_command.specs.CommandLine.{likes_app, replay_command, run_command}
use Rattle.like_command.proofs.Walked.{AllFit, FirstPasses, Good, IsGood, good_defaults, good_settled, good_walk, neither, some_kind}

-- ---- rows that are there

bytes_eq-same : (t : Text) → bytes_eq t t ≡ true
bytes_eq-same t = (bytes_eq-Decides t t).1 refl

either : (a b : Bool) → b ≡ true → (a || b) ≡ true
either true b e = refl
either false b e = e

has_new : (id : Text) (how : Reading) (s : ValueSource) (values : List Text) (rows : List Row)
    → has_row id (with_values id how s values rows) ≡ true
has_new id how s values [] = rw (bytes_eq-same id) refl
has_new id how s values (r ∷ rs) = go (bytes_eq r.id id) refl (has_new id how s values rs)
  where
    go : (b : Bool) → bytes_eq r.id id ≡ b → has_row id (with_values id how s values rs) ≡ true
        → has_row id (cond b (more_values s values r ++ rs) (r ∷ with_values id how s values rs)) ≡ true
    go true e rest = rw e refl
    go false e rest = either _ _ rest

has_kept : (id other : Text) (how : Reading) (s : ValueSource) (values : List Text) (rows : List Row)
    → has_row id rows ≡ true
    → has_row id (with_values other how s values rows) ≡ true
has_kept id other how s values [] h = absurd (true≢false (sym h))
has_kept id other how s values (r ∷ rs) h =
    go (bytes_eq r.id other) (bytes_eq r.id id) refl h (has_kept id other how s values rs)
  where
    rest_has : (b : Bool) → (b || has_row id rs) ≡ true
        → (has_row id rs ≡ true → has_row id (with_values other how s values rs) ≡ true)
        → (b || has_row id (with_values other how s values rs)) ≡ true
    rest_has true e rest = refl
    rest_has false e rest = rest e

    go : (b d : Bool) → bytes_eq r.id id ≡ d → (d || has_row id rs) ≡ true
        → (has_row id rs ≡ true → has_row id (with_values other how s values rs) ≡ true)
        → has_row id (cond b (more_values s values r ++ rs) (r ∷ with_values other how s values rs)) ≡ true
    go true d is e rest = rw is e
    go false d is e rest = rw is (rest_has d e rest)

default_keeps : (id : Text) (a : Rule) (rows : List Row)
    → has_row id rows ≡ true
    → has_row id (with_default rows a) ≡ true
default_keeps id a rows h = go (has_row a.id rows) a.defaults
  where
    go : (b : Bool) (values : List Text)
        → has_row id (cond b rows (default_rows a.id (reading_by a) values rows)) ≡ true
    go true values = h
    go false [] = h
    go false (v ∷ vs) = has_kept id a.id (reading_by a) DefaultValue (v ∷ vs) rows h

pub defaults_keep : (id : Text) (xs : List Rule) (rows : List Row)
    → has_row id rows ≡ true
    → has_row id (fold with_default rows xs) ≡ true
defaults_keep id [] rows h = h
defaults_keep id (a ∷ xs) rows h = defaults_keep id xs (with_default rows a) (default_keeps id a rows h)

default_makes : (a : Rule) (v : Text) (rows : List Row)
    → a.defaults ≡ v ∷ []
    → has_row a.id (with_default rows a) ≡ true
default_makes a v rows is = go (has_row a.id rows) refl
  where
    go : (b : Bool) → has_row a.id rows ≡ b
        → has_row a.id (cond b rows (default_rows a.id (reading_by a) a.defaults rows)) ≡ true
    go true e = e
    go false e = rw is (has_new a.id (reading_by a) DefaultValue (v ∷ []) rows)

-- an argument with a default has a row
has_default : (before : List Rule) (a : Rule) (after : List Rule) (v : Text) (rows : List Row) → a.defaults ≡ v ∷ []
    → has_row a.id (fold with_default rows (before ++ a ∷ after)) ≡ true
has_default [] a after v rows is = defaults_keep a.id after (with_default rows a) (default_makes a v rows is)
has_default (x ∷ before) a after v rows is = has_default before a after v (with_default rows x) is

-- ---- what a row gives

row_found : (c : List Rule) (a : Rule) (rows : List Row)
    → Good c rows
    → arg_by_id c a.id ≡ Some a
    → has_row a.id rows ≡ true
    → (r : Row) × (find (λ x. bytes_eq x.id a.id) rows ≡ Some r) × IsGood a r
row_found c a [] g own h = absurd (true≢false (sym h))
row_found c a (r ∷ rs) g own h = go (bytes_eq r.id a.id) refl h (row_found c a rs g.1 own)
  where
    go : (b : Bool) → bytes_eq r.id a.id ≡ b → (b || has_row a.id rs) ≡ true
        → (has_row a.id rs ≡ true → (x : Row) × (find (λ y. bytes_eq y.id a.id) rs ≡ Some x) × IsGood a x)
        → (x : Row) × (cond b (Some r) (find (λ y. bytes_eq y.id a.id) rs) ≡ Some x) × IsGood a x
    go true e t rest = (r, refl, g.0 a (ap (arg_by_id c) ((bytes_eq-Decides r.id a.id).0 e) ∙ own))
    go false e t rest = rest t

accepted : (i : Bool) (p : ValueParser) (t : Text) → value_kinds i p t ≡ [] → accepts i p t ≡ true
accepted i p t h = go (accepts i p t) refl h
  where
    go : (b : Bool) → accepts i p t ≡ b → cond b [] (refused_kind p ∷ []) ≡ [] → b ≡ true
    go true e k = refl
    go false e k = absurd (some_kind _ refl k)

-- an option with bounds has a number within them
number_found : (c : List Rule) (a : Rule) (least most : ℕ) (rows : List Row)
    → Good c rows
    → arg_by_id c a.id ≡ Some a
    → has_row a.id rows ≡ true
    → a.parser ≡ Some (vp.Signed (pos least) (pos most)) → HasNumber rows a.id least most
number_found c a least most rows g own h parser =
    let found = row_found c a rows g own h in
    go found.0 found.1 found.2.reading found.0.values refl found.2.first
  where
    go : (r : Row) → find (λ x. bytes_eq x.id a.id) rows ≡ Some r → r.reading ≡ reading_by a → (values : List Text)
        → r.values ≡ values → FirstPasses a values
        → HasNumber rows a.id least most
    go r is how [] e none = absurd none
    go r is how (v ∷ vs) e first =
        let how_read : r.reading ≡ reading_of (vp.Signed (pos least) (pos most)) =
        how ∙ ap (λ (p : Option ValueParser). reading_of (parser_of_value p)) parser in
        let passes : value_kinds a.ignore_case (vp.Signed (pos least) (pos most)) v ≡ [] =
        subst (λ (p : Option ValueParser). value_kinds a.ignore_case (parser_of_value p) v ≡ []) parser first in (
          v,
          rw (is, e, how_read) refl,
          accepts-Accepts a.ignore_case (vp.Signed (pos least) (pos most)) v
              (accepted a.ignore_case (vp.Signed (pos least) (pos most)) v passes),
        )

no_row : (id : Text) (rows : List Row) → has_row id rows ≡ false → find (λ x. bytes_eq x.id id) rows ≡ None
no_row id [] h = refl
no_row id (r ∷ rs) h = go (bytes_eq r.id id) h (no_row id rs)
  where
    go : (b : Bool) → (b || has_row id rs) ≡ false → (has_row id rs ≡ false → find (λ x. bytes_eq x.id id) rs ≡ None)
        → cond b (Some r) (find (λ x. bytes_eq x.id id) rs) ≡ None
    go true e rest = absurd (true≢false e)
    go false e rest = rest e

-- an option with bounds that may be left out has a number within them, or none
may_be_found : (c : List Rule) (a : Rule) (least most : ℕ) (rows : List Row) → Good c rows → arg_by_id c a.id ≡ Some a
    → a.parser ≡ Some (vp.Signed (pos least) (pos most)) → MayHaveNumber rows a.id least most
may_be_found c a least most rows g own parser = go (has_row a.id rows) refl
  where
    go : (b : Bool) → has_row a.id rows ≡ b → MayHaveNumber rows a.id least most
    go true h = inr (number_found c a least most rows g own h parser)
    go false h = inl (rw (no_row a.id rows h) refl)

-- a text that is one of two is written by a truth
truth_of : (t : Text) (a b : Bool)
    → bytes_eq t (codes "true") ≡ a
    → bytes_eq t (codes "false") ≡ b
    → (a || b) ≡ true
    → (x : Bool) × (t ≡ bool_text x)
truth_of t true b is isnt h = (true, (bytes_eq-Decides t (codes "true")).0 is)
truth_of t false true isnt is h = (false, (bytes_eq-Decides t (codes "false")).0 is)
truth_of t false false isnt neither_is h = absurd (true≢false (sym h))

-- a flag that has a row has one of its values
flag_found : (c : List Rule) (a : Rule) (rows : List Row)
    → Good c rows
    → arg_by_id c a.id ≡ Some a
    → has_row a.id rows ≡ true
    → a.parser ≡ Some vp.Bool → HasFlag rows a.id
flag_found c a rows g own h parser =
    let found = row_found c a rows g own h in
    go found.0 found.1 found.2.reading found.0.values refl found.2.first
  where
    go : (r : Row) → find (λ x. bytes_eq x.id a.id) rows ≡ Some r → r.reading ≡ reading_by a → (values : List Text)
        → r.values ≡ values → FirstPasses a values
        → HasFlag rows a.id
    go r is how [] e none = absurd none
    go r is how (v ∷ vs) e first =
        let how_read : r.reading ≡ reading_of vp.Bool =
        how ∙ ap (λ (p : Option ValueParser). reading_of (parser_of_value p)) parser in
        let passes : value_kinds a.ignore_case vp.Bool v ≡ [] =
        subst (λ (p : Option ValueParser). value_kinds a.ignore_case (parser_of_value p) v ≡ []) parser first in
        let truth = truth_of v (bytes_eq v (codes "true")) (bytes_eq v (codes "false")) refl refl
        (accepted a.ignore_case vp.Bool v passes) in
        (truth.0, rw (is, e, how_read) (ap Some truth.1))

text_found : (c : List Rule) (a : Rule) (rows : List Row)
    → Good c rows
    → arg_by_id c a.id ≡ Some a
    → has_row a.id rows ≡ true
    → (v : Text) × (vs : List Text) × (all_of a.id rows ≡ Some (v ∷ vs)) × (first_of a.id rows ≡ Some v)
text_found c a rows g own h =
    let found = row_found c a rows g own h in
    go found.0 found.1 found.0.values refl found.2.first
  where
    go : (r : Row) → find (λ x. bytes_eq x.id a.id) rows ≡ Some r → (values : List Text) → r.values ≡ values
        → FirstPasses a values
        → (v : Text) × (vs : List Text) × (all_of a.id rows ≡ Some (v ∷ vs)) × (first_of a.id rows ≡ Some v)
    go r is [] e none = absurd none
    go r is (v ∷ vs) e first = (v, vs, rw (is, e) refl, rw (is, e) refl)

given_row : (id : Text) (rows : List Row) → is_given id rows ≡ true → has_row id rows ≡ true
given_row id [] h = h
given_row id (r ∷ rs) h = go (bytes_eq r.id id) h (given_row id rs)
  where
    go : (b : Bool)
        → option_map_or (λ x. explicit_source x.source) (cond b (Some r) (find (λ x. bytes_eq x.id id) rs)) false ≡ true
        → (is_given id rs ≡ true → has_row id rs ≡ true) → (b || has_row id rs) ≡ true
    go true e rest = refl
    go false e rest = rest e

-- ---- the subcommands as they are built

abbrev built_sub : Shape → Shape
built_sub s = built_leaf (inherited (with_leaf_noted (marked_built likes_app.top)) s)

abbrev run_built : Shape
run_built = built_sub run_command

abbrev run_rules : List Rule
run_rules = run_built.rules

abbrev run_rule_at : ℕ → Rule
run_rule_at i = slice_index_or run_rules i (new_rule [])

run_rules_fit : AllFit run_rules run_rules
run_rules_fit = (record { own = refl; some = refl }, (record { own = refl; some = refl }, (record { own = refl; some = refl }, (record { own = refl; some = refl }, (record { own = refl; some = refl }, (record { own = refl; some = tt }, (record { own = refl; some = tt }, (record { own = refl; some = tt }, (record { own = refl; some = tt }, (record { own = refl; some = refl }, (record { own = refl; some = refl }, (record { own = refl; some = tt }, tt))))))))))))

abbrev replay_built : Shape
replay_built = built_sub replay_command

abbrev replay_rules : List Rule
replay_rules = replay_built.rules

abbrev replay_rule_at : ℕ → Rule
replay_rule_at i = slice_index_or replay_rules i (new_rule [])

replay_rules_fit : AllFit replay_rules replay_rules
replay_rules_fit = (record { own = refl; some = refl }, (record { own = refl; some = refl }, (record { own = refl; some = refl }, (record { own = refl; some = refl }, (record { own = refl; some = refl }, (record { own = refl; some = tt }, (record { own = refl; some = tt }, (record { own = refl; some = tt }, (record { own = refl; some = tt }, (record { own = refl; some = refl }, (record { own = refl; some = refl }, (record { own = refl; some = refl }, (record { own = refl; some = tt }, tt)))))))))))))

-- a test of two that must both fail
both_given : (a b : Bool) → cond (not a || (not b || false)) (MissingRequiredArgument ∷ []) [] ≡ []
    → (a ≡ true) × (b ≡ true)
both_given true true h = (refl, refl)
both_given true false h = absurd (some_kind _ refl h)
both_given false b h = absurd (some_kind _ refl h)

run_found : (words : List Text)
    → level_fault run_built [] nothing_held words false [] ≡ []
    → HasAll (rows_after run_rules [] words)
run_found words none =
    let end = (walk run_rules [] nothing_held words).held in
    let a = neither _ _ none in
    let b = neither _ _ a.1 in
    let c = neither _ _ b.1 in
    let walked_good = good_walk run_built run_rules_fit [] words (walk_from nothing_held) tt a.0 in
    let settled_good = good_settled run_rules run_rules_fit run_built.args_override_self end walked_good b.0 in
    let start = (settled run_rules end).rows in
    let good = good_defaults run_rules run_rules start run_rules_fit settled_good c.0 in
    let rows = rows_after run_rules [] words in
    let given = both_given (is_given (codes "pages") rows) (is_given (codes "requests") rows) c.1 in
    let pages = text_found run_rules (run_rule_at 9) rows good refl (given_row _ rows given.0) in
    let requests = text_found run_rules (run_rule_at 10) rows good refl (given_row _ rows given.1) in
    record {
      workers = number_found run_rules (run_rule_at 0) 1 16 rows good refl
          (has_default [] (run_rule_at 0) (drop 1 run_rules) (codes "4") start refl) refl;
      users = number_found run_rules (run_rule_at 1) 1 1000000 rows good refl
          (has_default (take 1 run_rules) (run_rule_at 1) (drop 2 run_rules) (codes "1000") start refl) refl;
      stash = number_found run_rules (run_rule_at 2) 1 4096 rows good refl
          (has_default (take 2 run_rules) (run_rule_at 2) (drop 3 run_rules) (codes "256") start refl) refl;
      turns = number_found run_rules (run_rule_at 3) 0 1000000 rows good refl
          (has_default (take 3 run_rules) (run_rule_at 3) (drop 4 run_rules) (codes "1000") start refl) refl;
      hot = may_be_found run_rules (run_rule_at 4) 1 1000000 rows good refl refl;
      places = flag_found run_rules (run_rule_at 5) rows good refl
          (has_default (take 5 run_rules) (run_rule_at 5) (drop 6 run_rules) (codes "false") start refl) refl;
      totals = flag_found run_rules (run_rule_at 6) rows good refl
          (has_default (take 6 run_rules) (run_rule_at 6) (drop 7 run_rules) (codes "false") start refl) refl;
      summary = flag_found run_rules (run_rule_at 7) rows good refl
          (has_default (take 7 run_rules) (run_rule_at 7) (drop 8 run_rules) (codes "false") start refl) refl;
      progress = flag_found run_rules (run_rule_at 8) rows good refl
          (has_default (take 8 run_rules) (run_rule_at 8) (drop 9 run_rules) (codes "false") start refl) refl;
      pages = (pages.0, pages.3);
      requests = (requests.0 ∷ requests.1, requests.2, omega arith);
    }

replay_found : (words : List Text)
    → level_fault replay_built [] nothing_held words false [] ≡ []
    → HasAll (rows_after replay_rules [] words)
replay_found words none =
    let end = (walk replay_rules [] nothing_held words).held in
    let a = neither _ _ none in
    let b = neither _ _ a.1 in
    let c = neither _ _ b.1 in
    let walked_good = good_walk replay_built replay_rules_fit [] words (walk_from nothing_held) tt a.0 in
    let settled_good = good_settled replay_rules replay_rules_fit replay_built.args_override_self end walked_good b.0 in
    let start = (settled replay_rules end).rows in
    let good = good_defaults replay_rules replay_rules start replay_rules_fit settled_good c.0 in
    let rows = rows_after replay_rules [] words in
    let given = both_given (is_given (codes "pages") rows) (is_given (codes "requests") rows) c.1 in
    let pages = text_found replay_rules (replay_rule_at 10) rows good refl (given_row _ rows given.0) in
    let requests = text_found replay_rules (replay_rule_at 11) rows good refl (given_row _ rows given.1) in
    record {
      workers = number_found replay_rules (replay_rule_at 0) 1 16 rows good refl
          (has_default [] (replay_rule_at 0) (drop 1 replay_rules) (codes "4") start refl) refl;
      users = number_found replay_rules (replay_rule_at 1) 1 1000000 rows good refl
          (has_default (take 1 replay_rules) (replay_rule_at 1) (drop 2 replay_rules) (codes "1000") start refl) refl;
      stash = number_found replay_rules (replay_rule_at 2) 1 4096 rows good refl
          (has_default (take 2 replay_rules) (replay_rule_at 2) (drop 3 replay_rules) (codes "256") start refl) refl;
      turns = number_found replay_rules (replay_rule_at 3) 0 1000000 rows good refl
          (has_default (take 3 replay_rules) (replay_rule_at 3) (drop 4 replay_rules) (codes "1000") start refl) refl;
      hot = may_be_found replay_rules (replay_rule_at 4) 1 1000000 rows good refl refl;
      places = flag_found replay_rules (replay_rule_at 5) rows good refl
          (has_default (take 5 replay_rules) (replay_rule_at 5) (drop 6 replay_rules) (codes "false") start refl) refl;
      totals = flag_found replay_rules (replay_rule_at 6) rows good refl
          (has_default (take 6 replay_rules) (replay_rule_at 6) (drop 7 replay_rules) (codes "false") start refl) refl;
      summary = flag_found replay_rules (replay_rule_at 7) rows good refl
          (has_default (take 7 replay_rules) (replay_rule_at 7) (drop 8 replay_rules) (codes "false") start refl) refl;
      progress = flag_found replay_rules (replay_rule_at 8) rows good refl
          (has_default (take 8 replay_rules) (replay_rule_at 8) (drop 9 replay_rules) (codes "false") start refl) refl;
      pages = (pages.0, pages.3);
      requests = (requests.0 ∷ requests.1, requests.2, omega arith);
    }

-- ---- the words

found_one : (p : Text × List Text) → entered_fault (built likes_app) (Some p) ≡ []
    → is_some (entered (built likes_app) (Some p)) ≡ true
    → (rows : List Row) × IsEntered (entered (built likes_app) (Some p)) rows × HasAll rows
found_one p none has = go (answers_to p.0 (codes "run", [])) (answers_to p.0 (codes "replay", [])) none has
  where
    go : (b d : Bool)
        → option_map_or (λ s. level_fault s [] nothing_held p.1 false [])
        (cond b (Some run_built) (cond d (Some replay_built) None)) [] ≡ []
        → is_some (option_map (λ s. rows_at s p.1) (cond b (Some run_built) (cond d (Some replay_built) None))) ≡ true
        → (rows : List Row)
        × IsEntered (option_map (λ s. rows_at s p.1) (cond b (Some run_built) (cond d (Some replay_built) None)))
        rows × HasAll rows
    go true d e h = (rows_after run_rules [] p.1, inl refl, run_found p.1 e)
    go false true e h = (rows_after replay_rules [] p.1, inr refl, replay_found p.1 e)
    go false false e h = absurd (true≢false (sym h))

-- each step of a level that gives no kind gives none
level_parts : (s : Shape) (names : Names) (h : Held) (words : List Text) (has : Bool) (below : Kinds)
    → level_fault s names h words has below ≡ []
    → (below ≡ []) × (check_fault s (finished s.rules (walk s.rules names h words).held) has ≡ [])
level_parts s names h words has below none =
    let a = neither _ _ none in
    let b = neither _ _ a.1 in
    let c = neither _ _ b.1 in
    let d = neither _ _ c.1 in
    (b.0, d.1)

-- the program's own level: nothing fails below, and a subcommand was entered
top_level : (words : List Text) (has : Bool) (below : Kinds)
    → level_fault (built likes_app).top (names_of (built likes_app)) nothing_held words has below ≡ []
    → (below ≡ []) × (has ≡ true)
top_level words true below none =
    ((level_parts (built likes_app).top (names_of (built likes_app)) nothing_held words true below none).0, refl)
top_level words false below none =
    let parts = level_parts (built likes_app).top (names_of (built likes_app)) nothing_held words false below none in
    absurd (some_kind _ refl parts.1)

-- words with no fault enter a subcommand
pub enters : (words : List Text) → fault_of likes_app words ≡ []
    → (rows : List Row) × IsEntered (subcommand_of likes_app words) rows × HasAll rows
enters words none = go (stop_after (built likes_app).top.rules (names_of (built likes_app)) words) none
  where
    go : (stop : Option (Text × List Text))
        → level_fault (built likes_app).top (names_of (built likes_app)) nothing_held words
        (is_some (entered (built likes_app) stop)) (entered_fault (built likes_app) stop) ≡ []
        → (rows : List Row) × IsEntered (entered (built likes_app) stop) rows × HasAll rows
    go None e = absurd (true≢false (sym (top_level words false [] e).1))
    go (Some p) e =
        let parts = top_level words (is_some (entered (built likes_app) (Some p)))
        (entered_fault (built likes_app) (Some p)) e in
        found_one p parts.0 parts.1

-- ---- the matches of the subcommand

-- the rows that a parse entered are those that its subcommand has
pub same_rows : (m : ArgMatches) (inner : List Row) (rows : List Row)
    → IsEntered (subcommand_rows_of m) rows
    → option_map (λ (p : Text × List Row). p.1) (subcommand_rows_of m) ≡ Some inner
    → rows ≡ inner
same_rows m inner rows (inl e) has = same_Some rows inner (sym (ap (option_map (λ (p : Text × List Row). p.1)) e) ∙ has)
same_rows m inner rows (inr e) has = same_Some rows inner (sym (ap (option_map (λ (p : Text × List Row). p.1)) e) ∙ has)

-- what a subcommand gives is what the words ask for
pub asks : (words : List Text) (m : ArgMatches) (asked : Asked)
    → faults_of words ≡ []
    → subcommand_rows_of m ≡ entered_of words
    → MeansAsked (subcommand_rows_of m) asked
    → Asks words asked
asks words m (Run options) none same h = (none, subst (λ found. MeansAsked found (Run options)) same h)
asks words m (Replay options) none same h = (none, subst (λ found. MeansAsked found (Replay options)) same h)
asks words m (Help text) none same h = absurd h

-- ---- a parse

-- a parse that succeeds met no fault, and entered a subcommand with what it needs
pub parsed : (command : Command) (spelled words : List Text) (m : ArgMatches)
    → app_of command ≡ likes_app
    → (is_simple_and_free (app_of command) ≡ true → fault_of (app_of command) spelled ≡ [])
    → HasMatchesOf (app_of command) spelled m
    → spelled ≡ spelled_out words
    → (faults_of words ≡ []) × (subcommand_rows_of m ≡ entered_of words) × (rows : List Row)
    × IsEntered (subcommand_rows_of m) rows × HasAll rows
parsed command spelled words m same kinds matches spells =
    let none : faults_of words ≡ [] =
    subst (λ list. fault_of likes_app list ≡ []) spells
    (subst (λ (a : App). fault_of a spelled ≡ []) same (kinds (ap is_simple_and_free same))) in
    let found = enters (spelled_out words) none in
    let entered_is = (matches (ap is_simple same)).1 ∙ ap₂ subcommand_of same spells in
    (none, entered_is, found.0, subst (λ e. IsEntered e found.0) (sym entered_is) found.1, found.2)

-- the kinds of fault of a parse that fails
pub failed : (command : Command) (spelled words : List Text) (e : Error)
    → app_of command ≡ likes_app
    → (is_simple_and_free (app_of command) ≡ true → HasKind (fault_of (app_of command) spelled) e)
    → spelled ≡ spelled_out words
    → HasKind (faults_of words) e
failed command spelled words e same kinds spells =
    subst (λ list. HasKind (fault_of likes_app list) e) spells
    (subst (λ (a : App). HasKind (fault_of a spelled) e) same (kinds (ap is_simple_and_free same)))

pub when_ok : {T E : Type 0} (r : Result T E) (P : T → Type 0) (Q : E → Type 0) → MatchResult r P Q → IfOk r P
when_ok (Ok x) P Q h = h
when_ok (Err e) P Q h = tt

pub when_err : {T E : Type 0} (r : Result T E) (P : T → Type 0) (Q : E → Type 0) → MatchResult r P Q → IfErr r Q
when_err (Ok x) P Q h = tt
when_err (Err e) P Q h = h
