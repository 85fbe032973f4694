-- What clap's walk over the words keeps where no word is refused: each argument that was found has a first value that its parser accepts.
use Rattle.std.proofs.Common.{◌≡◌, ◌∙◌, ◌&&◌, ◌||◌, ◌==◌, ℕ, Bool, cond, true, false, zero, suc, refl, sym, ap, subst, arith, List, [], ◌∷◌, ◌++◌, length, drop, Option, Some, None, nat_lt, true≢false, is_some}
use Rattle.std.specs.Prelude.{encode_utf8, slice_get}
use Rattle.std.specs.List.{find, fold}
use Rattle.std.specs.Option.{option_map_or}
use Rattle.std.specs.Str.{bytes_eq, chars}
use Rattle.std.proofs.lemmas.Bool.{ne_eqb}
use Rattle.std.proofs.lemmas.Option.{none-some, same_Some}
use Rattle.clap.specs.Lexer.{long_of, short_of}
use Rattle.clap.specs.Facts.{parser_of_value, unwrap_or_range}
use Rattle.clap.specs.Kinds.{Kinds, or_else, range_kinds, request_kinds, value_kinds}
use Rattle.clap.specs.Faults.{action_fault, bundle_step_fault, bundle_fault, default_fault, defaults_fault, flag_word_fault, flags_fault, given_default_fault, long_fault, option_fault, other_fault, positional_fault, react_fault, settle_fault, short_fault, step_fault, stray_fault, turn_fault, use_fault, values_fault, walk_fault, word_fault}
use Rattle.clap.specs.Simple.{Shape}
use Rattle.clap.specs.Walk.{Held, Names, Outcome, Row, Rule, Step, Text, Waiting, Walk, action_of, after_flag, after_step, arg_by_id, arg_by_index, arg_by_long, arg_by_short, at_row, attached_value, bundle, bundle_met, bundle_step, default_rows, done, flag_met, has_row, idle, is_pending, long_met, long_or_other, more_values, most_values, next, option, option_met, option_word, plain, plain_word, positional, positional_held, reacted, reading_by, refused, settled, settled_rows, short_met, short_or_plain, subcommand, subcommand_met, subcommand_or_other, takes_several, takes_values, to_positional, trailing, used, used_as, used_by_id, value, values_or_missing, waits, walked, walked_from, with_default, with_values, without, word_met}
use Rattle.clap.specs.declared.builder.action.ArgAction.{ArgAction}
use Rattle.clap.specs.declared.builder.action.ArgAction.TheVariants as act
use Rattle.clap.specs.declared.error.kind.ErrorKind.TheVariants.{TooManyValues}
use Rattle.clap.specs.declared.parser.matches.ValueSource.{ValueSource}
use Rattle.clap.specs.declared.parser.matches.ValueSource.TheVariants.{DefaultValue}

-- ---- lists of kinds

abbrev pub has_kind : Kinds → Bool
has_kind [] = false
has_kind (k ∷ ks) = true

pub some_kind : (ks : Kinds) → has_kind ks ≡ true → ks ≡ [] → ⊥
some_kind ks h e = true≢false (sym h ∙ ap has_kind e)

-- neither of two steps gives a kind
pub neither : (a b : Kinds) → or_else a b ≡ [] → (a ≡ []) × (b ≡ [])
neither [] b h = (refl, h)
neither (k ∷ ks) b h = absurd (some_kind (k ∷ ks) refl h)

-- ---- what holds of each row

-- the first value passes the argument's parser
abbrev pub FirstPasses : Rule → List Text → Type 0
FirstPasses a [] = ⊥
FirstPasses a (v ∷ vs) = value_kinds a.ignore_case (parser_of_value a.parser) v ≡ []

-- the row is one of a use of the argument, or of its default
pub record IsGood (a : Rule) (r : Row) : Type 0 where
  pub first : FirstPasses a r.values
  pub reading : r.reading ≡ reading_by a

abbrev pub GoodRow : List Rule → Row → Type 0
GoodRow c r = (a : Rule) → arg_by_id c r.id ≡ Some a → IsGood a r

abbrev pub Good : List Rule → List Row → Type 0
Good c [] = Unit {0}
Good c (r ∷ rs) = GoodRow c r × Good c rs

-- some text is there
abbrev pub HasText : List Text → Type 0
HasText [] = ⊥
HasText (v ∷ vs) = Unit {0}

-- an argument that is used takes one value or more, or is a flag with a value of its own, or a request for help
abbrev pub TakesSome : ArgAction → Rule → Type 0
TakesSome act.Set a = nat_lt 0 (unwrap_or_range a.range).start_inclusive ≡ true
TakesSome act.Append a = nat_lt 0 (unwrap_or_range a.range).start_inclusive ≡ true
TakesSome act.SetTrue a = HasText a.missing
TakesSome act.Help a = Unit {0}
TakesSome _ a = ⊥

pub record Fits (c : List Rule) (a : Rule) : Type 0 where
  pub own : arg_by_id c a.id ≡ Some a
  pub some : TakesSome (action_of a) a

abbrev pub AllFit : List Rule → List Rule → Type 0
AllFit c [] = Unit {0}
AllFit c (a ∷ rest) = Fits c a × AllFit c rest

pub found_fits : (c xs : List Rule) (p : Rule → Bool) (a : Rule) → AllFit c xs → find p xs ≡ Some a → Fits c a
found_fits c [] p a all e = absurd (none-some a e)
found_fits c (x ∷ xs) p a all e = go (p x) (found_fits c xs p a all.1) e
  where
    go : (b : Bool) → (find p xs ≡ Some a → Fits c a) → cond b (Some x) (find p xs) ≡ Some a → Fits c a
    go true rest h = subst (Fits c) (same_Some x a h) all.0
    go false rest h = rest h

-- ---- rows that change

good_append : (c : List Rule) (xs ys : List Row) → Good c xs → Good c ys → Good c (xs ++ ys)
good_append c [] ys g h = h
good_append c (x ∷ xs) ys g h = (g.0, good_append c xs ys g.1 h)

good_at : (c : List Rule) (id : Text) (change : Row → List Row) (missing rows : List Row) → Good c rows
    → ((r : Row) → GoodRow c r → Good c (change r)) → Good c missing → Good c (at_row id change missing rows)
good_at c id change missing [] g changes m = m
good_at c id change missing (r ∷ rs) g changes m = go (bytes_eq r.id id) (good_at c id change missing rs g.1 changes m)
  where
    go : (b : Bool) → Good c (at_row id change missing rs)
        → Good c (cond b (change r ++ rs) (r ∷ at_row id change missing rs))
    go true rest = good_append c (change r) rs (changes r g.0) g.1
    go false rest = (g.0, rest)

good_without : (c : List Rule) (id : Text) (rows : List Row) → Good c rows → Good c (without id rows)
good_without c id rows g = good_at c id (λ _. []) [] rows g (λ r h. tt) tt

first_append : (a : Rule) (xs ys : List Text) → FirstPasses a xs → FirstPasses a (xs ++ ys)
first_append a [] ys h = absurd h
first_append a (x ∷ xs) ys h = h

-- more values of an argument that was used
good_more : (c : List Rule) (s : ValueSource) (values : List Text) (r : Row)
    → GoodRow c r
    → Good c (more_values s values r)
good_more c s values r g =
    ((λ a is. record { first = first_append a r.values values (g a is).first; reading = (g a is).reading }), tt)

-- values of an argument, where the first passes
good_values : (c : List Rule) (a : Rule) (s : ValueSource) (values : List Text) (rows : List Row)
    → arg_by_id c a.id ≡ Some a
    → FirstPasses a values
    → Good c rows
    → Good c (with_values a.id (reading_by a) s values rows)
good_values c a s values rows own first g =
    good_at c a.id (more_values s values)
    (record { id = a.id; values = values; count = None; source = Some s; reading = reading_by a } ∷ []) rows g
    (good_more c s values) (
      (λ b is. subst (λ x. IsGood x
          (record { id = a.id; values = values; count = None; source = Some s; reading = reading_by a }))
          (same_Some a b (sym own ∙ is)) (record { first = first; reading = refl })),
      tt,
    )

first_of_all : (a : Rule) (v : Text) (vs : List Text) → values_fault a (v ∷ vs) ≡ [] → FirstPasses a (v ∷ vs)
first_of_all a v vs h = (neither _ _ h).0

-- ---- a use of an argument

none_given : (least most : ℕ) → nat_lt 0 least ≡ true → range_kinds least most 0 ≡ [] → ⊥
none_given least most some h =
    let first : has_kind (range_kinds least most 0) ≡ true = rw some refl in
    some_kind (range_kinds least most 0) first h

good_used_as : (x : ArgAction) (again : Bool) (c : List Rule) (a : Rule) (values : List Text) (rows : List Row)
    → arg_by_id c a.id ≡ Some a
    → TakesSome x a
    → Good c rows
    → range_kinds (unwrap_or_range a.range).start_inclusive (most_values a) (length values) ≡ []
    → action_fault x again a (values_or_missing a values) rows ≡ []
    → Good c (used_as x a.id (reading_by a) (values_or_missing a values) rows)
good_used_as act.Set again c a [] rows own some g range none = absurd (none_given _ _ some range)
good_used_as act.Set again c a (v ∷ vs) rows own some g range none =
    good_values c a _ (v ∷ vs) (without a.id rows) own (first_of_all a v vs (neither _ _ none).1)
    (good_without c a.id rows g)
good_used_as act.Append again c a [] rows own some g range none = absurd (none_given _ _ some range)
good_used_as act.Append again c a (v ∷ vs) rows own some g range none =
    good_values c a _ (v ∷ vs) rows own (first_of_all a v vs none) g
good_used_as act.Help again c a values rows own some g range none = g
good_used_as act.SetTrue again c a values rows own some g range none =
    go (values_or_missing a values) (has_some values) none
  where
    has_some : (vs : List Text) → HasText (values_or_missing a vs)
    has_some [] = some
    has_some (v ∷ vs) = tt

    go : (vs : List Text) → HasText vs → action_fault act.SetTrue again a vs rows ≡ []
        → Good c (used_as act.SetTrue a.id (reading_by a) vs rows)
    go [] has fault = absurd has
    go (v ∷ vs) has fault =
        good_values c a _ (v ∷ vs) (without a.id rows) own (first_of_all a v vs (neither _ _ fault).1)
        (good_without c a.id rows g)
good_used_as act.SetFalse again c a values rows own some g range none = absurd some
good_used_as act.Count again c a values rows own some g range none = absurd some
good_used_as act.HelpShort again c a values rows own some g range none = absurd some
good_used_as act.HelpLong again c a values rows own some g range none = absurd some
good_used_as act.Version again c a values rows own some g range none = absurd some

module _ (c : List Rule) (all : AllFit c c) (again : Bool) where
  good_used : (a : Rule) (values : List Text) (rows : List Row) → Fits c a → Good c rows
      → use_fault again a values rows ≡ [] → Good c (used a values rows)
  good_used a values rows fits g none =
      let parts = neither _ _ none in
      good_used_as (action_of a) again c a values rows fits.own fits.some g parts.0 parts.1

  good_by_id : (p : Text × List Text) (rows : List Row) (o : Option Rule) → arg_by_id c p.0 ≡ o → Good c rows
      → option_map_or (λ a. use_fault again a p.1 rows) o [] ≡ [] → Good c (used_by_id o p.1 rows)
  good_by_id p rows None is g none = g
  good_by_id p rows (Some a) is g none = good_used a p.1 rows (found_fits c c (λ x. bytes_eq x.id p.0) a all is) g none

  good_settled_rows : (o : Option (Text × List Text)) (rows : List Row) → Good c rows
      → option_map_or (λ p. option_map_or (λ a. use_fault again a p.1 rows) (arg_by_id c p.0) []) o [] ≡ []
      → Good c (settled_rows c o rows)
  good_settled_rows None rows g none = g
  good_settled_rows (Some p) rows g none = good_by_id p rows (arg_by_id c p.0) refl g none

  pub good_settled : (h : Held) → Good c h.rows → settle_fault c again h ≡ [] → Good c (settled c h).rows
  good_settled h g none = good_settled_rows h.pending h.rows g none

  good_reacted : (a : Rule) (values : List Text) (h : Held) → Fits c a → Good c h.rows
      → react_fault c again a values h ≡ [] → Good c (reacted c a values h).rows
  good_reacted a values h fits g none =
      let parts = neither _ _ none in
      good_used a values (settled c h).rows fits (good_settled h g parts.0) parts.1

  good_option : (a : Rule) (v : Option Text) (h : Held) → Fits c a → Good c h.rows → option_fault c again a v h ≡ []
      → Good c (option_met c a v h).0.rows
  good_option a (Some v) h fits g none = good_reacted a (v ∷ []) h fits g none
  good_option a None h fits g none = good_settled h g none

  -- ---- flags

  good_long : (o : Option Rule) (v : Option Text) (h : Held) → ((a : Rule) → o ≡ Some a → Fits c a) → Good c h.rows
      → long_fault c again o v h ≡ []
      → Good c (long_met c o v h).0.rows
  good_long None v h fits g none = absurd (some_kind _ refl none)
  good_long (Some a) v h fits g none = go (takes_values a) v none
    where
      go : (b : Bool) (w : Option Text)
          → cond b (option_fault c again a w h) (cond (is_some w) (TooManyValues ∷ []) (react_fault c again a [] h))
          ≡ []
          → Good c (cond b (option_met c a w h) (flag_met c a w h)).0.rows
      go true w e = good_option a w h (fits a refl) g e
      go false (Some w) e = absurd (some_kind _ refl e)
      go false None e = good_reacted a [] h (fits a refl) g e

  good_short : (o : Option Rule) (rest : Text) (h : Held) (follow : Held → Held × Outcome) (fault : Held → Kinds)
      → ((a : Rule) → o ≡ Some a → Fits c a) → Good c h.rows
      → ((k : Held) → Good c k.rows → fault k ≡ [] → Good c (follow k).0.rows)
      → short_fault c again o rest h fault ≡ [] → Good c (short_met c o rest h follow).0.rows
  good_short None rest h follow fault fits g onward none = absurd (some_kind _ refl none)
  good_short (Some a) rest h follow fault fits g onward none = go (takes_values a) none
    where
      go : (b : Bool)
          → cond b (option_fault c again a (attached_value rest) h)
          (or_else (react_fault c again a [] h) (fault (reacted c a [] h))) ≡ []
          → Good c (cond b (option_met c a (attached_value rest) h) (follow (reacted c a [] h))).0.rows
      go true e = good_option a (attached_value rest) h (fits a refl) g e
      go false e =
          let parts = neither _ _ e in
          onward (reacted c a [] h) (good_reacted a [] h (fits a refl) g parts.0) parts.1

  good_bundle_step : (o : Option ℕ) (flags : Text) (skip : ℕ) (so_far : Outcome) (h : Held)
      (follow : Text → ℕ → Outcome → Held → Held × Outcome) (fault : Text → ℕ → Held → Kinds)
      → Good c h.rows
      → ((f : Text) (s : ℕ) (x : Outcome) (k : Held) → Good c k.rows → fault f s k ≡ []
      → Good c (follow f s x k).0.rows)
      → bundle_step_fault c again o flags skip h fault ≡ [] → Good c (bundle_step c o flags skip so_far h follow).0.rows
  good_bundle_step None flags skip so_far h follow fault g onward none = g
  good_bundle_step (Some x) flags zero so_far h follow fault g onward none =
      let rest = drop (length (encode_utf8 x)) flags in
      good_short (arg_by_short c x) rest h (follow rest 0 done) (fault rest 0) (λ a is. found_fits c c _ a all is) g
      (onward rest 0 done) none
  good_bundle_step (Some x) flags (suc skip) so_far h follow fault g onward none =
      onward (drop (length (encode_utf8 x)) flags) skip so_far h g none

  good_bundle : (k : ℕ) (flags : Text) (skip : ℕ) (so_far : Outcome) (h : Held) → Good c h.rows
      → flags_fault c again k flags skip h ≡ []
      → Good c (bundle_met c k flags skip so_far h).0.rows
  unfolding bundle_met flags_fault
  good_bundle zero flags skip so_far h g none = g
  good_bundle (suc k) flags skip so_far h g none =
      good_bundle_step (slice_get (chars flags) 0) flags skip so_far h (bundle_met c k) (flags_fault c again k) g
      (good_bundle k) none

  -- ---- words

  good_plain : (waiting : Waiting) (word : Text) (h : Held) → Good c h.rows
      → Good c (plain_word c waiting word h).0.rows
  good_plain idle word h g = g
  good_plain positional word h g = g
  good_plain (option id) word h g = go (arg_by_id c id)
    where
      go : (o : Option Rule) → Good c (option_word o id word h).0.rows
      go None = g
      go (Some a) = g

  good_after : (waiting : Waiting) (word : Text) (h : Held) (x : Outcome) → Good c h.rows
      → Good c (after_flag c waiting word h x).0.rows
  good_after waiting word h done g = g
  good_after waiting word h (waits id) g = g
  good_after waiting word h plain g = good_plain waiting word h g
  good_after waiting word h refused g = good_plain waiting word h g

  good_dashed : (waiting : Waiting) (word : Text) (o : Option Text) (h : Held) → Good c h.rows
      → option_map_or (λ flags. bundle_fault c again flags h) o [] ≡ []
      → Good c (short_or_plain c waiting word o h).0.rows
  good_dashed waiting word None h g none = good_plain waiting word h g
  good_dashed waiting word (Some flags) h g none =
      let met = bundle c flags h in
      good_after waiting word met.0 met.1 (good_bundle (length flags) flags h.skip plain (record h { skip = 0 }) g none)

  good_flag : (waiting : Waiting) (word : Text) (o : Option (Text × Option Text)) (h : Held) → Good c h.rows
      → flag_word_fault c again o word h ≡ [] → Good c (long_or_other c waiting word o h).0.rows
  good_flag waiting word None h g none = good_dashed waiting word (short_of word) h g none
  good_flag waiting word (Some p) h g none =
      let met = long_met c (arg_by_long c p.0) p.1 h in
      good_after waiting word met.0 met.1
      (good_long (arg_by_long c p.0) p.1 h (λ a is. found_fits c c _ a all is) g none)

-- ---- the walk over the words of a command

module _ (s : Shape) (all : AllFit s.rules s.rules) (names : Names) where
  good_other : (o : Option Text) (waiting : Waiting) (position : ℕ) (word : Text) (h : Held) → Good s.rules h.rows
      → other_fault s o word h ≡ [] → Good s.rules (subcommand_or_other s.rules o waiting position word h).0.rows
  good_other (Some name) waiting position word h g none = g
  good_other None waiting position word h g none = go (bytes_eq word (45 ∷ 45 ∷ [])) none
    where
      go : (b : Bool) → cond b [] (flag_word_fault s.rules s.args_override_self (long_of word) word h) ≡ []
          → Good s.rules (cond b (h, trailing position) (long_or_other s.rules waiting word (long_of word) h)).0.rows
      go true e = g
      go false e = good_flag s.rules all s.args_override_self waiting word (long_of word) h g e

  good_word : (is_trailing : Bool) (waiting : Waiting) (position : ℕ) (word : Text) (h : Held) → Good s.rules h.rows
      → word_fault s names is_trailing waiting word h ≡ []
      → Good s.rules (word_met s.rules names is_trailing waiting position word h).0.rows
  good_word true waiting position word h g none = g
  good_word false waiting position word h g none =
      good_other (subcommand_met names waiting word) waiting position word h g none

  good_positional : (a : Rule) (word : Text) (h : Held) → Good s.rules h.rows
      → positional_fault s.rules s.args_override_self a h ≡ []
      → Good s.rules (positional_held s.rules a word h).rows
  good_positional a word h g none = go (is_pending a h.pending && takes_several a) none
    where
      go : (b : Bool) → cond b [] (settle_fault s.rules s.args_override_self h) ≡ []
          → Good s.rules (cond b h (settled s.rules h)).rows
      go true e = g
      go false e = good_settled s.rules all s.args_override_self h g e

  good_value : (o : Option Rule) (word : Text) (w : Walk) (h : Held) → Good s.rules h.rows
      → option_map_or (λ a. positional_fault s.rules s.args_override_self a h) o (stray_fault s) ≡ []
      → Good s.rules (to_positional s.rules o word w h).held.rows
  good_value None word w h g none = g
  good_value (Some a) word w h g none = good_positional a word h g none

  good_step : (x : Step) (word : Text) (w : Walk) (h : Held) → Good s.rules h.rows → step_fault s w.position h x ≡ []
      → Good s.rules (after_step s.rules word w h x).held.rows
  good_step (next waiting) word w h g none = g
  good_step (trailing position) word w h g none = g
  good_step (subcommand name) word w h g none = g
  good_step value word w h g none = good_value (arg_by_index s.rules w.position) word w h g none

  good_turn : (o : Option (Text × List Text)) (w : Walk) (word : Text) → Good s.rules w.held.rows
      → (let met = word_met s.rules names w.is_trailing w.waiting w.position word w.held in
      cond (is_some o) []
      (or_else (word_fault s names w.is_trailing w.waiting word w.held) (step_fault s w.position met.0 met.1))) ≡ []
      → Good s.rules (walked_from s.rules names o w word).held.rows
  good_turn (Some p) w word g none = g
  good_turn None w word g none =
      let met = word_met s.rules names w.is_trailing w.waiting w.position word w.held in
      let parts = neither _ _ none in
      good_step met.1 word w met.0 (good_word w.is_trailing w.waiting w.position word w.held g parts.0) parts.1

  good_walked : (w : Walk) (word : Text) → Good s.rules w.held.rows → turn_fault s names w word ≡ []
      → Good s.rules (walked s.rules names w word).held.rows
  unfolding walked
  good_walked w word g none = good_turn w.stopped w word g none

  pub good_walk : (words : List Text) (w : Walk) → Good s.rules w.held.rows → walk_fault s names w words ≡ []
      → Good s.rules (fold (walked s.rules names) w words).held.rows
  unfolding walk_fault
  good_walk [] w g none = g
  good_walk (word ∷ words) w g none =
      let parts = neither _ _ none in
      good_walk words (walked s.rules names w word) (good_walked w word g parts.0) parts.1

-- ---- defaults

module _ (c : List Rule) where
  good_default_rows : (a : Rule) (values : List Text) (rows : List Row) → arg_by_id c a.id ≡ Some a → Good c rows
      → cond (length values == 0) [] (given_default_fault a values) ≡ []
      → Good c (default_rows a.id (reading_by a) values rows)
  good_default_rows a [] rows own g none = g
  good_default_rows a (v ∷ vs) rows own g none =
      let some : (length (v ∷ vs) == 0) ≡ false = ne_eqb (length (v ∷ vs)) 0 (λ e. omega (arith, e)) in
      let e : or_else (request_kinds (action_of a)) (values_fault a (v ∷ vs)) ≡ [] = rw some at none in
      good_values c a DefaultValue (v ∷ vs) rows own
      (first_of_all a v vs (neither (request_kinds (action_of a)) (values_fault a (v ∷ vs)) e).1) g

  good_default : (a : Rule) (rows : List Row) → Fits c a → Good c rows → default_fault rows a ≡ []
      → Good c (with_default rows a)
  good_default a rows fits g none = go (has_row a.id rows) none
    where
      go : (b : Bool) → cond (b || (length a.defaults == 0)) [] (given_default_fault a a.defaults) ≡ []
          → Good c (cond b rows (default_rows a.id (reading_by a) a.defaults rows))
      go true e = g
      go false e = good_default_rows a a.defaults rows fits.own g e

  pub good_defaults : (xs : List Rule) (rows : List Row) → AllFit c xs → Good c rows → defaults_fault rows xs ≡ []
      → Good c (fold with_default rows xs)
  unfolding defaults_fault
  good_defaults [] rows all g none = g
  good_defaults (a ∷ xs) rows all g none =
      let parts = neither _ _ none in
      good_defaults xs (with_default rows a) all.1 (good_default a rows all.0 g parts.0) parts.1
