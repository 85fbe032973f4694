-- Standard input among the names of files that are looked at one after the other.
use Rattle.std.proofs.Common.{◌≡◌, ◌∙◌, ◌+◌, ◌<◌, ◌||◌, ◌&&◌, ℕ, Bool, cond, true, false, refl, sym, ap, List, [], ◌∷◌, ◌++◌, length, get_or, map, take}
use Rattle.std.specs.List.{list_any}
use Rattle.std.specs.Prelude.{String, string_bytes}
use Rattle.std.specs.declared.alloc.Global.{Global}
use Rattle.std.proofs.Math.Bool.{or-false}
use Rattle.std.proofs.lemmas.List.{map-append, take_more}
use Rattle.std.proofs.lemmas.List.Folds.{list_any-append}
use Rattle.like_command.specs.declared.options.Options.{Options}
use Rattle.like_files.specs.StandardInput.{is_input, names_twice}

-- whether one of the names stands for standard input, with one more behind them
named-more : (xs : List (List ℕ)) (x : List ℕ)
    → list_any is_input (xs ++ x ∷ []) ≡ (list_any is_input xs || is_input x)
named-more xs x =
    list_any-append is_input xs (x ∷ []) ∙ ap (λ b. list_any is_input xs || b) (or-false (is_input x))

-- and whether two do
twice-more : (xs : List (List ℕ)) (x : List ℕ)
    → names_twice (xs ++ x ∷ []) ≡ (names_twice xs || (list_any is_input xs && is_input x))
twice-more [] x = go (is_input x)
  where
    go : (b : Bool) → cond b false false ≡ false
    go true = refl
    go false = refl
twice-more (y ∷ ys) x = go (is_input y) (twice-more ys x)
  where
    go : (b : Bool) → names_twice (ys ++ x ∷ []) ≡ (names_twice ys || (list_any is_input ys && is_input x))
        → cond b (list_any is_input (ys ++ x ∷ [])) (names_twice (ys ++ x ∷ []))
        ≡ (cond b (list_any is_input ys) (names_twice ys) || ((b || list_any is_input ys) && is_input x))
    go true rest = named-more ys x
    go false rest = rest

-- the names of the pages file and of the request files before one
abbrev pub names_before : Options → ℕ → List (List ℕ)
names_before options i = string_bytes options.pages ∷ map string_bytes (take i options.requests.items)

-- what is known of these names
pub record Looked (names : List (List ℕ)) (is_named is_twice : Bool) : Type 0 where
  pub named : is_named ≡ list_any is_input names
  pub twice : is_twice ≡ names_twice names

-- one more name
pub looked-more : (names : List (List ℕ)) (is_named is_twice : Bool) (name : List ℕ)
    → Looked names is_named is_twice
    → Looked (names ++ name ∷ []) (is_named || is_input name) (is_twice || (is_named && is_input name))
looked-more names is_named is_twice name known = record {
  named = rw known.named (sym (named-more names name));
  twice = rw (known.named, known.twice) (sym (twice-more names name));
}

-- the names before the next file
pub next-before : (options : Options) (i : ℕ) (name : String Global) → i < length options.requests.items
    → name ≡ get_or options.requests.items i name
    → names_before options (i + 1) ≡ names_before options i ++ string_bytes name ∷ []
next-before options i name there is =
    ap (λ (xs : List (String Global)). string_bytes options.pages ∷ map string_bytes xs)
    (take_more options.requests.items i name there
    ∙ ap (λ (n : String Global). take i options.requests.items ++ n ∷ []) (sym is))
    ∙ ap (λ (xs : List (List ℕ)). string_bytes options.pages ∷ xs)
    (map-append string_bytes (take i options.requests.items) (name ∷ []))
