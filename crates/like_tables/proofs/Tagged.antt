-- What the numbers in the buckets make: the table of split pages.
use Rattle.std.proofs.Common.{◌≡◌, ◌≢◌, ℕ, ◌+◌, ◌*◌, ◌/◌, ◌%◌, ◌^◌, ◌<◌, ◌≤◌, Bool, true, false, cond, eqb, List, length, get_or, set, map, replicate, Option, Some, None, inl, inr, refl, sym, ap, ◌∙◌, arith, length-set, get_or-set_same, get_or-set_other}
use Rattle.std.specs.List.{range_with_len}
use Rattle.std.proofs.lemmas.Bool.{cases_lt, cases_eq, eqb-true, eqb-false, eq-eqb, ne_eqb}
use Rattle.std.proofs.lemmas.List.{get_or_past, get_or-replicate, length-replicate, same_lists}
use Rattle.std.proofs.lemmas.List.FromFn.{get_or-map-range_with_len, length-map-range_with_len}
use Rattle.std.proofs.lemmas.Nat.Bits.{bit_at-zero}
use Rattle.std.specs.Int.{bit_at}
use Rattle.like_limits.specs.Buckets.{bucket, buckets}
use Rattle.like_tables.specs.PageSet.{HasNone, IsNextIn, SetsBit, bit_of}
use Rattle.like_tables.specs.SplitPages.{AreSplitPages, HoldNone, IsNextSplit, SplitPages, is_page, is_split, none_split, page_in, with_page}
use Rattle.like_tables.specs.Tags.{AreTags, empty_tag, is_taken, page_at, table_by}

-- a page's bucket is there
pub bucket-lt : (factor page : ℕ) → bucket factor page < buckets
bucket-lt factor page = omega arith

-- what a bucket of the table holds
pub page_in-table_by : (factor : ℕ) (tags : List ℕ) (b : ℕ) → b < length tags
    → page_in (table_by factor tags) b ≡ page_at factor tags b
page_in-table_by factor tags b there =
    get_or-map-range_with_len (page_at factor tags) 0 (length tags) b b None there (omega arith)

pub page_in-past : (factor : ℕ) (tags : List ℕ) (b : ℕ) → length tags ≤ b → page_in (table_by factor tags) b ≡ None
page_in-past factor tags b past =
    get_or_past _ b None (omega (arith, length-map-range_with_len (page_at factor tags) 0 (length tags)))

pub page_at-taken : (factor : ℕ) (tags : List ℕ) (b : ℕ) → is_taken factor tags b ≡ true
    → page_at factor tags b ≡ Some (get_or tags b 0)
page_at-taken factor tags b e = ap (λ t. cond t (Some (get_or tags b 0)) None) e

pub page_at-empty : (factor : ℕ) (tags : List ℕ) (b : ℕ) → is_taken factor tags b ≡ false
    → ◌≡◌ {A = Option ℕ} (page_at factor tags b) None
page_at-empty factor tags b e = ap (λ t. cond t (Some (get_or tags b 0)) None) e

-- a page that a bucket holds belongs there
page_at-own : (factor : ℕ) (tags : List ℕ) (b page : ℕ) → page_at factor tags b ≡ Some page → bucket factor page ≡ b
page_at-own factor tags b page is = go (is_taken factor tags b) refl
  where
    go : (t : Bool) → is_taken factor tags b ≡ t → bucket factor page ≡ b
    go true e =
        let same : get_or tags b 0 ≡ page = cc (page_at-taken factor tags b e, is) in
        ap (bucket factor) (sym same) ∙ eqb-true _ b e
    go false e = absurd (cc (page_at-empty factor tags b e, is))

pub AreSplitPages-table_by : (factor : ℕ) (tags used : List ℕ) → AreTags factor tags used
    → AreSplitPages (table_by factor tags)
AreSplitPages-table_by factor tags used t = record {
  factor = t.below;
  all = length-map-range_with_len (page_at factor tags) 0 (length tags) ∙ t.all;
  own = λ b page is. elim (cases_lt b (length tags)) [
    | inl there ↦ page_at-own factor tags b page (sym (page_in-table_by factor tags b there) ∙ is)
    | inr past ↦ absurd (cc (page_in-past factor tags b past, is))
  ];
}

-- a page is split exactly if the number in its bucket is the page
pub is_split-table_by : (factor : ℕ) (tags : List ℕ) (page : ℕ) → length tags ≡ buckets
    → eqb (get_or tags (bucket factor page) 0) page ≡ is_split (table_by factor tags) page
is_split-table_by factor tags page all =
    go (is_taken factor tags (bucket factor page)) refl
    ∙ ap (is_page page) (sym (page_in-table_by factor tags (bucket factor page) (omega (arith, bucket-lt factor page))))
  where
    go : (t : Bool) → is_taken factor tags (bucket factor page) ≡ t
        → eqb (get_or tags (bucket factor page) 0) page ≡ is_page page (page_at factor tags (bucket factor page))
    go true e = ap (is_page page) (sym (page_at-taken factor tags (bucket factor page) e))
    go false e =
        let b = bucket factor page in
        ne_eqb (get_or tags b 0) page (λ same. eqb-false _ b e (ap (bucket factor) same))
        ∙ ap (is_page page) (sym (page_at-empty factor tags b e))

-- two tables by a factor are one where their pages are
same_table : (factor : ℕ) (pages pages' : List (Option ℕ)) → pages ≡ pages'
    → ◌≡◌ {A = SplitPages} (record { factor = factor; pages = pages }) (record { factor = factor; pages = pages' })
same_table factor pages pages' e = λ i. record { factor = factor; pages = e i }

-- a bucket that isn't written holds what it held
page_at-set_other : (factor : ℕ) (tags : List ℕ) (b k v : ℕ) → k ≢ b → page_at factor (set tags b v) k ≡ page_at factor tags k
page_at-set_other factor tags b k v apart =
    ap (λ t. cond (eqb (bucket factor t) k) (Some t) None) (get_or-set_other tags b k v 0 apart)

-- a page that is written into its bucket is there
page_at-set_same : (factor : ℕ) (tags : List ℕ) (page : ℕ) → bucket factor page < length tags
    → page_at factor (set tags (bucket factor page) page) (bucket factor page) ≡ Some page
page_at-set_same factor tags page there =
    let b = bucket factor page in
    ap (λ t. cond (eqb (bucket factor t) b) (Some t) None) (get_or-set_same tags b page 0 there)
    ∙ ap (λ t. cond t (Some page) None) (eq-eqb b b refl)

-- what each bucket holds after a page was written into its own
page_at-put : (factor : ℕ) (tags : List ℕ) (page k : ℕ) (d : Option ℕ) → bucket factor page < length tags
    → k < length tags
    → page_at factor (set tags (bucket factor page) page) k
    ≡ get_or (set (map (page_at factor tags) (range_with_len 0 (length tags))) (bucket factor page) (Some page)) k d
page_at-put factor tags page k d there less =
    let b = bucket factor page in
    let old : List (Option ℕ) = map (page_at factor tags) (range_with_len 0 (length tags)) in
    let long : length old ≡ length tags = length-map-range_with_len (page_at factor tags) 0 (length tags) in
    elim (cases_eq k b) [
      | inl e ↦
          ap (page_at factor (set tags b page)) e ∙ page_at-set_same factor tags page there
          ∙ sym (get_or-set_same old b (Some page) d (omega arith))
          ∙ ap (λ j. get_or (set old b (Some page)) j d) (sym e)
      | inr apart ↦
          page_at-set_other factor tags b k page apart
          ∙ sym (get_or-map-range_with_len (page_at factor tags) 0 (length tags) k k d less (omega arith))
          ∙ sym (get_or-set_other old b k (Some page) d apart)
    ]

-- the table after a page was written into its bucket
pub table_by-put : (factor : ℕ) (tags : List ℕ) (page : ℕ) → bucket factor page < length tags
    → table_by factor (set tags (bucket factor page) page) ≡ with_page (table_by factor tags) page
table_by-put factor tags page there =
    let b = bucket factor page in
    let new : List ℕ = set tags b page in
    let old : List (Option ℕ) = map (page_at factor tags) (range_with_len 0 (length tags)) in
    let now : List (Option ℕ) = map (page_at factor new) (range_with_len 0 (length new)) in
    let same : length new ≡ length tags = length-set tags b page in
    let had : length old ≡ length tags = length-map-range_with_len (page_at factor tags) 0 (length tags) in
    let has : length now ≡ length new = length-map-range_with_len (page_at factor new) 0 (length new) in
    same_table factor now (set old b (Some page))
    (same_lists now (set old b (Some page)) (has ∙ same ∙ sym had ∙ sym (length-set old b (Some page)))
    (λ k d less. get_or-map-range_with_len (page_at factor new) 0 (length new) k k d (omega arith) (omega arith)
    ∙ page_at-put factor tags page k d there (omega arith)))

-- where no bucket holds a page, none is split
pub table_by-none : (factor : ℕ) (tags : List ℕ) → length tags ≡ buckets
    → ((b : ℕ) → b < buckets → is_taken factor tags b ≡ false) → table_by factor tags ≡ none_split factor
table_by-none factor tags all none =
    let nobody : List (Option ℕ) = replicate buckets None in
    let long : length (map (page_at factor tags) (range_with_len 0 (length tags))) ≡ length tags =
    length-map-range_with_len (page_at factor tags) 0 (length tags) in
    same_table factor _ nobody (same_lists _ nobody (long ∙ all ∙ sym (length-replicate {A = Option ℕ} buckets None))
    (λ k d less. get_or-map-range_with_len (page_at factor tags) 0 (length tags) k k d (omega arith) (omega arith)
    ∙ page_at-empty factor tags k (none k (omega arith)) ∙ sym (get_or-replicate buckets k None d (omega arith))))

-- by its factor, the number of an empty bucket belongs into another one
pub untaken-empty : (factor : ℕ) (tags : List ℕ) (b : ℕ) → 2 ^ 22 ≤ factor → factor < 2 ^ 32
    → get_or tags b 0 ≡ empty_tag b → is_taken factor tags b ≡ false
untaken-empty factor tags b least below is =
    ne_eqb _ b (λ same. elim (cases_eq b 0) [
      | inl first ↦
          let one : get_or tags b 0 ≡ 1 = is ∙ ap (λ t. cond t 1 0) (eq-eqb b 0 first) in
          let at : bucket factor 1 ≡ 0 = ap (bucket factor) (sym one) ∙ same ∙ first in absurd (omega arith)
      | inr later ↦
          let none : get_or tags b 0 ≡ 0 = is ∙ ap (λ t. cond t 1 0) (ne_eqb b 0 later) in
          let at : bucket factor 0 ≡ b = ap (bucket factor) (sym none) ∙ same in
          later (omega arith)
    ])

-- a bucket in a set has a word there
pub inside-lt : (used : List ℕ) (b : ℕ) → bit_of used b ≡ 1 → b < 64 * length used
inside-lt used b inside =
    elim (cases_lt b (64 * length used)) [
      | inl within ↦ within
      | inr past ↦
          let none = ap (λ w. bit_at w (b % 64)) (get_or_past used (b / 64) 0 (omega arith)) ∙ bit_at-zero (b % 64) in
          absurd (omega (arith, none))
    ]

-- a number is written into a bucket, which is in the set where the number is a page that belongs there
pub AreTags-set : (factor : ℕ) (tags used used' : List ℕ) (b v bit : ℕ) → AreTags factor tags used → b < buckets
    → SetsBit b bit used used' → bit ≡ cond (eqb (bucket factor v) b) 1 0 → AreTags factor (set tags b v) used'
AreTags-set factor tags used used' b v bit t there sets is = record {
  least = t.least;
  below = t.below;
  all = length-set tags b v ∙ t.all;
  room = ap (λ n. 64 * n) sets.len ∙ t.room;
  taken = λ k less. elim (cases_eq k b) [
    | inl e ↦
        let same = get_or-set_same tags b v 0 (omega (arith, t.all)) in
        ap (bit_of used') e ∙ sets.here ∙ is ∙ ap (λ (w : ℕ). cond (eqb (bucket factor w) b) 1 0) (sym same)
        ∙ ap (λ (j : ℕ). cond (is_taken factor (set tags b v) j) 1 0) (sym e)
    | inr apart ↦
        sets.others k apart ∙ t.taken k less
        ∙ ap (λ (w : ℕ). cond (eqb (bucket factor w) k) 1 0) (sym (get_or-set_other tags b k v 0 apart))
  ];
}

-- no bucket below one holds a page
abbrev pub AreEmpty : ℕ → List ℕ → ℕ → Type 0
AreEmpty factor tags n = (b : ℕ) → b < n → is_taken factor tags b ≡ false

-- a bucket that is not in the set is empty
untaken : (factor : ℕ) (tags used : List ℕ) (b : ℕ) → AreTags factor tags used → b < buckets → bit_of used b ≡ 0
    → is_taken factor tags b ≡ false
untaken factor tags used b t less none = go (is_taken factor tags b) refl
  where
    go : (x : Bool) → is_taken factor tags b ≡ x → is_taken factor tags b ≡ false
    go true e = absurd (omega (arith, t.taken b less ∙ ap (λ (x : Bool). cond x 1 0) e))
    go false e = e

taken : (factor : ℕ) (tags used : List ℕ) (b : ℕ) → AreTags factor tags used → b < buckets → bit_of used b ≡ 1
    → is_taken factor tags b ≡ true
taken factor tags used b t less inside = go (is_taken factor tags b) refl
  where
    go : (x : Bool) → is_taken factor tags b ≡ x → is_taken factor tags b ≡ true
    go true e = e
    go false e = absurd (omega (arith, t.taken b less ∙ ap (λ (x : Bool). cond x 1 0) e))

-- the next bucket in the set is emptied
pub AreEmpty-next : (factor : ℕ) (tags used : List ℕ) (from b : ℕ) → AreTags factor tags used
    → AreEmpty factor tags from → IsNextIn used from b → AreEmpty factor (set tags b (empty_tag b)) (b + 1)
AreEmpty-next factor tags used from b t none next k less =
    let there : b < buckets = omega (arith, inside-lt used b next.inside, t.room) in
    elim (cases_eq k b) [
      | inl e ↦
          let same = get_or-set_same tags b (empty_tag b) 0 (omega (arith, t.all)) in
          ap (is_taken factor (set tags b (empty_tag b))) e
          ∙ untaken-empty factor (set tags b (empty_tag b)) b t.least t.below same
      | inr apart ↦
          ap (λ w. eqb (bucket factor w) k) (get_or-set_other tags b k (empty_tag b) 0 apart)
          ∙ elim (cases_lt k from) [
            | inl before ↦ none k before
            | inr after ↦ untaken factor tags used k t (omega arith) (next.least k after (omega arith))
          ]
    ]

-- an emptied bucket is in no set
pub AreTags-emptied : (factor : ℕ) (tags used used' : List ℕ) (b : ℕ) → AreTags factor tags used → b < buckets
    → SetsBit b 0 used used' → AreTags factor (set tags b (empty_tag b)) used'
AreTags-emptied factor tags used used' b t there sets =
    let same = get_or-set_same tags b (empty_tag b) 0 (omega (arith, t.all)) in
    let empty = untaken-empty factor (set tags b (empty_tag b)) b t.least t.below same in
    AreTags-set factor tags used used' b (empty_tag b) 0 t there sets
    (sym (ap (λ x. cond x 1 0) (ap (λ w. eqb (bucket factor w) b) (sym same) ∙ empty)))

-- where no bucket is left in the set, no page is split
pub table_by-cleared : (factor : ℕ) (tags used : List ℕ) (from : ℕ) → AreTags factor tags used
    → AreEmpty factor tags from → HasNone used from (64 * length used) → table_by factor tags ≡ none_split factor
table_by-cleared factor tags used from t none rest =
    table_by-none factor tags t.all
    (λ b less. elim (cases_lt b from) [
      | inl before ↦ none b before
      | inr after ↦ untaken factor tags used b t less (rest b after (omega (arith, t.room)))
    ])

-- the page in the next bucket of the set
pub IsNextSplit-found : (factor : ℕ) (tags used : List ℕ) (from b page : ℕ) → AreTags factor tags used
    → IsNextIn used from b → page ≡ get_or tags b 0 → IsNextSplit (table_by factor tags) from page
IsNextSplit-found factor tags used from b page t next is =
    let there : b < buckets = omega (arith, inside-lt used b next.inside, t.room) in
    let own : bucket factor page ≡ b = ap (bucket factor) is ∙ eqb-true _ b (taken factor tags used b t there next.inside) in
    let holds : page_in (table_by factor tags) b ≡ Some page =
    page_in-table_by factor tags b (omega (arith, t.all))
    ∙ page_at-taken factor tags b (taken factor tags used b t there next.inside) ∙ ap (λ n. Some n) (sym is) in
    record {
      after = omega (arith, own, next.after);
      split = ap (λ k. is_page page (page_in (table_by factor tags) k)) own ∙ ap (is_page page) holds
          ∙ eq-eqb page page refl;
      first = λ k after before.
          page_in-table_by factor tags k (omega (arith, t.all, own))
          ∙ page_at-empty factor tags k
          (untaken factor tags used k t (omega (arith, own)) (next.least k after (omega (arith, own))));
    }

-- no bucket of the set is left
pub HoldNone-rest : (factor : ℕ) (tags used : List ℕ) (from : ℕ) → AreTags factor tags used
    → HasNone used from (64 * length used) → HoldNone (table_by factor tags) from buckets
HoldNone-rest factor tags used from t none b after before =
    page_in-table_by factor tags b (omega (arith, t.all))
    ∙ page_at-empty factor tags b (untaken factor tags used b t before (none b after (omega (arith, t.room))))
