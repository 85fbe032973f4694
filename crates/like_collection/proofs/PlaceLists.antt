-- The places of additions, one addition and one log more.
use Rattle.std.proofs.Common.{◌≡◌, ℕ, zero, suc, Vec, Global, ◌<◌, ◌==◌, nat_lt, Bool, true, false, not, ◌&&◌, cond, inl, inr, List, [], ◌∷◌, ◌++◌, length, map, get_or, set, refl, ap, sym, ◌∙◌, subst, eq-eqb, arith, append-nil, zero-add}
use Rattle.std.proofs.lemmas.Bool.{cases_eq, cases_lt, ne_eqb, lt-ltb, le-ltb}
use Rattle.std.proofs.lemmas.Grind.{flat_map-append}
use Rattle.std.proofs.lemmas.List.{map-append, get_or-set_same, get_or-set_other}
use Rattle.std.proofs.lemmas.List.Elements.{filter-append}
use Rattle.std.specs.List.Sorted.{IsNonDecreasingBy, IsStableByKey, ties}
use Rattle.std.specs.Ordering.{is_lt, nat_cmp}
use Rattle.std.specs.declared.cmp.Ordering.TheVariants.{Less, Equal, Greater}
use Rattle.std.specs.List.{enumerate_from, filter, flat_map}
use Rattle.like_promises.specs.declared.log.Added.{Added}
use Rattle.like_promises.specs.declared.log.WorkerLog.{WorkerLog}
use Rattle.like_promises.specs.declared.place.Place.{Place}
use Rattle.like_promises.specs.places.Places.{AreByOld, lists_in, places_of, places_in}
use Rattle.like_collection.proofs.Lists.{enumerate_from-append}

-- the place of a worker's addition
abbrev pub place_made : ℕ → Added → Place
place_made worker a = record { worker = worker; phase = a.phase; old = a.old; n = a.n }

-- the place of an addition, where it is to the page
abbrev pub place_if : ℕ → ℕ → Added → List Place
place_if page worker a = cond (a.page == page) (place_made worker a ∷ []) []

-- one addition more
pub places_of-push : (page worker : ℕ) (adds : List Added) (a : Added)
    → places_of page worker (adds ++ a ∷ []) ≡ places_of page worker adds ++ place_if page worker a
places_of-push page worker adds a =
    ap (map (place_made worker)) (filter-append (λ (b : Added). b.page == page) adds (a ∷ [])) ∙ map_of (a.page == page)
  where
    map_of : (b : Bool)
        → map (place_made worker) (filter (λ (x : Added). x.page == page) adds ++ cond b (a ∷ []) [])
        ≡ places_of page worker adds ++ cond b (place_made worker a ∷ []) []
    map_of true = map-append (place_made worker) (filter (λ (x : Added). x.page == page) adds) (a ∷ [])
    map_of false = map-append (place_made worker) (filter (λ (x : Added). x.page == page) adds) []

-- its place is put behind those of its page
pub put-place : (rows : List (List Place)) (page worker : ℕ) (a : Added)
    → a.page < length rows
    → get_or (set rows a.page (get_or rows a.page [] ++ place_made worker a ∷ [])) page []
    ≡ get_or rows page [] ++ place_if page worker a
put-place rows page worker a there = elim (cases_eq a.page page) [
  | inl same ↦
      let put : List Place = get_or rows a.page [] ++ place_made worker a ∷ [] in
      let here : get_or (set rows a.page put) page [] ≡ get_or rows page [] ++ place_made worker a ∷ [] =
      subst (λ (p : ℕ). get_or (set rows a.page put) p [] ≡ get_or rows p [] ++ place_made worker a ∷ []) same
      (get_or-set_same rows a.page put [] there)
      in
      here ∙ sym (ap (λ (b : Bool). get_or rows page [] ++ cond b (place_made worker a ∷ []) [])
      (eq-eqb a.page page same))
  | inr other ↦
      let put : List Place = get_or rows a.page [] ++ place_made worker a ∷ [] in
      get_or-set_other rows a.page page put [] (λ same. other (sym same))
      ∙ (sym (append-nil (get_or rows page []))
      ∙ sym (ap (λ (b : Bool). get_or rows page [] ++ cond b (place_made worker a ∷ []) []) (ne_eqb a.page page other)))
]

-- the places of one more log
pub places_in-push : (page : ℕ) (logs : List WorkerLog) (log : WorkerLog)
    → places_in page (logs ++ log ∷ []) ≡ places_in page logs ++ places_of page (length logs) log.adds.items
places_in-push page logs log =
    let e : enumerate_from 0 (logs ++ log ∷ []) ≡ enumerate_from 0 logs ++ (length logs, log) ∷ [] =
    simp (enumerate_from-append, zero-add) in
    ap (flat_map (λ p. places_of page p.0 p.1.adds.items)) e
    ∙ flat_map-append (λ p. places_of page p.0 p.1.adds.items) (enumerate_from 0 logs) ((length logs, log) ∷ [])
    ∙ ap (λ r. places_in page logs ++ r) (append-nil (places_of page (length logs) log.adds.items))

-- a stable sort by the count before, in other words
pub by_old : (made placed : List Place)
    → IsNonDecreasingBy (λ p. p.old) placed
    → IsStableByKey (λ p. p.old) nat_cmp made placed
    → AreByOld made placed
by_old made placed rising stable = record {
  rising = rising;
  same = λ old.
      let p : Place = record { worker = 0; phase = 0; old = old; n = 0 } in
      let test : (q : Place) → ties (λ (x y : Place). is_lt (nat_cmp x.old y.old)) p q ≡ (q.old == old) =
      λ q. tie_is old q.old in
      let same_filter : (qs : List Place)
      → filter (λ (q : Place). q.old == old) qs
      ≡ filter (ties (λ (x y : Place). is_lt (nat_cmp x.old y.old)) p) qs =
      λ qs. ap (λ (t : Place → Bool). filter t qs) (λ m q. sym (test q) m)
      in
      same_filter placed ∙ (stable p ∙ sym (same_filter made));
}
  where
    less_is : (x y : ℕ) → is_lt (nat_cmp x y) ≡ nat_lt x y
    less_is x y = by_tests (nat_lt x y) (x == y)
      where
        by_tests : (a b : Bool) → is_lt (cond a Less (cond b Equal Greater)) ≡ a
        by_tests true b = refl
        by_tests false true = refl
        by_tests false false = refl

    tie_is : (old k : ℕ) → (not (is_lt (nat_cmp old k)) && not (is_lt (nat_cmp k old))) ≡ (k == old)
    tie_is old k =
        (λ m. not (less_is old k m) && not (less_is k old m)) ∙
        elim (cases_lt old k) [
          | inl less ↦ (λ m. not (lt-ltb old k less m) && not (nat_lt k old))
              ∙ sym (ne_eqb k old (λ same. absurd (omega arith)))
          | inr past ↦ elim (cases_lt k old) [
            | inl more ↦ (λ m. not (le-ltb old k past m) && not (lt-ltb k old more m))
                ∙ sym (ne_eqb k old (λ same. absurd (omega arith)))
            | inr both ↦ (λ m. not (le-ltb old k past m) && not (le-ltb k old both m))
                ∙ sym (eq-eqb k old (omega arith))
          ]
        ]

-- the vector of a page is replaced
pub lists_set : (rows : List (Vec Place Global)) (page : ℕ) (row : Vec Place Global)
    → lists_in (set rows page row) ≡ set (lists_in rows) page row.items
lists_set [] page row = refl
lists_set (r ∷ rows) zero row = refl
lists_set (r ∷ rows) (suc page) row = ap (λ (ls : List (List Place)). r.items ∷ ls) (lists_set rows page row)

-- the places of a page are those of its vector
pub lists_get : (rows : List (Vec Place Global)) (page : ℕ) (row : Vec Place Global)
    → page < length rows
    → get_or (lists_in rows) page [] ≡ (get_or rows page row).items
lists_get [] page row there = absurd (omega arith)
lists_get (r ∷ rows) zero row there = refl
lists_get (r ∷ rows) (suc page) row there = lists_get rows page row (omega arith)
