-- What the ranks of a worker's users make: its table.
use Rattle.std.proofs.Common.{◌≡◌, ◌≢◌, ℕ, ◌<◌, ◌≤◌, ◌&&◌, Bool, true, false, cond, List, [], length, get_or, set, map, replicate, Option, Some, None, inl, inr, refl, sym, ap, subst, ◌∙◌, arith, length-set, get_or-set_same, get_or-set_other}
use Rattle.std.specs.List.{range_with_len}
use Rattle.std.proofs.lemmas.Bool.{cases_lt, cases_eq, and_parts, ltb-true, le-ltb}
use Rattle.std.proofs.lemmas.List.{get_or_past, get_or_read, get_or-replicate, length-replicate, same_lists}
use Rattle.std.proofs.lemmas.List.FromFn.{get_or-map-range_with_len, length-map-range_with_len}
use Rattle.like_tables.specs.Share.{IsShare, Share, owned_below, owns, serves_home}
use Rattle.like_tables.specs.Ranked.{IsRanked}
use Rattle.like_tables.specs.Ranks.{AreTaken, HoldsUsers, last_at, table_of}
use Rattle.like_tables.specs.declared.ranked.Ranked.{Ranked}
use Rattle.like_tables.specs.UserTable.{IsUserTable, UserTable, last_in, last_of, table_with_lasts, table_without_likes, with_last}
use Rattle.like_tables.proofs.Owned.{owned_below-lt, owned_below-other}

-- a user that the worker owns is there
pub owns-there : (s : Share) (user : ℕ) → owns s user ≡ true → user < s.users
owns-there s user owned = ltb-true user s.users (and_parts _ _ owned).0

-- and the worker serves its home
pub owns-served : (s : Share) (user : ℕ) → owns s user ≡ true → serves_home s user ≡ true
owns-served s user owned = (and_parts _ _ owned).1

-- a user that is not there is not owned
owns-past : (s : Share) (user : ℕ) → s.users ≤ user → owns s user ≡ false
owns-past s user past = ap (λ b. b && serves_home s user) (le-ltb user s.users past)

-- a table's share is that of its ranks
pub owns-inside : (s : Share) (pages : List (Option ℕ)) (t : UserTable) (user : ℕ)
    → table_of s pages ≡ t
    → owns t.share user ≡ true
    → owns s user ≡ true
owns-inside s pages t user e owned = subst (λ (t : UserTable). owns t.share user ≡ true) (sym e) owned

-- so is the rank of a user
pub ranked-inside : (s : Share) (pages : List (Option ℕ)) (t : UserTable) (ranked : Ranked)
    → table_of s pages ≡ t
    → IsRanked t.share ranked
    → IsRanked s ranked
ranked-inside s pages t ranked e p = subst (λ (t : UserTable). IsRanked t.share ranked) (sym e) p

-- a user that the worker owns has a rank
pub rank-lt : (s : Share) (pages : List (Option ℕ)) (user : ℕ) → HoldsUsers s pages → owns s user ≡ true
    → owned_below s user < length pages
rank-lt s pages user p owned =
    omega (arith, p.enough, owned_below-lt s user s.users (owns-served s user owned) (owns-there s user owned))

-- at a user that the worker owns, the table has what the user's rank has
pub last_at-owned : (s : Share) (pages : List (Option ℕ)) (user : ℕ) → owns s user ≡ true
    → last_at s pages user ≡ get_or pages (owned_below s user) None
last_at-owned s pages user owned = ap (λ b. cond b (get_or pages (owned_below s user) None) None) owned

-- at any other it has none
last_at-other : (s : Share) (pages : List (Option ℕ)) (user : ℕ) → owns s user ≡ false → last_at s pages user ≡ None
last_at-other s pages user other = ap (λ b. cond b (get_or pages (owned_below s user) None) None) other

-- each entry of the table
pub last_of-table_of : (s : Share) (pages : List (Option ℕ)) (user : ℕ)
    → last_of (table_of s pages) user ≡ last_at s pages user
last_of-table_of s pages user =
    elim (cases_lt user s.users) [
      | inl there ↦ get_or-map-range_with_len (last_at s pages) 0 s.users user user None there (omega arith)
      | inr past ↦
          get_or_past _ user None (omega (arith, length-map-range_with_len (last_at s pages) 0 s.users))
          ∙ sym (last_at-other s pages user (owns-past s user past))
    ]

-- what is read at the user's rank is its last like
pub last_of-owned : (s : Share) (pages : List (Option ℕ)) (user rank : ℕ) (r : Option ℕ) → owns s user ≡ true
    → rank ≡ owned_below s user → rank < length pages → r ≡ get_or pages rank r → r ≡ last_of (table_of s pages) user
last_of-owned s pages user rank r owned e within read =
    get_or_read pages rank r within read None ∙ ap (λ p. get_or pages p None) e
    ∙ sym (last_of-table_of s pages user ∙ last_at-owned s pages user owned)

pub IsUserTable-table_of : (s : Share) (pages : List (Option ℕ)) → HoldsUsers s pages → IsUserTable (table_of s pages)
IsUserTable-table_of s pages p = record {
  lawful = p.lawful;
  users = length-map-range_with_len (last_at s pages) 0 s.users;
  others = λ user other. last_of-table_of s pages user ∙ last_at-other s pages user other;
  enough = p.enough;
}

-- two tables of a share are one where their entries and their room are
same_table : (s : Share) (last last' : List (Option ℕ)) (room room' : ℕ) → last ≡ last' → room ≡ room'
    → ◌≡◌ {A = UserTable} (record { share = s; last = last; room = room })
    (record { share = s; last = last'; room = room' })
same_table s last last' room room' e f = λ i. record { share = s; last = e i; room = f i }

-- no rank has a page
none-at : (n rank : ℕ) → ◌≡◌ {A = Option ℕ} (get_or (replicate n None) rank None) None
none-at n rank =
    elim (cases_lt rank n) [
      | inl within ↦ get_or-replicate n rank None None within
      | inr past ↦ get_or_past (replicate n None) rank None (omega (arith, length-replicate {A = Option ℕ} n None))
    ]

-- so no user has liked one
last_at-none : (s : Share) (n user : ℕ) → last_at s (replicate n None) user ≡ None
last_at-none s n user = go (owns s user) refl
  where
    go : (b : Bool) → owns s user ≡ b → last_at s (replicate n None) user ≡ None
    go true e = last_at-owned s _ user e ∙ none-at n (owned_below s user)
    go false e = last_at-other s _ user e

pub table_of-replicate : (s : Share) → table_of s (replicate (owned_below s s.users) None) ≡ table_without_likes s
table_of-replicate s =
    let n = owned_below s s.users in
    let pages : List (Option ℕ) = replicate n None in
    let nobody : List (Option ℕ) = replicate s.users None in
    let long : length (map (last_at s pages) (range_with_len 0 s.users)) ≡ s.users =
    length-map-range_with_len (last_at s pages) 0 s.users in
    same_table s _ nobody (length pages) n
    (same_lists _ nobody (long ∙ sym (length-replicate s.users None))
    (λ k d less. get_or-map-range_with_len (last_at s pages) 0 s.users k k d (omega arith) (omega arith)
    ∙ last_at-none s n k ∙ sym (get_or-replicate s.users k None d (omega arith))))
    (length-replicate n None)

-- once all ranks are taken, the table has the last likes of the list
pub table_of-taken : (s : Share) (lasts : List ℕ) (pages : List (Option ℕ)) → HoldsUsers s pages
    → AreTaken s lasts pages (length pages) → table_of s pages ≡ table_with_lasts s lasts
table_of-taken s lasts pages p t =
    let listed : ℕ → Option ℕ = λ user. cond (owns s user) (last_in lasts user) None in
    let long : length (map (last_at s pages) (range_with_len 0 s.users)) ≡ s.users =
    length-map-range_with_len (last_at s pages) 0 s.users in
    same_table s _ (map listed (range_with_len 0 s.users)) (length pages) (owned_below s s.users)
    (same_lists _ _ (long ∙ sym (length-map-range_with_len listed 0 s.users))
    (λ k d less. get_or-map-range_with_len (last_at s pages) 0 s.users k k d (omega arith) (omega arith)
    ∙ go k (owns s k) refl
    ∙ sym (get_or-map-range_with_len listed 0 s.users k k d (omega arith) (omega arith))))
    t.len
  where
    go : (k : ℕ) (b : Bool) → owns s k ≡ b → last_at s pages k ≡ cond (owns s k) (last_in lasts k) None
    go k true e =
        last_at-owned s pages k e ∙ t.own k e (rank-lt s pages k p e)
        ∙ sym (ap (λ b. cond b (last_in lasts k) None) e)
    go k false e = last_at-other s pages k e ∙ sym (ap (λ b. cond b (last_in lasts k) None) e)

-- in an empty list no user has a last like
pub without-lasts : (s : Share) → IsShare s → table_without_likes s ≡ table_with_lasts s []
without-lasts s lawful =
    let ranks = owned_below s s.users in
    let len = length-replicate {A = Option ℕ} ranks None in
    sym (table_of-replicate s)
    ∙ table_of-taken s [] (replicate ranks None) (record { lawful = lawful; enough = len })
    (record { len = len; own = λ user owned less. none-at ranks (owned_below s user) })

-- a page written at a user's rank is that user's
last_at-set_same : (s : Share) (pages : List (Option ℕ)) (user : ℕ) (v : Option ℕ)
    → HoldsUsers s pages
    → owns s user ≡ true
    → last_at s (set pages (owned_below s user) v) user ≡ v
last_at-set_same s pages user v p owned =
    last_at-owned s _ user owned ∙ get_or-set_same pages (owned_below s user) v None (rank-lt s pages user p owned)

-- and no other user's
last_at-set_other : (s : Share) (pages : List (Option ℕ)) (user other : ℕ) (v : Option ℕ)
    → owns s user ≡ true
    → other ≢ user
    → last_at s (set pages (owned_below s user) v) other ≡ last_at s pages other
last_at-set_other s pages user other v owned apart = go (owns s other) refl
  where
    go : (b : Bool) → owns s other ≡ b → last_at s (set pages (owned_below s user) v) other ≡ last_at s pages other
    go true e =
        last_at-owned s _ other e
        ∙ get_or-set_other pages (owned_below s user) (owned_below s other) v None
        (owned_below-other s other user (owns-served s other e) (owns-served s user owned) apart)
        ∙ sym (last_at-owned s pages other e)
    go false e = last_at-other s _ other e ∙ sym (last_at-other s pages other e)

-- the table after such a write
pub table_of-set : (s : Share) (pages : List (Option ℕ)) (user page : ℕ) → HoldsUsers s pages → owns s user ≡ true
    → table_of s (set pages (owned_below s user) (Some page)) ≡ with_last (table_of s pages) user page
table_of-set s pages user page p owned =
    let rank = owned_below s user in
    let written : List (Option ℕ) = set pages rank (Some page) in
    let users = range_with_len 0 s.users in
    let long : length (map (last_at s written) users) ≡ s.users =
    length-map-range_with_len (last_at s written) 0 s.users in
    let was : length (map (last_at s pages) users) ≡ s.users = length-map-range_with_len (last_at s pages) 0 s.users in
    same_table s _ (set (map (last_at s pages) users) user (Some page)) (length written) (length pages)
    (same_lists _ _ (long ∙ sym was ∙ sym (length-set (map (last_at s pages) users) user (Some page)))
    (λ k d less. entry k d (omega arith)))
    (length-set pages rank (Some page))
  where
    entry : (k : ℕ) (d : Option ℕ) → k < s.users
        → get_or (map (last_at s (set pages (owned_below s user) (Some page))) (range_with_len 0 s.users)) k d
        ≡ get_or (set (map (last_at s pages) (range_with_len 0 s.users)) user (Some page)) k d
    entry k d less =
        let now = get_or-map-range_with_len
        (last_at s (set pages (owned_below s user) (Some page))) 0 s.users k k d less (omega arith) in
        let had = get_or-map-range_with_len (last_at s pages) 0 s.users k k d less (omega arith) in
        let long = length-map-range_with_len (last_at s pages) 0 s.users in
        elim (cases_eq k user) [
          | inl e ↦
              rw e (rw e at now ∙ last_at-set_same s pages user (Some page) p owned
              ∙ sym (get_or-set_same _ user (Some page) d (omega arith)))
          | inr apart ↦
              now ∙ last_at-set_other s pages user k (Some page) owned apart
              ∙ sym (get_or-set_other _ user k (Some page) d apart ∙ had)
        ]

pub last_of-set_same : (s : Share) (pages : List (Option ℕ)) (user page : ℕ) → HoldsUsers s pages → owns s user ≡ true
    → last_of (table_of s (set pages (owned_below s user) (Some page))) user ≡ Some page
last_of-set_same s pages user page p owned =
    last_of-table_of s _ user ∙ last_at-set_same s pages user (Some page) p owned

pub last_of-set_other : (s : Share) (pages : List (Option ℕ)) (user other page : ℕ) → owns s user ≡ true → other ≢ user
    → last_of (table_of s (set pages (owned_below s user) (Some page))) other ≡ last_of (table_of s pages) other
last_of-set_other s pages user other page owned apart =
    last_of-table_of s _ other ∙ last_at-set_other s pages user other (Some page) owned apart
    ∙ sym (last_of-table_of s pages other)
