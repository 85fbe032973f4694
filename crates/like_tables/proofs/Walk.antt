-- A walk over a worker's users in their order: submitter by submitter, and round by round.
use Rattle.std.proofs.Common.{◌≡◌, ◌≢◌, ℕ, ◌+◌, ◌*◌, ◌%◌, ◌<◌, ◌≤◌, true, false, List, length, get_or, set, Option, None, inl, inr, refl, sym, ap, ◌∙◌, arith, length-set, get_or-set_same, get_or-set_other, eq-eqb}
use Rattle.std.proofs.lemmas.Bool.{cases_eq, cases_lt, lt-ltb}
use Rattle.std.proofs.lemmas.Nat.{div-mul-add, mod-mul-add}
use Rattle.like_tables.specs.Share.{IsShare, Share, homes_below, owned_below, owns, serves_home}
use Rattle.like_tables.specs.Ranks.{AreTaken, IsGiven}
use Rattle.like_tables.specs.UserTable.{last_in}
use Rattle.like_tables.proofs.Owned.{homes_below-few, homes_below-none, homes_below-seat, homes_below-seats, owned_below-div, owned_below-mono, owned_below-other}
use Rattle.like_tables.proofs.Ranks.{last_at-owned, owns-served}

-- the walk is at the user of this rank: in a whole round, at the submitter of one of the worker's seats
pub record IsAt (s : Share) (base submitter rank : ℕ) : Type 0 where
  pub round : ℕ
  pub seat : ℕ
  pub base_is : base ≡ round * s.submitters
  pub submitter_is : submitter ≡ seat * s.workers + s.worker
  pub inside : submitter < s.submitters
  pub small : s.worker < s.workers
  pub rank_is : rank ≡ round * homes_below s s.submitters + seat

-- a worker with a user is there, and so is its first submitter
owned-some : (s : Share) → IsShare s → 0 < owned_below s s.users → (s.worker < s.workers) × (s.worker < s.submitters)
owned-some s lawful some =
    elim (cases_lt s.worker s.workers) [
      | inl small ↦
          elim (cases_lt s.worker s.submitters) [
            | inl inside ↦ (small, inside)
            | inr past ↦
                let all = homes_below-few s s.submitters small past in
                let rest = homes_below-few s (s.users % s.submitters) small (omega (arith, lawful.submitters)) in
                absurd (omega (arith, none all rest))
          ]
      | inr large ↦
          let all = homes_below-none s s.submitters lawful.workers large in
          let rest = homes_below-none s (s.users % s.submitters) lawful.workers large in
          absurd (omega (arith, none all rest))
    ]
  where
    none : homes_below s s.submitters ≡ 0 → homes_below s (s.users % s.submitters) ≡ 0 → owned_below s s.users ≡ 0
    none all rest = sym (owned_below-div s s.users lawful.submitters) ∙ rw (all, rest) (omega arith)

pub IsAt-first : (s : Share) → IsShare s → 0 < owned_below s s.users → IsAt s 0 s.worker 0
IsAt-first s lawful some =
    let there = owned-some s lawful some in
    record {
      round =
          0;
      seat = 0;
      base_is =
          omega arith;
      submitter_is = omega arith;
      inside = there.1;
      small = there.0;
      rank_is = omega arith;
    }

-- the next submitter of the round
pub IsAt-next : (s : Share) (base submitter rank : ℕ)
    → IsAt s base submitter rank
    → submitter + s.workers < s.submitters
    → IsAt s base (submitter + s.workers) (rank + 1)
IsAt-next s base submitter rank a less = record {
  round = a.round;
  seat = a.seat + 1;
  base_is = a.base_is;
  submitter_is = omega (arith, a.submitter_is);
  inside = less;
  small = a.small;
  rank_is = omega (arith, a.rank_is);
}

-- the first submitter of the next round
pub IsAt-round : (s : Share) (base submitter rank : ℕ)
    → IsAt s base submitter rank
    → s.submitters ≤ submitter + s.workers
    → IsAt s (base + s.submitters) s.worker (rank + 1)
IsAt-round s base submitter rank a past =
    let seats = homes_below-seats s a.seat a.small (omega (arith, a.submitter_is, a.inside))
    (omega (arith, a.submitter_is)) in
    record {
      round = a.round + 1;
      seat = 0;
      base_is = omega (arith, a.base_is);
      submitter_is = omega arith;
      inside = omega (arith, a.submitter_is, a.inside);
      small = a.small;
      rank_is = omega (arith, a.rank_is, ap (λ n. a.round * n) seats);
    }

-- the user's rank is the one that the walk has come to
pub IsAt-rank : (s : Share) (base submitter rank : ℕ)
    → IsAt s base submitter rank
    → owned_below s (base + submitter) ≡ rank
IsAt-rank s base submitter rank a =
    let whole = owned_below-div s (a.round * s.submitters + submitter) (omega (arith, a.inside)) in
    let seat = homes_below-seat s a.seat a.small in
    rw (
      a.base_is,
      ← whole,
      div-mul-add a.round s.submitters submitter a.inside,
      mod-mul-add a.round s.submitters submitter a.inside,
      a.submitter_is,
      seat,
    ) (sym a.rank_is)

-- and the worker serves its home
IsAt-served : (s : Share) (base submitter rank : ℕ)
    → IsAt s base submitter rank
    → serves_home s (base + submitter) ≡ true
IsAt-served s base submitter rank a =
    eq-eqb _ s.worker
    (rw (a.base_is, mod-mul-add a.round s.submitters submitter a.inside, a.submitter_is)
    (mod-mul-add a.seat s.workers s.worker a.small))

-- at a rank of the table the user is there
pub IsAt-there : (s : Share) (base submitter rank : ℕ) → IsAt s base submitter rank → rank < owned_below s s.users
    → base + submitter < s.users
IsAt-there s base submitter rank a less =
    elim (cases_lt (base + submitter) s.users) [
      | inl there ↦ there
      | inr past ↦ absurd (omega (
        arith,
        owned_below-mono s s.users (base + submitter) past,
        IsAt-rank s base submitter rank a,
      ))
    ]

pub IsAt-owned : (s : Share) (base submitter rank : ℕ) → IsAt s base submitter rank → rank < owned_below s s.users
    → owns s (base + submitter) ≡ true
IsAt-owned s base submitter rank a less =
    rw (
      lt-ltb (base + submitter) s.users (IsAt-there s base submitter rank a less),
      IsAt-served s base submitter rank a,
    ) refl

-- with as many workers as submitters, a worker has one user in each round
pub IsAt-lone : (s : Share) → IsShare s → s.submitters ≡ s.workers → (rank : ℕ) → rank < owned_below s s.users
    → IsAt s (rank * s.submitters) s.worker rank
IsAt-lone s lawful lone rank less =
    let there = owned-some s lawful (omega (arith, less)) in
    let one = homes_below-seats s 0 there.0 (omega (arith, there.1)) (omega (arith, lone)) in
    record {
      round = rank;
      seat = 0;
      base_is = refl;
      submitter_is = omega arith;
      inside = there.1;
      small = there.0;
      rank_is = omega (arith, ap (λ n. rank * n) one);
    }

-- before the walk
pub IsGiven-none : (s : Share) (pages was : List (Option ℕ)) → IsGiven s pages was was 0
IsGiven-none s pages was =
    record { len = refl; own = λ user owned less. absurd (omega (arith, less)); others = λ user other. refl }

-- one rank more
pub IsGiven-more : (s : Share) (pages was now : List (Option ℕ)) (base submitter rank : ℕ) (page : Option ℕ)
    → IsGiven s pages was now rank → IsAt s base submitter rank → rank < owned_below s s.users → s.users ≤ length now
    → page ≡ get_or pages rank None → IsGiven s pages was (set now (base + submitter) page) (rank + 1)
IsGiven-more s pages was now base submitter rank page g a less room is = record {
  len = length-set now (base + submitter) page ∙ g.len;
  own = λ user owned before. elim (cases_eq user (base + submitter)) [
    | inl same ↦ rw same
        (get_or-set_same now (base + submitter) page None (omega (arith, there)) ∙ is
        ∙ ap (λ p. get_or pages p None) (sym here) ∙ sym (last_at-owned s pages (base + submitter) mine))
    | inr apart ↦
        let differs = owned_below-other s user (base + submitter) (owns-served s user owned)
        (owns-served s (base + submitter) mine) apart in
        get_or-set_other now (base + submitter) user page None apart
        ∙ g.own user owned (omega (arith, here, differs, before))
  ];
  others = λ user other.
      let apart : user ≢ base + submitter =
      λ same. (let e : true ≡ false = sym mine ∙ ap (owns s) (sym same) ∙ other in cc e) in
      get_or-set_other now (base + submitter) user page None apart ∙ g.others user other;
}
  where
    there : base + submitter < s.users
    there = IsAt-there s base submitter rank a less

    here : owned_below s (base + submitter) ≡ rank
    here = IsAt-rank s base submitter rank a

    mine : owns s (base + submitter) ≡ true
    mine = IsAt-owned s base submitter rank a less

-- nothing is taken yet
pub AreTaken-none : (s : Share) (lasts : List ℕ) (pages : List (Option ℕ)) → length pages ≡ owned_below s s.users
    → AreTaken s lasts pages 0
AreTaken-none s lasts pages enough = record { len = enough; own = λ user owned less. absurd (omega (arith, less)) }

-- one rank more
pub AreTaken-more : (s : Share) (lasts : List ℕ) (pages : List (Option ℕ)) (base submitter rank : ℕ) (page : Option ℕ)
    → AreTaken s lasts pages rank → IsAt s base submitter rank → rank < owned_below s s.users
    → page ≡ last_in lasts (base + submitter) → AreTaken s lasts (set pages rank page) (rank + 1)
AreTaken-more s lasts pages base submitter rank page t a less is =
    let here = IsAt-rank s base submitter rank a in
    let mine = IsAt-owned s base submitter rank a less in
    record {
      len = length-set pages rank page ∙ t.len;
      own = λ user owned before. elim (cases_eq user (base + submitter)) [
        | inl same ↦ rw same
            (rw here (get_or-set_same pages rank page None (omega (arith, t.len, less)) ∙ is))
        | inr apart ↦
            let differs = owned_below-other s user (base + submitter) (owns-served s user owned)
            (owns-served s (base + submitter) mine) apart in
            get_or-set_other pages rank (owned_below s user) page None
            (λ same. differs (same ∙ sym here))
            ∙ t.own user owned (omega (arith, here, differs, before))
      ];
    }
