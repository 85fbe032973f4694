-- Logs that have one entry for each request and no other are collected.
use Rattle.std.proofs.Common.{◌≡◌, ◌≢◌, ℕ, suc, ◌+◌, ◌≤◌, Bool, true, false, cond, List, [], ◌∷◌, ◌++◌, Result, Ok, Err, IfErr, MatchResult, length, filter, refl, sym, ap, subst, ◌∙◌, arith, zero-add}
use Rattle.std.proofs.lemmas.Bool.{eq-eqb}
use Rattle.like_promises.specs.declared.log.Ran.{Ran}
use Rattle.like_collection.specs.declared.collect_fault.CollectFault.{CollectFault}
use Rattle.like_collection.specs.declared.collect_fault.CollectFault.TheVariants.{Stranger, Double, Missing, Memory}
use Rattle.like_collection.specs.CollectFaults.{IsCollectFault, IsFirstBadEntry}
use Rattle.like_promises.specs.declared.replies.Replies.{Replies}
use Rattle.like_promises.specs.Collected.{IsCollected, entries_of, rows_of}
use Rattle.like_collection.specs.Entries.{IsRequest}
use Rattle.like_collection.proofs.Entries.{is_of}

-- each request has one entry, and there is no other entry
pub record RunsOnce (sizes : List ℕ) (entries : List Ran) : Type 0 where
  pub requests : (submitter number : ℕ) → IsRequest sizes submitter number
      → length (entries_of submitter number entries) ≡ 1
  pub others : (submitter number : ℕ) → ¬ IsRequest sizes submitter number
      → length (entries_of submitter number entries) ≡ 0

-- how many pass a test, where one that does stands between others
count-parts : (p : Ran → Bool) (before after : List Ran) (x : Ran)
    → p x ≡ true
    → length (filter p (before ++ x ∷ after)) ≡ length (filter p before) + suc (length (filter p after))
count-parts p [] after x h = ap (λ b. length (cond b (x ∷ filter p after) (filter p after))) h ∙ sym (zero-add _)
count-parts p (y ∷ before) after x h = by_test (p y) (count-parts p before after x h) where
  by_test : (b : Bool)
      → length (filter p (before ++ x ∷ after)) ≡ length (filter p before) + suc (length (filter p after))
      → length (cond b (y ∷ filter p (before ++ x ∷ after)) (filter p (before ++ x ∷ after)))
      ≡ length (cond b (y ∷ filter p before) (filter p before)) + suc (length (filter p after))
  by_test true e = omega (arith, e)
  by_test false e = e

passes : (e : Ran) (submitter number : ℕ)
    → e.submitter ≡ submitter
    → e.number ≡ number
    → is_of submitter number e ≡ true
passes e submitter number s n = rw (eq-eqb e.submitter submitter s, eq-eqb e.number number n) refl

some_left : (xs : List Ran) → xs ≢ [] → 1 ≤ length xs
some_left [] some = absurd (some refl)
some_left (x ∷ xs) some = omega arith

counted : (sizes : List ℕ) (entries : List Ran) (submitter number : ℕ) (Bad : List Ran → Type 0)
    → (f : IsFirstBadEntry sizes entries submitter number Bad)
    → length (entries_of submitter number entries)
    ≡ length (entries_of submitter number f.before) + suc (length (entries_of submitter number f.after))
counted sizes entries submitter number Bad f =
    ap (λ xs. length (entries_of submitter number xs)) f.parts
    ∙ count-parts (is_of submitter number) f.before f.after f.entry
    (passes f.entry submitter number f.is_submitter f.is_number)

pub no-fault : (sizes : List ℕ) (entries : List Ran) (fault : CollectFault)
    → RunsOnce sizes entries
    → IsCollectFault sizes entries fault
    → fault ≡ Memory
no-fault sizes entries (Stranger submitter number) r f =
    absurd (omega (arith, r.others submitter number f.bad, counted sizes entries submitter number _ f))
no-fault sizes entries (Double submitter number) r f =
    absurd (omega (
      arith,
      r.requests submitter number f.bad.0,
      some_left (entries_of submitter number f.before) f.bad.1,
      counted sizes entries submitter number _ f,
    ))
no-fault sizes entries (Missing submitter number) r f =
    absurd (omega (arith, r.requests submitter number f.1.is, ap (λ (xs : List Ran). length xs) f.1.lacks))
no-fault sizes entries Memory r f = refl

-- if the logs have one entry for each request and no other, only memory can be lacking
pub memory-alone : (sizes : List ℕ) (entries : List Ran) (collected : Result Replies CollectFault)
    → RunsOnce sizes entries
    → MatchResult collected (λ replies. IsCollected sizes entries (rows_of replies)) (IsCollectFault sizes entries)
    → IfErr collected (λ fault. fault ≡ Memory)
memory-alone sizes entries (Ok replies) once is = tt
memory-alone sizes entries (Err fault) once is = no-fault sizes entries fault once is

-- what was collected
pub collected-at : (sizes : List ℕ) (entries : List Ran) (collected : Result Replies CollectFault) (replies : Replies)
    → collected ≡ Ok replies
    → MatchResult collected (λ replies. IsCollected sizes entries (rows_of replies)) (IsCollectFault sizes entries)
    → IsCollected sizes entries (rows_of replies)
collected-at sizes entries collected replies is match =
    subst (λ r. MatchResult r (λ replies. IsCollected sizes entries (rows_of replies)) (IsCollectFault sizes entries)) is
    match
