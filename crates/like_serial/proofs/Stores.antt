-- What a store has after a list of things that were asked.
use Rattle.std.proofs.Common.{◌≡◌, ℕ, zero, suc, ◌+◌, ◌≤◌, Bool, true, false, cond, ◌==◌, List, [], ◌∷◌, filter_map, length, map, take, slice_get, subst, ap₂, Option, Some, None, ap, sym, ◌∙◌, refl, arith}
use Rattle.std.specs.Prelude.{option_map}
use Rattle.std.specs.List.{cons_option, last_or}
use Rattle.like_promises.specs.Likes.{is_like_of}
use Rattle.like_promises.specs.declared.log.Ran.{Ran}
use Rattle.like_promises.specs.Store.{Ask, Store, after, after_all, like, look, refuse, replies, reply}
use Rattle.like_serial.proofs.Parts.{head_is, tail_is}
use Rattle.like_serial.proofs.Seen.{not_some, some_is}
use Rattle.std.proofs.lemmas.List.{length-map}
use Rattle.like_serial.proofs.Weigh.{weigh}

-- how many likes of a page it adds: 1 or 0
abbrev pub adds_by : ℕ → Ask → ℕ
adds_by page a = cond (is_like_of page a) 1 0

count_one : (s : Store) (a : Ask) (page : ℕ) → (after s a).count page ≡ s.count page + adds_by page a
count_one s (like user liked) page = refl
count_one s (look user looked) page = omega arith
count_one s (refuse why) page = omega arith

pub count_after : (s : Store) (asks : List Ask) (page : ℕ)
    → (after_all s asks).count page ≡ s.count page + weigh (adds_by page) asks
count_after s [] page = omega arith
count_after s (a ∷ asks) page =
    let one = count_one s a page in let more = count_after (after s a) asks page in omega arith

-- the page that it makes a user's last like, if it does
abbrev pub page_by : ℕ → Ask → Option ℕ
page_by user (like other page) = cond (other == user) (Some page) None
page_by user (look other page) = None
page_by user (refuse why) = None

pub last_after : (s : Store) (asks : List Ask) (user : ℕ)
    → (after_all s asks).last user ≡ last_or (s.last user) (filter_map (page_by user) asks)
last_after s [] user = refl
last_after s (a ∷ asks) user = last_after (after s a) asks user ∙ by a where
  one : (b : Bool) (page : ℕ)
      → last_or (cond b (Some page) (s.last user)) (filter_map (page_by user) asks)
      ≡ last_or (s.last user) (cons_option (cond b (Some page) None) (filter_map (page_by user) asks))
  one true page = refl
  one false page = refl

  by : (a : Ask)
      → last_or ((after s a).last user) (filter_map (page_by user) asks)
      ≡ last_or (s.last user) (cons_option (page_by user a) (filter_map (page_by user) asks))
  by (like other page) = one (other == user) page
  by (look other page) = refl
  by (refuse why) = refl

-- replies one by one, and all in a list
length_replies : (s : Store) (asks : List Ask) → length (replies s asks) ≡ length asks
length_replies s [] = refl
length_replies s (a ∷ asks) = let more = length_replies (after s a) asks in omega arith

module _ (ask : Ran → Option Ask) where
  few : (xs : List Ran) → length (filter_map ask xs) ≤ length xs
  few [] = omega arith
  few (e ∷ xs) = by (ask e) (few xs) where
    by : (o : Option Ask) → length (filter_map ask xs) ≤ length xs
        → length (cons_option o (filter_map ask xs)) ≤ length (e ∷ xs)
    by None less = omega arith
    by (Some a) less = omega arith

  -- the reply of an entry after those before it
  abbrev pub Replied : Store → List Ran → Ran → Type 0
  Replied s before e = option_map (reply (after_all s (filter_map ask before))) (ask e) ≡ Some e.reply

  abbrev pub AreReplied : Store → List Ran → Type 0
  AreReplied s xs = (i : ℕ) (e : Ran) → slice_get xs i ≡ Some e → Replied s (take i xs) e

  pub in_list : (s : Store) (xs : List Ran) → AreReplied s xs
      → map (λ (e : Ran). e.reply) xs ≡ replies s (filter_map ask xs)
  in_list s [] each = refl
  in_list s (e ∷ xs) each =
      by (λ t rest. in_list t xs rest) (ask e) (each 0 e refl) (λ i d at. each (suc i) d at) where
        by : ((t : Store) → AreReplied t xs → map (λ (d : Ran). d.reply) xs ≡ replies t (filter_map ask xs))
            → (o : Option Ask) → option_map (reply s) o ≡ Some e.reply
            → ((i : ℕ) (d : Ran) → slice_get xs i ≡ Some d
            → option_map (reply (after_all s (cons_option o (filter_map ask (take i xs))))) (ask d) ≡ Some d.reply)
            → e.reply ∷ map (λ (d : Ran). d.reply) xs ≡ replies s (cons_option o (filter_map ask xs))
        by more None is rest = absurd (not_some e.reply is)
        by more (Some a) is rest = ap₂ (λ y ys. y ∷ ys) (sym (some_is (reply s a) e.reply is)) (more (after s a) rest)

  pub by_place : (s : Store) (xs : List Ran) → map (λ (e : Ran). e.reply) xs ≡ replies s (filter_map ask xs)
      → AreReplied s xs
  by_place s [] same i e at = absurd (not_some e at)
  by_place s (x ∷ xs) same i e at = by (λ t rest. by_place t xs rest) (ask x) refl same i at where
    by : ((t : Store) → map (λ (d : Ran). d.reply) xs ≡ replies t (filter_map ask xs) → AreReplied t xs)
        → (o : Option Ask) → ask x ≡ o
        → x.reply ∷ map (λ (d : Ran). d.reply) xs ≡ replies s (cons_option o (filter_map ask xs))
        → (i : ℕ) → slice_get (x ∷ xs) i ≡ Some e → Replied s (take i (x ∷ xs)) e
    by more None is same i at =
        let sizes = ap {B = ℕ} length same in
        let all = length-map xs (λ (d : Ran). d.reply) in
        absurd (omega (arith, sizes, all, length_replies s (filter_map ask xs), few xs))
    by more (Some a) is same zero at =
        subst (λ d. option_map (reply s) (ask d) ≡ Some d.reply) (some_is x e at)
        (ap (option_map (reply s)) is ∙ ap Some (sym (head_is x.reply (reply s a) _ _ same)))
    by more (Some a) is same (suc i) at =
        subst
        (λ o. option_map (reply (after_all s (cons_option o (filter_map ask (take i xs))))) (ask e) ≡ Some e.reply)
        (sym is) (more (after s a) (tail_is x.reply (reply s a) _ _ same) i e at)
