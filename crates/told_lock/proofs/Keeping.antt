-- The keeper makes passes and takes them back: both steps keep the rule.
use Rattle.std.proofs.Common.{◌≡◌, ◌≢◌, ℕ, ◌+◌, ◌-◌, ◌<◌, List, [], ◌∷◌, ◌++◌, length, set, None, refl, sym, ap, ◌∙◌, subst, arith}
use Rattle.std.proofs.lemmas.List.{length-append, length-set}
use Rattle.std.proofs.lemmas.List.Elements.{All-push}
use Rattle.std.proofs.lemmas.List.Sums.{sum_by-append, sum_by-cons}
use mathlib.Core.Option.{some, some-injective}
use lib.ListN.{get_elem?}
use Rattle.atomic_table.specs.Table.{Joins, Splits, State}
use Rattle.atomic_table.proofs.Lists.{at_longer, set_else, set_here}
use Rattle.told_lock.specs.declared.known.Known.{Known}
use Rattle.told_lock.specs.declared.known.Known.TheVariants.{Back, Keeper, Pass}
use Rattle.told_lock.specs.Deeds.{Continues, Named, deeds_by, named}
use Rattle.told_lock.specs.Known.{made_one, new_pass, took_back}
use Rattle.told_lock.specs.Rule.{IsLocked, Knows, outs, view_at}
use Rattle.told_lock.proofs.Logs.{other-more, own-more, same-without}
use Rattle.told_lock.proofs.Holding.{pass-at}
use Rattle.told_lock.proofs.Views.{holder-not, push-view, read-at, set-outs, set-view, within}

module _ {T C : Type 0} (does : T → C → T → Type 0) (first : T) where
  -- the state with these views
  abbrev with-views : State T (Known T C) → List (Known T C) → State T (Known T C)
  with-views s views = record { words = s.words; homes = s.homes; views = views }

  -- a keeper's seat is the first, and knows what the keeper knows
  pub record IsKeeperAt (s : State T (Known T C)) (k : IsLocked does first s) (id : ℕ) (v : Known T C) : Type 0 where
    pub place : id ≡ 0
    pub is : v ≡ Keeper first k.made k.out k.told k.seens

  -- the seat of a view that is a keeper's
  pub keeper-at : (s : State T (Known T C)) (k : IsLocked does first s) (id made out : ℕ) (f : T) (told : Named C)
      (seens : List (Named C)) → get_elem? s.views id ≡ some (Keeper f made out told seens)
      → IsKeeperAt s k id (Keeper f made out told seens)
  keeper-at s k id made out f told seens at =
      let knows = subst (Knows first k.now k.order k.told k.holder id)
      (read-at s.views id (Keeper f made out told seens) (Pass first id [] None) at) (k.views id) in
      record {
        place = knows.0;
        is = some-injective _ _ (sym at ∙ ap (get_elem? s.views) knows.0 ∙ k.keeper);
      }

  -- what is so of the keeper
  pub knows-first : (s : State T (Known T C)) (k : IsLocked does first s)
      → Knows first k.now k.order k.told k.holder 0 (Keeper first k.made k.out k.told k.seens)
  knows-first s k =
      subst (Knows first k.now k.order k.told k.holder 0)
      (read-at s.views 0 (Keeper first k.made k.out k.told k.seens) (Pass first 0 [] None) k.keeper) (k.views 0)

  -- the keeper may make a pass
  abbrev pub MaySplit : ℕ → Known T C → Type 0
  MaySplit id v = Splits (IsLocked does first) id v (made_one v) (new_pass v)

  -- it may: the new pass has done nothing
  pub splits : (id : ℕ) {made out : ℕ} {f : T} {told : Named C} {seens : List (Named C)}
      → MaySplit id (Keeper f made out told seens)
  splits id {made} {out} {f} {told} {seens} s k at =
      let here = keeper-at s k id made out f told seens at in
      let left : Known T C = Keeper first (k.made + 1) (k.out + 1) k.told k.seens in
      let right : Known T C = Pass first (k.made + 1) [] None in
      let views : List (Known T C) = set s.views 0 left in
      let all = k.all in
      let there : 0 < length s.views = omega (arith, all) in
      let long : length views ≡ k.made + 1 = length-set s.views 0 left ∙ all in
      let knows = knows-first s k in
      let P = Knows first k.now k.order k.told k.holder in
      let kept : IsLocked does first (with-views s (views ++ right ∷ [])) =
      record {
        order = k.order;
        now = k.now;
        run = k.run;
        made = k.made + 1;
        out = k.out + 1;
        told = k.told;
        seens = k.seens;
        keeper = at_longer views (right ∷ []) 0 left (set_here s.views 0 left there);
        all = length-append views (right ∷ []) ∙ ap (λ n. n + 1) long;
        are_out =
            let both = sum_by-append outs views (right ∷ []) in
            let one = sum_by-cons outs right [] in
            let rest = set-outs s.views 0 (Keeper first k.made k.out k.told k.seens) left k.keeper in
            let same = k.are_out in omega (arith, both, one, rest, same);
        holder = k.holder;
        views = λ m. subst (P m) (sym (push-view first views (k.made + 1) long m))
            (set-view first P s.views 0 left there (refl, refl, knows.2, knows.3, knows.4)
            (λ n other. k.views n) m);
        word = k.word;
        sized = k.sized;
        home = k.home;
      } in
      subst (λ v. IsLocked does first (with-views s (set s.views id (made_one v) ++ new_pass v ∷ [])))
      (sym here.is)
      (subst (λ (i : ℕ). IsLocked does first (with-views s (set s.views i left ++ right ∷ [])))
      (sym here.place) kept)

  -- the keeper may take a pass back
  abbrev pub MayJoin : ℕ → Known T C → ℕ → Known T C → Type 0
  MayJoin id v other w = Joins (IsLocked does first) id v other w (took_back v w) Back

  -- what a seat knows stays so if the keeper is told another pass's deeds
  more-told : (now : T) (order told told' : Named C) (holder name : ℕ) (v : Known T C) → name ≢ 0
      → deeds_by name told' ≡ deeds_by name told
      → Knows first now order told holder name v → Knows first now order told' holder name v
  more-told now order told told' holder name (Keeper f made out t seens) some_one same knows =
      absurd (some_one knows.0)
  more-told now order told told' holder name (Pass f n seen taken) some_one same knows =
      (knows.0, knows.1, knows.2, knows.3, knows.4, same ∙ knows.5, knows.6)
  more-told now order told told' holder name Back some_one same knows = (knows.0, knows.1 ∙ sym same, knows.2)

  -- it may, any pass that doesn't hold the value
  pub joins : {id made out : ℕ} {f : T} {told : Named C} {seens : List (Named C)} {other n : ℕ} {g : T} {seen : Named C}
      → MayJoin id (Keeper f made out told seens) other (Pass g n seen None)
  joins {id} {made} {out} {f} {told} {seens} {other} {n} {g} {seen} s k at apart found =
      let here = keeper-at s k id made out f told seens at in
      let pass : Known T C = Pass g n seen None in
      let was : get_elem? s.views other ≡ some pass =
      sym (set_else s.views id other (took_back (Keeper f made out told seens) pass) apart) ∙ found in
      let p = pass-at does first s k other n g seen None was in
      let log = deeds_by other seen in
      let more : Named C = k.told ++ named n (deeds_by n seen) in
      let left : Known T C = Keeper first k.made (k.out - 1) more (k.seens ++ seen ∷ []) in
      let mid : List (Known T C) = set s.views 0 left in
      let views : List (Known T C) = set mid other Back in
      let all = k.all in
      let there : 0 < length s.views = omega (arith, all) in
      let was-too : get_elem? mid other ≡ some pass = set_else s.views 0 other left p.0 ∙ was in
      let there-too = within mid other pass was-too in
      let P = Knows first k.now k.order more k.holder in
      let knows = knows-first s k in
      let mine : deeds_by other more ≡ log =
      ap (λ x. deeds_by other (k.told ++ named x (deeds_by x seen))) p.2 ∙ own-more other k.told [] log (sym p.5) in
      let others : (m : ℕ) → m ≢ other → deeds_by m more ≡ deeds_by m k.told =
      (λ m ne. other-more m k.told n (deeds_by n seen) (λ e. ne (sym e ∙ p.2))) in
      let kept : IsLocked does first (with-views s views) =
      record {
        order = k.order;
        now = k.now;
        run = k.run;
        made = k.made;
        out = k.out - 1;
        told = more;
        seens = k.seens ++ seen ∷ [];
        keeper = set_else mid other 0 Back (λ z. p.0 (sym z)) ∙ set_here s.views 0 left there;
        all = length-set mid other Back ∙ length-set s.views 0 left ∙ all;
        are_out =
            let one = set-outs s.views 0 (Keeper first k.made k.out k.told k.seens) left k.keeper in
            let two = set-outs mid other pass Back was-too in
            let same = k.are_out in omega (arith, one, two, same);
        holder = k.holder;
        views = set-view first P mid other Back there-too
            (p.0, same-without other seen k.order p.3 ∙ sym mine, holder-not k.holder other k.now p.4)
            (set-view first (λ m v. m ≢ other → P m v) s.views 0 left there
            (λ ne. (
              refl,
              refl,
              knows.2,
              others 0 ne ∙ knows.3,
              All-push (λ s. Continues s k.order) k.seens seen knows.4 (p.3.0, p.3.1),
            ))
            (λ m some_one ne.
            more-told k.now k.order k.told more k.holder m (view_at first s.views m) some_one (others m ne)
            (k.views m)));
        word = k.word;
        sized = k.sized;
        home = k.home;
      } in
      subst (λ v. IsLocked does first (with-views s (set (set s.views id (took_back v pass)) other Back)))
      (sym here.is)
      (subst (λ (i : ℕ). IsLocked does first (with-views s (set (set s.views i left) other Back)))
      (sym here.place) kept)
