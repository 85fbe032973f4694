-- A seat's deeds are for its own users.
use Rattle.std.proofs.Common.{◌≡◌, ℕ, ◌<◌, List, [], ◌∷◌, ◌++◌, drop, map, sym, subst, append-nil}
use Rattle.std.specs.List.{AllByRecursion}
use Rattle.like_core.specs.declared.log.Logged.{Logged}
use Rattle.like_requests.specs.declared.verdict.Verdict.TheVariants.{Accepted}
use Rattle.like_serial.proofs.Phases.{all_append}
use Rattle.like_tables.specs.Share.{Share}
use Rattle.like_requests.specs.Verdict.{home}
use Rattle.like_live.specs.declared.asked.Asked.{Asked}
use Rattle.like_live.specs.declared.asked.Found.{Found}
use Rattle.like_live.specs.LiveView.{LiveView}
use Rattle.like_live.specs.Calls.{verdict_at}
use Rattle.like_live.specs.Moves.{with_found}
use Rattle.like_live.specs.Deeds.{Deed, deeds_found, made_since}
use Rattle.like_live.proofs.Standing.{IsHis, IsKept, Stands, is_his}
use Rattle.like_live.proofs.Stepping.{Step, acknowledges, adds_like, done_by, finds, glances, holds, looks, next, reads, reports, retires, returns, slices_like, takes}

module _ (first : LiveView) where
  abbrev pub AreHis : LiveView → List Deed → Type 0
  AreHis v ds = AllByRecursion (λ d. IsHis first d.user) ds

  same_his : (v : LiveView) (user : ℕ) → Stands first v → IsHis v user → IsHis first user
  same_his v user k is =
      subst (λ (s : Share). (user < s.users) × (home s.submitters user ≡ s.worker)) k.share is

  one_his : (v : LiveView) (ds : List Deed) (d : Deed) (page : ℕ) → Stands first v
      → verdict_at v.station d.user page ≡ Accepted → AreHis v ds → AreHis v (ds ++ d ∷ [])
  one_his v ds d page k accepted all =
      all_append (λ e. IsHis first e.user) ds (d ∷ []) all (same_his v d.user k (is_his v d.user page accepted), tt)

  no_deed : (v : LiveView) (ds : List Deed) → AreHis v ds → AreHis v (ds ++ [])
  no_deed v ds all = subst (AllByRecursion (λ d. IsHis first d.user)) (sym (append-nil ds)) all

  found_his : (v : LiveView) (entries : List Logged) (found : List Found) → Stands first v
      → AllByRecursion (λ a. IsHis v a.user) (map (λ (f : Found). f.asked) found)
      → AllByRecursion (λ d. IsHis first d.user) (deeds_found entries found)
  found_his v entries [] k all = tt
  found_his v entries (f ∷ found) k all = (same_his v f.asked.user k all.0, found_his v (drop 1 entries) found k all.1)

  his_next : (v : LiveView) (s : Step v) (ds : List Deed) → Stands first v → AreHis v ds
      → AreHis (next v s) (ds ++ done_by v s)
  his_next v (looks sight mask number can) ds k all = no_deed v ds all
  his_next v (finds found logged joined order shown logs) ds k all =
      let entries = made_since v (with_found v found logged) in
      all_append (λ d. IsHis first d.user) ds (deeds_found entries found) all
      (found_his v entries found k (subst (AllByRecursion (λ (a : Asked). IsHis v a.user)) (sym order) k.own))
  his_next v (acknowledges joined) ds k all = no_deed v ds all
  his_next v (reports adds logged split merges logs) ds k all = no_deed v ds all
  his_next v (retires joined) ds k all = no_deed v ds all
  his_next v (returns phase mask number gone) ds k all = no_deed v ds all
  his_next v takes ds k all = no_deed v ds all
  his_next v (slices_like user page is) ds k all = one_his v ds _ page k is.accepted all
  his_next v (adds_like user page old number is) ds k all = one_his v ds _ page k is.accepted all
  his_next v (reads user page shown number is last) ds k all = one_his v ds _ page k is.accepted all
  his_next v (glances user page count shown number is last) ds k all = one_his v ds _ page k is.accepted all
  his_next v (holds user page tag is) ds k all = no_deed v ds all

  pub his_kept : IsKept first (λ w. Unit {0}) AreHis
  his_kept = record {
    back = λ w s stands sound. tt;
    kept = λ w s ds stands sound k. his_next w s ds stands k;
  }
