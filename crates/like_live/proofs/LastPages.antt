-- Last likes are of pages that there are, and so are those that are told.
use Rattle.std.proofs.Common.{◌≡◌, ◌≢◌, ℕ, ◌<◌, ◌==◌, inl, inr, Bool, true, false, List, Option, None, Some, cond, get_or, length, set, ap, refl, subst, sym, ◌∙◌, arith}
use Rattle.std.proofs.lemmas.Bool.{cases_eq, cases_lt, eq-eqb}
use Rattle.std.proofs.lemmas.List.{get_or-set_other, get_or-set_same, get_or_past, set_past}
use Rattle.std.proofs.lemmas.List.FromFn.{get_or-map-range_with_len, length-map-range_with_len}
use Rattle.std.proofs.lemmas.Option.{same_Some}
use Rattle.like_core.specs.Post.{pages_of}
use Rattle.like_seat.specs.StationView.{IsStation, StationView}
use Rattle.like_tables.specs.LastLike.{no_page, page_in}
use Rattle.like_tables.specs.Share.{Share, owns}
use Rattle.like_tables.specs.UserTable.{UserTable, last_in, last_of, table_with_lasts, with_last}
use Rattle.like_live.specs.declared.answer.GlanceAnswer.{GlanceAnswer}
use Rattle.like_live.specs.declared.answer.LookAnswer.{LookAnswer}
use Rattle.like_live.specs.declared.asked.Asked.{Asked}
use Rattle.like_live.specs.declared.call.Answer.TheVariants.{Glance, Look}
use Rattle.like_live.specs.Batch.{TellsPage}
use Rattle.like_live.specs.Calls as calls
use Rattle.like_live.specs.Calls.{GlanceCase, LookCase}
use Rattle.like_live.specs.LiveView.{HasLastsWithin, IsLive, LiveView}
use Rattle.like_live.specs.Opening.{AreLasts}

-- so they are after a like of such a page
pub liked-within : (pages : ℕ) (t : UserTable) (user page : ℕ) → HasLastsWithin pages t → page < pages
    → HasLastsWithin pages (with_last t user page)
liked-within pages t user page within there other last is =
    elim (cases_eq user other) [
      | inl same ↦
          elim (cases_lt user (length t.last)) [
            | inl has ↦
                subst (λ n. n < pages)
                (same_Some page last
                (sym (get_or-set_same t.last user (Some page) None has)
                ∙ ap (λ k. get_or (set t.last user (Some page)) k None) same ∙ is)) there
            | inr past ↦ within other last (ap (λ (xs : List (Option ℕ)). get_or xs other None) (sym (set_past t.last user (Some page) past)) ∙ is)
          ]
      | inr apart ↦ within other last (sym (get_or-set_other t.last user other (Some page) None (λ e. apart (sym e))) ∙ is)
    ]

-- a number that stands for a page is that page's
page-in : (number page : ℕ) → page_in number ≡ Some page → (number ≢ no_page) × (number ≡ page)
page-in number page is =
    by_test (number == no_page) refl is
  where
    by_test : (b : Bool) → (number == no_page) ≡ b → cond b None (Some number) ≡ Some page
        → (number ≢ no_page) × (number ≡ page)
    by_test true same it = absurd (cc it)
    by_test false other it = (λ e. cc (eq-eqb number no_page e, other), same_Some number page it)

-- so they are in a list with which a service is opened
opened-in : (pages users : ℕ) (lasts : List ℕ) → AreLasts pages users lasts → (user page : ℕ)
    → last_in lasts user ≡ Some page → page < pages
opened-in pages users lasts are user page is =
    let number = get_or lasts user no_page in
    let at = page-in number page is in
    elim (cases_lt user (length lasts)) [
      | inl has ↦
          elim (are.there user no_page has) [
            | inl none ↦ absurd (at.0 none)
            | inr there ↦ subst (λ n. n < pages) at.1 there
          ]
      | inr past ↦ absurd (at.0 (get_or_past lasts user no_page past))
    ]

-- and at each seat of it
pub opened-within : (pages users : ℕ) (share : Share) (lasts : List ℕ) → AreLasts pages users lasts
    → HasLastsWithin pages (table_with_lasts share lasts)
opened-within pages users share lasts are user page is =
    elim (cases_lt user share.users) [
      | inl has ↦
          by_owner (owns share user) refl
          (sym (get_or-map-range_with_len listed 0 share.users user user None has (omega arith)) ∙ is)
      | inr past ↦
          absurd (cc (
            get_or_past (table_with_lasts share lasts).last user None
                (omega (arith, past, length-map-range_with_len listed 0 share.users)),
            is,
          ))
    ]
  where
    listed : ℕ → Option ℕ
    listed u = cond (owns share u) (last_in lasts u) None

    by_owner : (b : Bool) → owns share user ≡ b → cond b (last_in lasts user) None ≡ Some page → page < pages
    by_owner true own it = opened-in pages users lasts are user page it
    by_owner false own it = absurd (cc it)

-- no last like is `no_page`
last-page : (s : StationView Asked) (user : ℕ) → IsStation s → HasLastsWithin (pages_of s.post) s.last
    → last_of s.last user ≢ Some no_page
last-page s user kept within is = absurd (omega (arith, within user no_page is, kept.few_pages, kept.limits.pages))

-- so a look tells none
pub look-tells : (v after : LiveView) (user page tag : ℕ) (answer : LookAnswer) → LookCase v user page tag answer after
    → IsLive after → TellsPage (Look answer)
look-tells v after user page tag answer (calls.gone moves is) live = subst (λ a. TellsPage (Look a)) (sym is) tt
look-tells v after user page tag answer (calls.between moves is) live = subst (λ a. TellsPage (Look a)) (sym is) tt
look-tells v after user page tag answer (calls.runs now moves (calls.refused not is same)) live =
    subst (λ a. TellsPage (Look a)) (sym is) tt
look-tells v after user page tag answer (calls.runs now moves (calls.seen shown s ok plain is reads then)) live =
    subst (λ a. TellsPage (Look a)) (sym is)
    (λ none. last-page after.station user live.station live.lasts
    (ap (λ (w : LiveView). last_of w.station.last user) then
    ∙ ap (λ (t : StationView Asked). last_of t.last user) reads.read ∙ sym reads.last ∙ none))
look-tells v after user page tag answer (calls.runs now moves (calls.no_room ok split full is same)) live =
    subst (λ a. TellsPage (Look a)) (sym is) tt
look-tells v after user page tag answer (calls.runs now moves (calls.waits ok split some is then)) live =
    subst (λ a. TellsPage (Look a)) (sym is) tt

-- nor does a glance
pub glance-tells : (v after : LiveView) (user page : ℕ) (answer : GlanceAnswer) → GlanceCase v user page answer after
    → IsLive after → TellsPage (Glance answer)
glance-tells v after user page answer (calls.gone moves is) live = subst (λ a. TellsPage (Glance a)) (sym is) tt
glance-tells v after user page answer (calls.between moves is) live = subst (λ a. TellsPage (Glance a)) (sym is) tt
glance-tells v after user page answer (calls.runs now moves (calls.refused not is same)) live =
    subst (λ a. TellsPage (Glance a)) (sym is) tt
glance-tells v after user page answer (calls.runs now moves (calls.plain shown s ok plain is reads then)) live =
    subst (λ a. TellsPage (Glance a)) (sym is)
    (λ none. last-page after.station user live.station live.lasts
    (ap (λ (w : LiveView). last_of w.station.last user) then
    ∙ ap (λ (t : StationView Asked). last_of t.last user) reads.read ∙ sym reads.last ∙ none))
glance-tells v after user page answer (calls.runs now moves (calls.split shown s ok sliced is glances then)) live =
    subst (λ a. TellsPage (Glance a)) (sym is)
    (λ none. last-page after.station user live.station live.lasts
    (ap (λ (w : LiveView). last_of w.station.last user) then
    ∙ ap (λ (t : StationView Asked). last_of t.last user) glances.glanced ∙ sym glances.last ∙ none))
