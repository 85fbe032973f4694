use Rattle.std.proofs.Common.{◌≡◌, ℕ, Bool, Global, Vec, true, false, if◌then◌else◌, List, [], ◌++◌, length, refl, ap, sym, ◌∙◌, subst}
use Rattle.std.proofs.lemmas.List.Elements.{All-nil}
use Rattle.std.specs.List.{All}
use Rattle.like_requests.specs.Pages.{Page}
use Rattle.like_promises.specs.Collected.{rows_of}
use Rattle.like_promises.specs.declared.answer.Answer.{Answer}
use Rattle.like_promises.specs.declared.place.Place.{Place}
use Rattle.like_promises.specs.places.Places.{lists_in}
use Rattle.like_replies.specs.PlaceRows.{place_rows}
use Rattle.like_replies.specs.Reported.{shown_with}
use Rattle.like_replies.specs.Rows.{IsShowable, report_rows, rows_text}
use Rattle.like_replies.specs.Sections.{HasRows, rows_in}
use Rattle.like_replies.proofs.report.text.Text.new.Goals as goal

-- what all elements have, all have where there are none
all_or_none : {A : Type 0} (P : A → Type 0) (b : Bool) (xs : List A) → All P xs → All P (if b then [] else xs)
all_or_none P true xs all = All-nil P
all_or_none P false xs all = all

-- the text of rows, or of none
text_if : (b : Bool) (rows : List (List (List ℕ)))
    → rows_text (if b then rows else []) ≡ (if b then rows_text rows else [])
text_if true rows = refl
text_if false rows = refl

pub invariant_of-result : goal.invariant_of-result
invariant_of-result c =
    let pages = c.args.pages.now in
    let w = c.requires.writable in
    let rows = c.shown_replies-replies.ensures in
    let all = all_or_none (All (λ (a : Answer). IsShowable pages a.reply)) c.args.extent.totals
    (rows_of c.args.report.now.replies) w.shown in
    let shown = c.in_ok-shown.ensures pages (record {
      counted = w.counted;
      shown = subst (All (All (λ (a : Answer). IsShowable pages a.reply))) (sym rows) all;
      liked = w.liked;
    }) in
    let places = c.in_ok-places.ensures pages
    (sym (c.len.ensures ∙ ap (λ (ps : List Page). length ps) c.in_ok-names.ensures)) in (
      subst (λ (ps : List Page). All (HasRows ps) c.in_ok-shown.shown.items) (sym c.in_ok-names.ensures) shown.each,
      subst (λ (ps : List Page). All (HasRows ps) c.in_ok-places.places.items) (sym c.in_ok-names.ensures) places.each,
    )

pub returns-clause-text : goal.returns-clause-text
returns-clause-text c =
    let pages = c.args.pages.now in
    let report = c.args.report.now in
    let w = c.requires.writable in
    let rows = c.shown_replies-replies.ensures in
    let all = all_or_none (All (λ (a : Answer). IsShowable pages a.reply)) c.args.extent.totals (rows_of report.replies)
    w.shown in
    let shown = c.in_ok-shown.ensures pages (record {
      counted = w.counted;
      shown = subst (All (All (λ (a : Answer). IsShowable pages a.reply))) (sym rows) all;
      liked = w.liked;
    }) in
    let places = c.in_ok-places.ensures pages
    (sym (c.len.ensures ∙ ap (λ (ps : List Page). length ps) c.in_ok-names.ensures)) in
    let first = ap (λ (ps : List Page). rows_text (rows_in ps c.in_ok-shown.shown.items)) c.in_ok-names.ensures
    ∙ (ap rows_text shown.same
    ∙ ap (λ (rs : List (List Answer)). rows_text (report_rows pages (shown_with rs report))) rows) in
    let second = ap (λ (ps : List Page). rows_text (rows_in ps c.in_ok-places.places.items)) c.in_ok-names.ensures
    ∙ (ap rows_text places.same
    ∙ (ap
    (λ (xs : List (Vec Place Global)). rows_text (if c.args.extent.places then place_rows pages (lists_in xs) else []))
    c.deref.ensures.value
    ∙ text_if c.args.extent.places (place_rows pages (lists_in report.places.items)))) in
    λ m. first m ++ second m
