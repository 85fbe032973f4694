use Rattle.std.proofs.Common.{◌≡◌, ℕ, Bool, true, false, List, Option, Some, is_some, ◌∙◌, sym, inl, inr, refl, arith, slice_get}
use Rattle.std.proofs.lemmas.List.{length-map}
use Rattle.like_requests.specs.Pages.{Page, number_of}
use Rattle.like_records.specs.Rows.{Record, field}
use Rattle.like_records.proofs.RowsRead.{field_at}
use Rattle.like_requests.proofs.Found.{found-Contains, Contains-found}
use Rattle.like_requests.proofs.pages_file.entry_at.Goals as goal

-- the name that was looked up is the record's
looked_up : (pages : List Page) (r : Record) (found : Option ℕ) (asked name text : List ℕ) (b : Bool)
    → found ≡ number_of pages asked → asked ≡ name → name ≡ text → slice_get r 0 ≡ Some text → b ≡ is_some found
    → is_some (number_of pages (field r 0)) ≡ b
looked_up pages r found asked name text b e1 e2 e3 e4 e5 = rw (field_at r 0 text e4, ← e3, ← e2, ← e1) (sym e5)

pub returns-then-is_some : goal.returns-then-is_some
returns-then-is_some g c =
    inr (
      sym c.field_count.ensures ∙ c.if-field_count-ne3.false,
      inr (
        rw (field_at _ 0 _ c.field.ensures) c.in-Some.ensures.0,
        inl (
          refl,
          λ other.
              other (Contains-found _ _
              (looked_up c.args.entries.now c.args.records.now.fields _ _ _ _ true c.find.ensures
              c.as_bytes.ensures.value c.in-Some.ensures.1 c.field.ensures c.if-is_some.ensures)),
        ),
      ),
    )

pub returns-in_default-decimal : goal.returns-in_default-decimal
returns-in_default-decimal g c =
    inr (
      sym c.field_count.ensures ∙ c.if-field_count-ne3.false,
      inr (
        rw (field_at _ 0 _ c.field.ensures) c.in-Some.ensures.0,
        inr (
          found-Contains _ _
              (looked_up c.args.entries.now c.args.records.now.fields _ _ _ _ false c.find.ensures
              c.as_bytes.ensures.value c.in-Some.ensures.1 c.field.ensures c.if-is_some.ensures),
          inl (refl, rw (field_at _ 1 _ c.field-2.ensures) c.in_default-decimal.ensures),
        ),
      ),
    )

pub returns-in_default-split_mark : goal.returns-in_default-split_mark
returns-in_default-split_mark g c =
    inr (
      sym c.field_count.ensures ∙ c.if-field_count-ne3.false,
      inr (
        rw (field_at _ 0 _ c.field.ensures) c.in-Some.ensures.0,
        inr (
          found-Contains _ _
              (looked_up c.args.entries.now c.args.records.now.fields _ _ _ _ false c.find.ensures
              c.as_bytes.ensures.value c.in-Some.ensures.1 c.field.ensures c.if-is_some.ensures),
          inr (
            rw (field_at _ 1 _ c.field-2.ensures) c.in-Some-decimal.ensures.0,
            inl (refl, rw (field_at _ 2 _ c.field-3.ensures) c.in_default-split_mark.ensures),
          ),
        ),
      ),
    )

pub returns-then-row-gt-MAX_PAGES : goal.returns-then-row-gt-MAX_PAGES
returns-then-row-gt-MAX_PAGES g c =
    inr (
      sym c.field_count.ensures ∙ c.if-field_count-ne3.false,
      inr (
        rw (field_at _ 0 _ c.field.ensures) c.in-Some.ensures.0,
        inr (
          found-Contains _ _
              (looked_up c.args.entries.now c.args.records.now.fields _ _ _ _ false c.find.ensures
              c.as_bytes.ensures.value c.in-Some.ensures.1 c.field.ensures c.if-is_some.ensures),
          inr (
            rw (field_at _ 1 _ c.field-2.ensures) c.in-Some-decimal.ensures.0,
            inr (
              rw (field_at _ 2 _ c.field-3.ensures) c.in-Some-split_mark.ensures.0,
              inl (refl, λ below. omega (arith, length-map c.args.entries.now (λ (p : Page). p.name))),
            ),
          ),
        ),
      ),
    )

pub returns : goal.returns
returns g c = (
  (
    sym c.field_count.ensures ∙ c.if-field_count-ne3.false,
    (
      rw (field_at _ 0 _ c.field.ensures) c.in-Some.ensures.0,
      (
        found-Contains _ _
            (looked_up c.args.entries.now c.args.records.now.fields _ _ _ _ false c.find.ensures
            c.as_bytes.ensures.value c.in-Some.ensures.1 c.field.ensures c.if-is_some.ensures),
        (
          rw (field_at _ 1 _ c.field-2.ensures) c.in-Some-decimal.ensures.0,
          (
            rw (field_at _ 2 _ c.field-3.ensures) c.in-Some-split_mark.ensures.0,
            (
              omega (arith, length-map c.args.entries.now (λ (p : Page). p.name)),
              tt,
            ),
          ),
        ),
      ),
    ),
  ),
  rw (
    field_at _ 0 _ c.field.ensures,
    field_at _ 1 _ c.field-2.ensures,
    field_at _ 2 _ c.field-3.ensures,
    c.in-Some.ensures.1,
    c.in-Some-decimal.ensures.1,
    c.in-Some-split_mark.ensures.1,
  ) refl,
)
