use Rattle.std.proofs.Common.{◌∙◌, sym, refl, arith}
use Rattle.like_records.proofs.RowsRead.{field_at}
use Rattle.like_requests.proofs.requests_file.request_at.Goals as goal

pub returns : goal.returns
returns g c = (
  (
    sym c.field_count.ensures ∙ c.if-field_count-ne3.false,
    (
      rw (field_at _ 0 _ c.field.ensures) c.in-Some.ensures.0,
      (
        rw (field_at _ 1 _ c.field-2.ensures) c.in-Some-decimal.ensures.0,
        (
          omega arith,
          tt,
        ),
      ),
    ),
  ),
  rw (
    field_at _ 0 _ c.field.ensures,
    field_at _ 1 _ c.field-2.ensures,
    field_at _ 2 _ c.field-3.ensures,
    c.in-Some.ensures.1,
    c.in-Some-decimal.ensures.1,
    c.page_named.ensures,
  ) refl,
)
