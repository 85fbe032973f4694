use Rattle.std.proofs.Common.{◌∙◌, sym}
use Rattle.csv.specs.Records.{fields_of}
use Rattle.csv.proofs.RecordFacts.{field-there}
use Rattle.like_records.proofs.Fields.{field_at_lem}
use Rattle.like_records.proofs.records.Records.field.Goals as goal

pub unreachable-requires : goal.unreachable-requires
unreachable-requires g c =
    field-there (fields_of c.self.inside.present) c.args.index (rw (← c.self.view_is) at c.requires)
    (sym (rw c.in-None.is at c.get.ensures.value))

pub returns : goal.returns
returns g c = rw (← c.self.view_is)
    (sym (field_at_lem (fields_of c.self.inside.present) c.args.index) ∙ sym (rw c.in-Some.is at c.get.ensures.value))
