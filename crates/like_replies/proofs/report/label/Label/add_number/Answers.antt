use Rattle.std.proofs.Common.{rules}
use Rattle.like_replies.proofs.rows.Plain.{field_text-decimal}
use Rattle.like_replies.proofs.report.label.Label.add_number.Goals as goal

pub returns-clause-added : goal.returns-clause-added
returns-clause-added c = rw (field_text-decimal c.args.number c.ranges.number.fits) (search rules)
