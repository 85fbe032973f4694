use Rattle.std.proofs.Common.{◌≡◌, Bool, List, [], IfOk, rules, subst}
use Rattle.like_tables.specs.SplitSlice.{SplitSlice}
use Rattle.like_seat.specs.Kept.{AreNew}
use Rattle.like_seat.proofs.tables.Tables+W+BucketCounts.of_service.Goals as goal

pub returns : goal.returns
returns g c =
    let none : c.new.result.items ≡ [] = search rules in
    subst (λ (s : SplitSlice). IfOk c.new-2.result (AreNew [] s c.args.room c.args.last)) c.in_ok-slice.ensures.slice
    (subst (λ (ms : List Bool). IfOk c.new-2.result (AreNew ms c.in_ok-slice.slice c.args.room c.args.last)) none
    c.new-2.ensures)
