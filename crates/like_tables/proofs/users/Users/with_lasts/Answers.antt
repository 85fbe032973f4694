use Rattle.std.proofs.Common.{◌≡◌, [], length, ap, sym, ◌∙◌, arith}
use Rattle.std.proofs.lemmas.Bool.{eqb-true}
use Rattle.std.proofs.lemmas.List.{nil_from_length, with_items_is}
use Rattle.like_tables.specs.Share.{IsShare, Share, share_of}
use Rattle.like_tables.specs.UserTable.{UserTable, table_with_lasts}
use Rattle.like_tables.proofs.Ranks.{table_of-taken, without-lasts}
use Rattle.like_tables.proofs.users.Users.with_lasts.Goals as goal
use Rattle.like_tables.proofs.users.Users.with_lasts.Goals.{then-not-is_empty, else-not-is_empty}

pub returns : goal.returns
returns c =
    let inside = c.share.inside in
    let lasts = c.args.lasts.now in
    let share = share_of c.args.users c.args.submitters c.args.workers c.args.worker in
    elim c.if-not-is_empty.branch [
      | then-not-is_empty w ↦
          let taken = w.take.ensures in
          let len : length w.take.new.pages ≡ inside.pages.len =
          omega (arith, w.take.auto.pages, w.deref_mut.ensures.len) in
          let same = ap (λ (t : UserTable). t.share) (c.share.view_is ∙ c.in_ok-share.ensures) in
          rw (w.pages-is, with_items_is inside.pages w.take.new.pages len)
          (table_of-taken inside.share lasts _
          (record { lawful = c.share.invariant.lawful; enough = taken.len }) taken
          ∙ ap (λ (s : Share). table_with_lasts s lasts) same)
      | else-not-is_empty w ↦
          let none : lasts ≡ [] =
          nil_from_length lasts (eqb-true (length lasts) 0 (sym c.is_empty.ensures ∙ w.if-not-is_empty.false)) in
          let lawful : IsShare share =
          record { submitters = c.requires.submitters; workers = c.requires.workers } in
          rw (w.pages-is, none) (c.share.view_is ∙ c.in_ok-share.ensures ∙ without-lasts share lawful)
    ]
