use Rattle.std.proofs.Common.{codes}
use Rattle.std.proofs.KnownBytes.{Appends-trans}
use Rattle.std.proofs.lemmas.Result.{on_ok_weaker}
use Rattle.std.specs.Prelude.{◌++◌}
use Rattle.like_replies.specs.Refusals.{kind_text, refused_text}
use Rattle.like_replies.proofs.refusals.write_refusals.Goals as goal

pub returns : goal.returns
returns g c =
    let r = c.args.summary.now in
    let at0 = g.W.Write.contents c.args.out.now in
    let at1 = g.W.Write.contents c.write_refused.new.out in
    let at2 = g.W.Write.contents c.write_kind.new.out in
    let at3 = g.W.Write.contents c.write_kind-2.new.out in
    let at4 = g.W.Write.contents c.write_kind-3.new.out in
    let t1 = refused_text r.refused r.requests in
    let t2 = kind_text r.unknown_user (codes "unknown-user") (codes ", ") in
    let t3 = kind_text r.other_home (codes "other-home") (codes ", ") in
    let t4 = kind_text r.unknown_page (codes "unknown-page") (codes "\n") in
    on_ok_weaker c.write_kind-3.result
    (λ last.
    Appends-trans at0 at3 at4 (t1 ++ t2 ++ t3) t4
    (Appends-trans at0 at2 at3 (t1 ++ t2) t3
    (Appends-trans at0 at1 at2 t1 t2 c.in_ok-write_refused.ensures c.in_ok-write_kind.ensures)
    c.in_ok-write_kind-2.ensures)
    last)
    c.write_kind-3.ensures
