use Rattle.std.proofs.Common.{codes}
use Rattle.std.proofs.KnownBytes.{Appends-trans}
use Rattle.std.proofs.lemmas.Result.{on_ok_weaker}
use Rattle.std.specs.Prelude.{ℕ, List, ◌++◌, Option}
use Rattle.std.specs.Io.KnownBytes.{Appends}
use Rattle.like_replies.specs.Summary.{number_line}
use Rattle.like_replies.proofs.summary.Summary.write.Goals as goal

-- nine texts, one behind the other
nine : (c0 c1 c2 c3 c4 c5 c6 c7 c8 c9 : Option (List ℕ)) (t1 t2 t3 t4 t5 t6 t7 t8 t9 : List ℕ)
    → Appends c0 c1 t1
    → Appends c1 c2 t2
    → Appends c2 c3 t3
    → Appends c3 c4 t4
    → Appends c4 c5 t5
    → Appends c5 c6 t6
    → Appends c6 c7 t7
    → Appends c7 c8 t8
    → Appends c8 c9 t9
    → Appends c0 c9 (t1 ++ t2 ++ t3 ++ t4 ++ t5 ++ t6 ++ t7 ++ t8 ++ t9)
nine c0 c1 c2 c3 c4 c5 c6 c7 c8 c9 t1 t2 t3 t4 t5 t6 t7 t8 t9 h1 h2 h3 h4 h5 h6 h7 h8 h9 =
    Appends-trans c0 c8 c9 _ t9
    (Appends-trans c0 c7 c8 _ t8
    (Appends-trans c0 c6 c7 _ t7
    (Appends-trans c0 c5 c6 _ t6
    (Appends-trans c0 c4 c5 _ t5
    (Appends-trans c0 c3 c4 _ t4 (Appends-trans c0 c2 c3 _ t3 (Appends-trans c0 c1 c2 _ t2 h1 h2) h3) h4) h5) h6)
    h7) h8) h9

pub returns : goal.returns
returns g c =
    let s = c.args.self.now in
    let at0 = g.W.Write.contents c.args.out.now in
    let at1 = g.W.Write.contents c.write_line.new.out in
    let at2 = g.W.Write.contents c.write_line-2.new.out in
    let at3 = g.W.Write.contents c.write_line-3.new.out in
    let at4 = g.W.Write.contents c.write_line-4.new.out in
    let at5 = g.W.Write.contents c.write_line-5.new.out in
    let at6 = g.W.Write.contents c.write_line-6.new.out in
    let at7 = g.W.Write.contents c.write_line-7.new.out in
    let at8 = g.W.Write.contents c.write_line-8.new.out in
    let at9 = g.W.Write.contents c.write_line-9.new.out in
    on_ok_weaker c.write_line-9.result
    (nine at0 at1 at2 at3 at4 at5 at6 at7 at8 at9
    (number_line (codes "requests") s.requests)
    (number_line (codes "liked") s.liked)
    (number_line (codes "seen") s.seen)
    (number_line (codes "unknown-user") s.unknown_user)
    (number_line (codes "other-home") s.other_home)
    (number_line (codes "unknown-page") s.unknown_page)
    (number_line (codes "phases") s.phases)
    (number_line (codes "phases with hot pages") s.hot_phases)
    (number_line (codes "hot pages") s.hot_pages)
    c.in_ok-write_line.ensures
    c.in_ok-write_line-2.ensures
    c.in_ok-write_line-3.ensures
    c.in_ok-write_line-4.ensures
    c.in_ok-write_line-5.ensures
    c.in_ok-write_line-6.ensures
    c.in_ok-write_line-7.ensures
    c.in_ok-write_line-8.ensures)
    c.write_line-9.ensures
