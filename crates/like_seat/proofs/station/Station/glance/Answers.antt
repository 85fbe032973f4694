use Rattle.std.proofs.Common.{◌≡◌, true, ℕ, ◌+◌, ◌<◌, get_or, sym, refl, subst, ◌∙◌, arith}
use Rattle.std.proofs.lemmas.List.Sums.{get_or-le-sum_by}
use Rattle.like_core.specs.declared.view.WorkerSeatView.{WorkerSeatView}
use Rattle.like_core.specs.Post.{has_glanced, is_split_at, number_of, pages_of}
use Rattle.like_core.specs.WorkerState.{IsRunning}
use Rattle.like_tables.specs.Ranked.{IsRanked}
use Rattle.like_tables.specs.SplitSlice.{by_page}
use Rattle.like_tables.proofs.ByPage.{get_or-by_page}
use Rattle.like_seat.specs.declared.seen.Seen.{Seen}
use Rattle.like_seat.specs.Kept.{view_of}
use Rattle.like_seat.specs.StationView.{StationView}
use Rattle.like_seat.specs.Steps.{Glances}
use Rattle.like_seat.proofs.Keeping.{Kept-read, has_split-at_post, knows-split}
use Rattle.like_seat.proofs.station.Station.glance.Goals as goal

pub returns-clause-glances : goal.returns-clause-glances
returns-clause-glances g c =
    let p = g.P.Post.view c.self.inside.post in
    let t = c.self.inside.tables in
    let page : ℕ = c.args.page in
    let there : page < pages_of p =
    subst (λ (v : StationView g.row.W.Denot). page < pages_of v.post) (sym c.self.view_is) c.requires.there in
    let own : c.likes-own.result ≡ get_or (by_page t.slice (pages_of p)) page 0 =
    c.likes-own.ensures ∙ sym (get_or-by_page t.slice (pages_of p) page 0 there) in
    let shown : Seen = record { last = c.last_at-last.result; count = c.glance.result + c.likes-own.result } in
    subst (λ (v : StationView g.row.W.Denot). Glances v c.args.ranked.user page shown
    (view_of (g.P.Post.board c.glance.new.self) (g.P.Post.view c.glance.new.self) t)) c.self.view_is
    (record {
      count = c.glance.result;
      last = c.last_at-last.ensures;
      counts = omega (arith, own);
      own = omega (arith, own, c.glance.ensures.own);
      glanced = λ m. view_of (c.glance.ensures.board m) (c.glance.ensures.view m) t;
    })

pub invariant_of-self : goal.invariant_of-self
invariant_of-self g c =
    let p = g.P.Post.view c.self.inside.post in
    let now : WorkerSeatView = has_glanced p c.args.page c.glance.result (number_of (g.P.Post.view c.glance.new.self)) in
    Kept-read p (g.P.Post.view c.glance.new.self) now.did now.logged
    c.self.inside.tables c.self.invariant c.glance.ensures.view refl

pub returns-clause-station : goal.returns-clause-station
returns-clause-station g c = (invariant_of-self g c).station

pub last_at-last-requires : goal.last_at-last-requires
last_at-last-requires g c =
    subst (λ (v : StationView g.row.W.Denot). IsRanked v.last.share c.args.ranked) (sym c.self.view_is)
    c.requires.ranked

pub likes-own-requires : goal.likes-own-requires
likes-own-requires g c =
    let p = g.P.Post.view c.self.inside.post in
    let page : ℕ = c.args.page in
    let there : page < pages_of p =
    subst (λ (v : StationView g.row.W.Denot). page < pages_of v.post) (sym c.self.view_is) c.requires.there in
    let runs : IsRunning p.state =
    subst (λ (v : StationView g.row.W.Denot). IsRunning v.post.state) (sym c.self.view_is) c.requires.running in
    has_split-at_post p c.self.inside.tables.slice page c.self.invariant.splits runs there
    ∙ subst (λ (v : StationView g.row.W.Denot). is_split_at v.post page ≡ true) (sym c.self.view_is) c.requires.split

pub glance-requires : goal.glance-requires
glance-requires g c =
    let p = g.P.Post.view c.self.inside.post in
    let page : ℕ = c.args.page in
    let runs : IsRunning p.state =
    subst (λ (v : StationView g.row.W.Denot). IsRunning v.post.state) (sym c.self.view_is) c.requires.running in
    record {
      runs = runs;
      there = subst (λ (v : StationView g.row.W.Denot). page < pages_of v.post) (sym c.self.view_is) c.requires.there;
      known = knows-split p page runs c.self.invariant.station.masked;
      split = subst (λ (v : StationView g.row.W.Denot). is_split_at v.post page ≡ true) (sym c.self.view_is)
          c.requires.split;
    }

pub overflow_add-result : goal.overflow_add-result
overflow_add-result g c =
    let p = g.P.Post.view c.self.inside.post in
    let slice = by_page c.self.inside.tables.slice (pages_of p) in
    let page : ℕ = c.args.page in
    let there : page < pages_of p =
    subst (λ (v : StationView g.row.W.Denot). page < pages_of v.post) (sym c.self.view_is) c.requires.there in
    let own : c.likes-own.result ≡ get_or slice page 0 =
    c.likes-own.ensures ∙ sym (get_or-by_page c.self.inside.tables.slice (pages_of p) page 0 there) in
    let station = c.self.invariant.station in
    let within = get_or-le-sum_by (λ (n : ℕ). n) slice page 0 (omega (arith, there, station.sized)) in
    omega (arith, own, within, station.few, station.limits.own, c.glance.ensures.bounded)
