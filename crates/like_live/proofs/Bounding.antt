-- The bounds of what was told.
use Rattle.std.proofs.Common.{◌≡◌, ℕ, List, sym, ◌∙◌, inl, inr, arith}
use Rattle.std.specs.List.{All, Contains}
use Rattle.std.proofs.lemmas.List.Elements.{All-contains}
use Rattle.like_core.specs.declared.page_step.PageCall.TheVariants.{Glance, Read}
use Rattle.like_core.specs.declared.worker_state.WorkerState.TheVariants.{Gone}
use Rattle.like_core.specs.views.Reads.{HaveBetween}
use Rattle.like_core.specs.views.Posts.{posts_before}
use Rattle.like_core.specs.PageSteps.{page_step}
use Rattle.like_live.specs.Driver.{DriverView}
use Rattle.like_live.specs.LiveView.{LiveView}
use Rattle.like_live.specs.Answers.{AnswersAreBounded, IsGlanced, IsRead, IsWithinAdded, Shown}
use Rattle.like_live.specs.Service.{posts_at}
use Rattle.like_live.proofs.Closing.{all-of-map, post_at}
use Rattle.like_live.proofs.Showing.{IfShown-map}
use Rattle.like_live.proofs.Answering.{answers_are_reads}

module _ (driver : DriverView) (seats : List LiveView) (after : LiveView) (there : Contains seats after)
    (bounds : All (HaveBetween driver.lead.seat.opening.counts (posts_before (posts_at seats)) driver.lead.seat.phase)
    (posts_at seats)) where
  abbrev first : List ℕ
  first = driver.lead.seat.opening.counts

  -- what all seats have added to a page before a phase
  abbrev before : ℕ → ℕ → ℕ
  before = posts_before (posts_at seats)

  -- what a seat read, glanced at and added is within its bounds
  fit : HaveBetween first before driver.lead.seat.phase after.station.post
  fit = All-contains (λ (v : LiveView). HaveBetween first before driver.lead.seat.phase v.station.post) seats after
      (all-of-map (HaveBetween first before driver.lead.seat.phase) post_at seats bounds) there

  -- a count that was read is within its bounds
  read-bounded : (s : Shown) → IsRead after s → IsWithinAdded driver seats s
  read-bounded s r =
      let is = (fit r.0 (page_step after.station.post.worker s.phase s.page s.count Read) r.1 r.2).1 in
      let own = r.3 in
      let least = is.least in
      let most = is.most in
      record { least = omega arith; most = omega arith }

  -- so is one that was glanced at, with the seat's own likes, which it has added if it is gone
  glance-bounded : (now : LiveView) (s : Shown)
      → after.station.post.state ≡ Gone
      → IsGlanced now after s
      → IsWithinAdded driver seats s
  glance-bounded now s gone g =
      let is = (fit g.later (page_step after.station.post.worker s.phase s.page g.board Glance) g.earlier g.glanced).1 in
      let own = g.own in
      let least = is.least in
      let most = is.most in
      let sum = g.count_is in
      elim g.kept [
        | inl added ↦ record { least = omega arith; most = omega arith }
        | inr still ↦ absurd (cc (sym still.0 ∙ gone))
      ]

pub answers_are_bounded : AnswersAreBounded
answers_are_bounded driver seats counts v now after t service gone there unused call =
    let bounds = service.closed.between in
    let here : after.station.post.state ≡ Gone =
    All-contains (λ (s : LiveView). s.station.post.state ≡ Gone) seats after gone there in
    let bound : Shown → Type 0 = IsWithinAdded driver seats in
    let read : (s : Shown) → IsRead after s → bound s =
    λ s r. read-bounded driver seats after there bounds s r in
    let glance : (s : Shown) → IsGlanced now after s → bound s =
    λ s g. glance-bounded driver seats after there bounds now s here g in
    IfShown-map (IsRead after) (IsGlanced now after) bound bound read glance now t
    (answers_are_reads v now after t unused call)
