use Rattle.std.proofs.Common.{◌≡◌, ℕ, List, length, get_or, sym, ap, ◌∙◌, subst}
use Rattle.like_core.specs.OpeningLimits.{has_slots}
use Rattle.like_core.specs.Slots.{IsChoice}
use Rattle.like_core.specs.declared.view.CoordSeatView.{CoordSeatView}
use Rattle.like_choice.specs.Slots.{Chooses, SlotsView}
use Rattle.like_seat.specs.Lead.{MayPublishChoice, published_choice}
use Rattle.like_live.specs.Splits.{AreSplitsOf, SplitsView}
use Rattle.like_live.proofs.driver.splits.Splits.publish.Goals as goal

-- a lawful choice is one of the pages of the board whose splits they were
choice-of : (c : CoordSeatView) (old : SplitsView) (new : SlotsView)
    → AreSplitsOf c old
    → new.factor ≡ old.slots.factor
    → new.pages ≡ old.slots.pages
    → IsChoice new.factor new.pages (λ i. get_or new.slots i 0) new.bits
    → IsChoice c.opening.factor (length c.opening.counts) (λ i. get_or new.slots i 0) new.bits
choice-of c old new splits factor pages choice =
    subst (λ f. IsChoice f (length c.opening.counts) (λ i. get_or new.slots i 0) new.bits) (factor ∙ splits.factor)
    (subst (λ n. IsChoice new.factor n (λ i. get_or new.slots i 0) new.bits) (pages ∙ splits.pages) choice)

pub publish_choice-requires-clause-may : goal.publish_choice-requires-clause-may
publish_choice-requires-clause-may g c =
    let seat = c.args.lead.now.seat in
    let new = c.choose.new.self in
    let same = c.choose.ensures.chooses.same in
    let inside : SplitsView =
    record { slots = c.self.inside.slots; told = _; finds = _; proposed = c.self.inside.proposed; held = c.self.inside.held } in
    let splits : AreSplitsOf seat inside =
    subst (λ (s : SplitsView). AreSplitsOf seat s) (sym c.self.view_is) c.requires.splits in
    let may : MayPublishChoice seat new.slots new.bits =
    record {
      all_in = c.requires.saw;
      joined = c.requires.joined;
      slotted = ap has_slots c.requires.limits;
      len = c.pages-2.ensures.all;
      choice = choice-of seat inside new splits same.0 same.1 c.choose.ensures.lawful.choice;
    } in
    subst (λ (xs : List ℕ). MayPublishChoice seat xs c.bits.result) (sym c.pages-2.ensures.pages)
    (subst (λ n. MayPublishChoice seat new.slots n) (sym c.bits.ensures.bits) may)

pub publish_choice-requires-clause-held : goal.publish_choice-requires-clause-held
publish_choice-requires-clause-held g c = ap (λ (s : SplitsView). s.held) c.self.view_is ∙ c.requires.splits.held

pub publish_choice-requires-clause-all : goal.publish_choice-requires-clause-all
publish_choice-requires-clause-all g c =
    ap (λ (s : SplitsView). length s.held) c.self.view_is ∙ c.requires.splits.all

pub publish_choice-requires-clause-here : goal.publish_choice-requires-clause-here
publish_choice-requires-clause-here g c = c.requires.here

pub returns-clause-chooses : goal.returns-clause-chooses
returns-clause-chooses g c =
    subst (λ (s : SplitsView). Chooses s.slots s.proposed c.choose.new.self) c.self.view_is
    (subst (λ (xs : List ℕ). Chooses c.self.inside.slots xs c.choose.new.self) c.pages.ensures.pages c.choose.ensures.chooses)

pub returns-clause-lawful : goal.returns-clause-lawful
returns-clause-lawful g c = c.choose.ensures.lawful

pub returns-clause-publishes : goal.returns-clause-publishes
returns-clause-publishes g c =
    c.publish_choice.ensures.publishes
    ∙ (λ m. published_choice c.args.lead.now (c.pages-2.ensures.pages m) (c.bits.ensures.bits m))

pub returns-clause-held : goal.returns-clause-held
returns-clause-held g c = c.publish_choice.ensures.held

pub returns-clause-told : goal.returns-clause-told
returns-clause-told g c = ap (λ (s : SplitsView). s.told) c.self.view_is

pub returns-clause-finds : goal.returns-clause-finds
returns-clause-finds g c = ap (λ (s : SplitsView). s.finds) c.self.view_is

pub returns-clause-proposed : goal.returns-clause-proposed
returns-clause-proposed g c = ap (λ (s : SplitsView). s.proposed) c.self.view_is
