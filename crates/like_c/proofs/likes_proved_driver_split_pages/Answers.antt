use Rattle.std.proofs.Common.{◌≡◌, ◌≤◌, Ok, refl, subst, sym, take}
use Rattle.like_choice.specs.Slots.{pages_in_use}
use Rattle.like_shared.proofs.Same.{same-driver}
use Rattle.like_c.specs.Asks.{at_some}
use Rattle.like_c.proofs.likes_proved_driver_split_pages.Goals as goal

pub returns-clause-pages : goal.returns-clause-pages
returns-clause-pages c =
    let driver = c.in-Some.opened.now.driver in
    let told = c.split_pages.ensures in
    let many = c.split_pages.result in
    let pages = c.split_pages.new.pages in
    let few = subst (λ n. many ≤ n) (sym told.len) told.few in
    let first = subst (λ n. take many pages ≡ take n (pages_in_use driver.splits.slots)) (sym told.len) told.pages in
    at_some _ _ c.in-Some.ensures.driver
    (Ok many, (((few, first, refl), same-driver driver), refl), (refl, told.rest)) refl
