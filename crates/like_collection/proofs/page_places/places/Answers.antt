use Rattle.std.proofs.Common.{◌≡◌, ◌+◌, ◌<◌, ◌++◌, ◌∷◌, [], List, length, get_or, take, refl, ap, sym, ◌∙◌, subst, arith}
use Rattle.std.specs.List.{All}
use Rattle.std.proofs.lemmas.List.{get_or-replicate, length-map, length-replicate, length-take-le, take_all, take_more}
use Rattle.like_promises.specs.declared.log.Added.{Added}
use Rattle.like_promises.specs.declared.log.WorkerLog.{WorkerLog}
use Rattle.like_promises.specs.declared.place.Place.{Place}
use Rattle.like_promises.specs.places.Places.{AreByOld, lists_in, places_in, places_of}
use Rattle.like_collection.proofs.PlaceLists.{places_in-push}
use Rattle.like_collection.proofs.page_places.places.Goals as goal

pub loop-log-init : goal.loop-log-init
loop-log-init c = record {
  worker = refl;
  sized = ap length c.in_ok-rows.ensures ∙ length-replicate c.args.pages [];
  each = λ page below.
      ap (λ (ls : List (List Place)). get_or ls page []) c.in_ok-rows.ensures
      ∙ get_or-replicate c.args.pages page [] [] below;
}

pub add_places-requires : goal.add_places-requires
add_places-requires c = λ k d inside.
    let l = c.loop-log in
    let log = c.log-item.result in
    let there = subst (λ (w : WorkerLog). All (λ (a : Added). a.page < c.args.pages) w.adds.items) (sym c.log-item.is)
    (c.requires.there l.log-index log c.loop-log-test.true) in
    let own = subst (All (λ (a : Added). a.page < c.args.pages)) (sym c.deref.ensures.value) there in
    omega (arith, own k d inside, l.invariant.sized, length-map l.rows.items (λ row. row.items))

pub overflow_add-worker : goal.overflow_add-worker
overflow_add-worker c = omega (arith, c.loop-log.invariant.worker, c.loop-log-test.true, c.requires.few)

pub loop-log-preserved : goal.loop-log-preserved
loop-log-preserved c =
    let i = c.loop-log.invariant in
    let w = c.loop-log.log-index in
    let logs = c.args.logs.now in
    let log : WorkerLog = c.log-item.result in
    let done : List WorkerLog = take w logs in
    let size : length done ≡ w = length-take-le w logs (omega (arith, c.loop-log-test.true)) in
    let more : take (w + 1) logs ≡ done ++ log ∷ [] =
    take_more logs w log c.loop-log-test.true ∙ ap (λ (l : WorkerLog). done ++ l ∷ []) (sym c.log-item.is) in
    record {
      worker = omega (arith, i.worker);
      sized = c.in_ok-add_places.ensures.len ∙ i.sized;
      each = λ page below.
          let pushed = places_in-push page done log
          ∙ ap (λ n. places_in page done ++ places_of page n log.adds.items) size in
          c.in_ok-add_places.ensures.each page (omega (arith, i.sized))
          ∙ (ap (λ n. get_or (lists_in c.loop-log.rows.items) page [] ++ places_of page n c.deref.result.now) i.worker
          ∙ (ap (λ (xs : List Place). xs ++ places_of page w c.deref.result.now) (i.each page below)
          ∙ (ap (λ adds. places_in page done ++ places_of page w adds) c.deref.ensures.value
          ∙ sym (ap (places_in page) more ∙ pushed))));
    }

pub returns : goal.returns
returns c =
    let i = c.loop-log.invariant in
    let whole = take_all c.loop-log.log-index c.args.logs.now c.loop-log-test.false in
    let s = c.in_ok-sort_all.ensures in
    record {
      sized = s.len ∙ i.sized;
      each = λ page below.
          subst (λ (xs : List Place). AreByOld xs (get_or (lists_in c.sort_all.new.rows.items) page []))
          (i.each page below ∙ ap (places_in page) whole)
          (s.each page (omega (arith, i.sized)));
    }
