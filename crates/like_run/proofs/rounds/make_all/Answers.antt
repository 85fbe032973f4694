use Rattle.std.proofs.Common.{◌≡◌, List, get_or, take, refl, sym, subst}
use Rattle.std.proofs.lemmas.List.{take_all, take_more}
use Rattle.like_requests.specs.declared.script.Turned.{Turned}
use Rattle.like_requests.specs.declared.script.Turned.TheVariants.{OpenOne}
use Rattle.like_crew.specs.Steps.{MakesAll}
use Rattle.like_crew.proofs.Coordinated.{crew-further, crew-same}
use Rattle.like_crew.proofs.Rounds.{makes-more}
use Rattle.like_run.proofs.Entries.{can-make-later}
use Rattle.like_run.proofs.rounds.make_all.Goals as goal

pub loop-entry-init : goal.loop-entry-init
loop-entry-init c = record { makes = refl; goes_on = crew-same c.args.crew.now }

pub loop-entry-preserved : goal.loop-entry-preserved
loop-entry-preserved c =
    let l = c.loop-entry in
    let script : List Turned = c.args.script.now in
    record {
      makes = subst (λ (xs : List Turned). MakesAll xs c.args.crew.now c.make.new.crew)
          (sym (take_more script l.entry-index (OpenOne 0) c.loop-entry-test.true))
          (makes-more (take l.entry-index script)
          (get_or script l.entry-index (OpenOne 0)) c.args.crew.now l.crew c.make.new.crew l.invariant.makes
          c.make.ensures.makes);
      goes_on = crew-further _ l.crew c.make.new.crew l.invariant.goes_on c.make.ensures.goes_on;
    }

pub make-requires : goal.make-requires
make-requires c =
    can-make-later c.args.crew.now.servers c.loop-entry.crew.servers
    (get_or c.args.script.now c.loop-entry.entry-index (OpenOne 0)) c.loop-entry.invariant.goes_on.servers
    (c.requires c.loop-entry.entry-index (OpenOne 0) c.loop-entry-test.true)

pub returns-clause-makes : goal.returns-clause-makes
returns-clause-makes c =
    let script : List Turned = c.args.script.now in
    let whole : take c.loop-entry.entry-index script ≡ script =
    take_all c.loop-entry.entry-index script c.loop-entry-test.false in
    subst (λ (xs : List Turned). MakesAll xs c.args.crew.now c.loop-entry.crew) whole c.loop-entry.invariant.makes
