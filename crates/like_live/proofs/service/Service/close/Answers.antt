use Rattle.std.proofs.Common.{refl, sym, subst}
use Rattle.std.proofs.lemmas.Bool.{false≢true}
use Rattle.like_live.specs.Service.{AreGone}
use Rattle.like_live.proofs.service.Service.close.Goals as goal

pub finish-requires-clause-gone : goal.finish-requires-clause-gone
finish-requires-clause-gone g c = subst AreGone c.deref.ensures.value (c.if-not-are_gone.ensures.0 refl)

pub returns-clause-gone : goal.returns-clause-gone
returns-clause-gone g c = subst AreGone c.deref.ensures.value (c.if-not-are_gone.ensures.0 refl)

pub returns-then-not-are_gone-clause-some : goal.returns-then-not-are_gone-clause-some
returns-then-not-are_gone-clause-some g c =
    λ gone. false≢true (c.if-not-are_gone.ensures.1 (subst AreGone (sym c.deref.ensures.value) gone))
