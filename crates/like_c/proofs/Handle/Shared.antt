-- `SharedHandle` as a handle.
use mathlib.Core.Path.{refl}
use Rattle.like_c.specs.contracts.shared_handle.SharedHandle as Handle
use Rattle.like_c.specs.contracts.boxed_shared.BoxedShared as Home
use Rattle.like_c.proofs.Handle.Kind.{HandleType}

abbrev pub the_type : HandleType
the_type = record {
  name = Handle.the_type.name;
  held = Home.the_type.name;
  S = Handle.the_row;
  R = Home.the_row;
  at = λ h. h.at;
  home = λ h. h.home;
  make = λ p home. record { at = p; home = home };
  home_is = λ p home. refl;
  owns = λ h us. refl;
  made = λ p home us. refl;
  one = tt;
  laid = refl;
}
