-- `get` meets its contract, as that of every handle.
use prog.Wp.{Tables}
use contract.Running.{tables, tables_of}
use denote.Memory.{lone}
use denote.Triple.Spec.{triple_of}
use denote.Triple.Table.{entered}
use Rattle.like_c.specs.contracts.shared_handle.SharedHandle.get as F
use Rattle.like_c.specs.contracts.shared_handle.SharedHandle.get.Key.{name as #self}
use Rattle.like_c.proofs.shared_handle.SharedHandle.get.Statement as stated
use Rattle.like_c.proofs.shared_handle.SharedHandle.get.Code as code
use Rattle.like_c.proofs.Handle.Get.{meets}
use Rattle.like_c.proofs.Handle.Shared.{the_type}

pub get_spec : {M : Type 1} → stated.statement M
unfolding tables_of
get_spec 𝓤 𝓛 𝓜 𝓡 wired =
    let 𝓣 : Tables 𝓤 𝓛.H = tables_of 𝓤 𝓛.H 𝓜 (tables 𝓤 𝓛.H 𝓜 𝓡 𝓡.env) in
    entered 𝓤 𝓛.H (triple_of 𝓛 F.signature (F.spec 𝓛 𝓜.mem 𝓡.returns)) 𝓣.C 𝓣.Λ #self code.function (code.unfolded 𝓤 𝓛.H 𝓜 𝓡 wired)
    (meets the_type (lone the_type.R.mir) 𝓛 𝓣)
