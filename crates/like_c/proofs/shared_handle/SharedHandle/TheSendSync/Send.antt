-- Why a shared service's handle may go to another thread.
use denote.Param.Send.{IsSend, sendable}
use Rattle.std.proofs.Common.{refl}
use Rattle.like_c.proofs.boxed_shared.BoxedShared.TheSendSync.{the_send as home}
use Rattle.like_c.specs.contracts.boxed_shared.BoxedShared as Home
use Rattle.like_c.specs.contracts.shared_handle.SharedHandle.{the_row, the_type}
use Rattle.like_c.proofs.Handle.Sends.{handle_sends, keyless}

pub send : IsSend the_row
send = handle_sends the_type (search sendable, tt) (λ d. keyless Home.the_row home d.at d.home) (λ k. refl)
