-- Why a client's handle may go to another thread.
use denote.Param.Send.{IsSend, sendable}
use Rattle.std.proofs.Common.{refl}
use Rattle.like_c.proofs.boxed_client.BoxedClient.TheSendSync.{the_send as home}
use Rattle.like_c.specs.contracts.boxed_client.BoxedClient as Home
use Rattle.like_c.specs.contracts.client_handle.ClientHandle.{the_row, the_type}
use Rattle.like_c.proofs.Handle.Sends.{handle_sends, keyless}

pub send : IsSend the_row
send = handle_sends the_type (search sendable, tt) (λ d. keyless Home.the_row home d.at d.home) (λ k. refl)
