-- A handle may go to another thread, since a box of a session may.
use denote.Param.Send.{IsSend}
use Rattle.blink_handles.proofs.Offered.{session_owner_send as owner}
use Rattle.blink_c.specs.contracts.session_handle.SessionHandle.{the_row}
use Rattle.blink_c.proofs.HandleSend.{sends}
use Rattle.blink_c.proofs.SessionKind.{session}

pub send : IsSend the_row
send = sends session owner
