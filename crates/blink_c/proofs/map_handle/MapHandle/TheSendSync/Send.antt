-- A handle may go to another thread, since a box of a map may.
use denote.Param.Send.{IsSend}
use Rattle.blink_handles.proofs.Offered.{map_owner_send as owner}
use Rattle.blink_c.specs.contracts.map_handle.MapHandle.{the_row}
use Rattle.blink_c.proofs.HandleSend.{sends}
use Rattle.blink_c.proofs.MapKind.{map}

pub send : IsSend the_row
send = sends map owner
