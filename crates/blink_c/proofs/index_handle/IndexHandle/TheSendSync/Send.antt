-- A handle may go to another thread, since a box of an index may.
use denote.Param.Send.{IsSend}
use Rattle.blink_index.proofs.index.Index.TheSendSync.{the_send as owner}
use Rattle.blink_c.specs.contracts.index_handle.IndexHandle.{the_row}
use Rattle.blink_c.proofs.HandleSend.{sends}
use Rattle.blink_c.proofs.IndexKind.{index}

pub send : IsSend the_row
send = sends index owner
