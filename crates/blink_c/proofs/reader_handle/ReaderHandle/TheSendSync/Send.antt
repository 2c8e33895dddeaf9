-- A handle may go to another thread, since a box of a reader may.
use denote.Param.Send.{IsSend}
use Rattle.blink_handles.proofs.reader_owner.ReaderOwner.TheSendSync.{the_send as owner}
use Rattle.blink_c.specs.contracts.reader_handle.ReaderHandle.{the_row}
use Rattle.blink_c.proofs.HandleSend.{sends}
use Rattle.blink_c.proofs.ReaderKind.{reader}

pub send : IsSend the_row
send = sends reader owner
