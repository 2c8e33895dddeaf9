-- A pending operation may go to another thread.
use denote.Param.Send.{IsSend, sendable}
use Rattle.std.proofs.Crossing.{crosses}
use Rattle.blink_live.proofs.live.UnderWay.TheSendSync as under_way
use Rattle.blink_live.specs.contracts.live.Pending.{the_row}

pub pending_send : IsSend the_row
pending_send = search (sendable, crosses, under_way.the_field_send) depth 12
