use denote.Param.Send.{sendable}
use Rattle.blink_live.proofs.Offered.{pending_send}
use Rattle.blink_live_tests.proofs.shared.Shared.insert_all.Goals as goal

pub map_vec-requires-send-J : goal.map_vec-requires-send-J
map_vec-requires-send-J g c κs within = search (sendable, pending_send)
