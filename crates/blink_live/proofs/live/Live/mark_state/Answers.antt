use Rattle.std.proofs.Common.{arith}
use Rattle.blink_live.specs.Views.{plan_of}
use Rattle.blink_live.proofs.looked.LeavesAreNoted.{marks_state_at}
use Rattle.blink_live.proofs.live.Live.mark_state.Goals as goal

pub load-requires : goal.load-requires
load-requires c = (
  c.requires.seat.same_table,
  omega (arith, c.args.self.now.width, c.args.self.now.some_number),
  marks_state_at (plan_of c.args.self.now.table.shared.key) c.args.self.now.table.shared.table_id.slots c.args.seat.now.id c.args.seat.now.me c.requires.seat.role,
)
