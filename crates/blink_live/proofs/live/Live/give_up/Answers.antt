use Rattle.std.proofs.Common.{arith}
use Rattle.blink_live.specs.Views.{plan_of}
use Rattle.blink_live.proofs.changed.OperationsAreGivenUp.{operation_is_given_up}
use Rattle.blink_live.proofs.live.Live.give_up.Goals as goal

pub load-requires : goal.load-requires
load-requires c = (
  c.requires.seat.same_table,
  omega (arith, c.args.self.now.width, c.args.self.now.some_number),
  operation_is_given_up (plan_of c.args.self.now.table.shared.key) c.args.self.now.table.shared.table_id.slots c.args.seat.now.id c.args.seat.now.me c.requires.seat.role c.requires.may,
)
