use Rattle.std.proofs.Common.{arith}
use Rattle.blink_live.specs.Views.{plan_of}
use Rattle.blink_live.proofs.told.LooksUpKeepTable.{looks_around_at_prime}
use Rattle.blink_live.proofs.live.Live.look_around.Goals as goal

pub load-requires : goal.load-requires
load-requires c =
    let keeper = c.requires.keeper in (
      c.requires.table,
      omega (arith, c.args.self.now.width, c.args.self.now.some_number),
      looks_around_at_prime (plan_of c.args.self.now.table.shared.key) c.args.self.now.table.shared.table_id.slots c.args.seat.now.id c.args.seat.now.me keeper.0 keeper.1 keeper.2 c.requires.owned,
    )
