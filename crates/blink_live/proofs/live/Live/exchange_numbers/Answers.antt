use Rattle.std.proofs.Common.{arith}
use Rattle.blink_live.specs.Views.{plan_of}
use Rattle.blink_live.proofs.reuse.NumbersAreExchanged.{exchanges_numbers_at}
use Rattle.blink_live.proofs.live.Live.exchange_numbers.Goals as goal

pub load-requires : goal.load-requires
load-requires c =
    let live = c.args.self.now in (
      c.requires.seat.same_table,
      omega (arith, live.width, live.some_number),
      exchanges_numbers_at (plan_of live.table.shared.key) live.table.shared.table_id.slots c.args.seat.now.id c.args.seat.now.me c.requires.seat.role c.requires.some,
    )
