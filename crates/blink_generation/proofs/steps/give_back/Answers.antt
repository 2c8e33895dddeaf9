use Rattle.std.proofs.Common.{◌≤◌, subst, arith}
use Rattle.blink_rows.specs.{PlainCounts}
use Rattle.blink_live.specs.{plan_of}
use Rattle.blink_live.proofs.Offered.{room_comes_back}
use Rattle.blink_generation.proofs.steps.give_back.Goals as goal

pub load-requires : goal.load-requires
load-requires c =
    let some_number : 1 ≤ (plan_of c.args.live.now.table.shared.key).counts.numbers = subst (λ (counts : PlainCounts). 1 ≤ counts.numbers) c.args.live.now.counts_are c.args.live.now.some_number in (
      c.requires.seat.same_table,
      omega (arith, c.args.live.now.width, c.args.live.now.some_number),
      room_comes_back (plan_of c.args.live.now.table.shared.key) c.args.live.now.table.shared.table_id.slots c.args.seat.now.id c.args.seat.now.me some_number c.requires.seat.role c.requires.can,
    )
