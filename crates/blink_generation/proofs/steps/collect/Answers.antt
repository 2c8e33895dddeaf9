use Rattle.std.proofs.Common.{◌≤◌, arith}
use Rattle.blink_live.specs.{plan_of}
use Rattle.blink_live.proofs.Offered.{collects_at}
use Rattle.blink_generation.proofs.steps.collect.Goals as goal

pub load-requires : goal.load-requires
load-requires c =
    let live = c.args.live.now in
    let common : 1 ≤ (plan_of live.table.shared.key).places = let some = c.requires.common in let same = live.places_are in omega (arith, some, same) in (
      c.requires.seat.same_table,
      omega (arith, live.width, live.some_number),
      collects_at (plan_of live.table.shared.key) live.table.shared.table_id.slots c.args.seat.now.id c.args.seat.now.me c.requires.seat.role common (let all = c.requires.all_past in let same = live.places_are in omega (arith, all, same)),
    )
