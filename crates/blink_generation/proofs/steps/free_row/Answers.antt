use Rattle.std.proofs.Common.{◌-◌, ◌≤◌, subst, arith}
use Rattle.blink_rows.specs.{PlainCounts}
use Rattle.blink_live.specs.{plan_of}
use Rattle.blink_live.proofs.Offered.{frees_row_at}
use Rattle.blink_generation.proofs.steps.free_row.Goals as goal

pub load-requires : goal.load-requires
load-requires c =
    let live = c.args.live.now in
    let common : 1 ≤ (plan_of live.table.shared.key).places = let some = c.requires.common in let same = live.places_are in omega (arith, some, same) in
    let rows = c.args.seat.now.me.0.rows in
    let some_row = c.requires.some_row in (
      c.requires.seat.same_table,
      omega (arith, live.width, live.some_number),
      frees_row_at (plan_of live.table.shared.key) live.table.shared.table_id.slots c.args.seat.now.id c.args.seat.now.me (rows.stop - 1) c.requires.seat.role common (subst (λ (counts : PlainCounts). 1 ≤ counts.numbers) live.counts_are live.some_number) (omega (arith, some_row)) (omega (arith, some_row)),
    )

pub returns-clause-free : goal.returns-clause-free
returns-clause-free c row stop = let some_row = c.requires.some_row in c.load.ensures.2 row (omega (arith, some_row, stop)) stop
