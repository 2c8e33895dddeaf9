use Rattle.std.proofs.Common.{◌≤◌, subst, arith}
use Rattle.blink_rows.specs.{PlainCounts}
use Rattle.blink_live.specs.Views.{plan_of}
use Rattle.blink_live.proofs.reuse.RowsComeIn.{takes_row_in_at}
use Rattle.blink_live.proofs.live.Live.take_row_in.Goals as goal

pub load-requires : goal.load-requires
load-requires c =
    let live = c.args.self.now in
    let common : 1 ≤ (plan_of live.table.shared.key).places = let some = c.requires.common in let same = live.places_are in omega (arith, some, same) in (
      c.requires.seat.same_table,
      omega (arith, live.width, live.some_number),
      takes_row_in_at (plan_of live.table.shared.key) live.table.shared.table_id.slots c.args.seat.now.id c.args.seat.now.me c.requires.some_free.0 c.requires.some_free.1 c.requires.seat.role common (subst (λ (counts : PlainCounts). 1 ≤ counts.numbers) live.counts_are live.some_number) c.requires.some_free.2,
    )
