use Rattle.std.proofs.Common.{◌<◌, sym, subst, arith}
use Rattle.blink_rows.specs.{PlainCounts}
use Rattle.blink_live.specs.Views.{IsCommon, plan_of}
use Rattle.blink_live.proofs.looked.LeavesAreNoted.{looks_again_at}
use Rattle.blink_live.proofs.live.Live.look_again.Goals as goal

pub load-requires : goal.load-requires
load-requires c =
    let live = c.args.self.now in
    let in_range = c.requires.in_range in (
      c.requires.seat.same_table,
      omega (arith, live.width, in_range),
      looks_again_at (plan_of live.table.shared.key) live.table.shared.table_id.slots c.args.seat.now.id c.args.number c.args.seat.now.me c.requires.seat.role
          (λ common. c.requires.idle.announced (subst IsCommon (sym c.requires.seat.same_plan) common)) in_range.0
          (subst (λ (counts : PlainCounts). c.args.number < counts.numbers) live.counts_are in_range.1),
    )
