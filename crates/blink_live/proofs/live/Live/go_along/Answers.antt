use Rattle.std.proofs.Common.{sym, subst, arith}
use Rattle.blink_live.specs.Views.{IsCommon, plan_of}
use Rattle.blink_live.proofs.looked.LeavesAreFollowed.{goes_along_at}
use Rattle.blink_live.proofs.looked.SeatsGoAlong.{noted_in_plan, plan_counts}
use Rattle.blink_live.proofs.live.Live.go_along.Goals as goal

pub load-requires : goal.load-requires
load-requires c =
    let live = c.args.self.now in
    let in_range = c.requires.leaf.in_range in (
      c.requires.seat.same_table,
      omega (arith, live.width, in_range),
      goes_along_at (plan_of live.table.shared.key) live.table.shared.table_id.slots c.args.seat.now.id c.args.number c.args.seat.now.me c.requires.seat.same_plan c.requires.seat.role
          (λ common. c.requires.idle.announced (subst IsCommon (sym c.requires.seat.same_plan) common))
          (noted_in_plan live.counts c.args.seat.now.me.0.plan.counts c.args.seat.now.me.0.look c.args.number (sym (plan_counts live c.args.seat.now.table_id c.args.seat.now.me c.requires.seat)) c.requires.leaf),
    )
