use Rattle.std.proofs.Common.{ℕ, arith}
use Rattle.blink_live.specs.declared.view.Plan.{Plan}
use Rattle.blink_live.specs.Views.{SeatState, plan_of}
use Rattle.blink_live.proofs.added.RecordsAreCounted.{record_is_counted}
use Rattle.blink_live.proofs.live.Live.count_added.Goals as goal

pub store-requires : goal.store-requires
store-requires c =
    let in_range = c.requires.in_range in
    let plan : Plan = plan_of c.args.self.now.table.shared.key in
    let slots : ℕ = c.args.self.now.table.shared.table_id.slots in
    let me : SeatState = c.args.seat.now.me in (
      c.requires.seat.same_table,
      omega (arith, c.args.self.now.width, in_range),
      record_is_counted plan slots c.args.seat.now.id c.args.number c.args.word me c.requires.at.0 c.requires.seat.role c.requires.at.1 c.requires.at.2 c.requires.at.3 c.requires.at.4 c.requires.at.5,
    )
