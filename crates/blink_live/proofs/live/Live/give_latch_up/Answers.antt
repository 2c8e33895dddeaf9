use Rattle.std.proofs.Common.{ℕ, ◌<◌, subst, arith}
use mathlib.Core.Option.{none}
use Rattle.atomic_table.specs.Table.{step, Allows}
use Rattle.blink_rows.specs.{PlainCounts}
use Rattle.blink_live.specs.declared.view.Plan.{Plan}
use Rattle.blink_live.specs.GivingUp.{giving_up}
use Rattle.blink_live.specs.Rule.{IsTable}
use Rattle.blink_live.specs.Views.{SeatState, plan_of}
use Rattle.blink_live.proofs.changed.LatchesKeepTable.{at_place}
use Rattle.blink_live.proofs.changed.OperationsAreGivenUp.{latch_is_given_up}
use Rattle.blink_live.proofs.live.Live.give_latch_up.Goals as goal

pub store-requires : goal.store-requires
store-requires c =
    let in_range = c.requires.in_range in
    let plan : Plan = plan_of c.args.self.now.table.shared.key in
    let slots : ℕ = c.args.self.now.table.shared.table_id.slots in
    let me : SeatState = c.args.seat.now.me in
    let counts_are = c.args.self.now.counts_are in (
      c.requires.seat.same_table,
      omega (arith, c.args.self.now.width, in_range, c.latch_place-word.ensures),
      subst (λ (at : ℕ). Allows (IsTable plan) slots c.args.seat.now.id me at (λ n. 0) (λ n. giving_up (step slots at 0 0 none) me n)) (at_place c.args.number c.latch_place-word.result c.args.self.now.counts plan.counts counts_are c.latch_place-word.ensures)
          (latch_is_given_up plan slots c.args.seat.now.id c.args.number me c.requires.seat.role c.requires.may (subst (λ (counts : PlainCounts). c.args.number < counts.numbers) counts_are in_range)),
    )
