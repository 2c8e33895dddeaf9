use Rattle.std.proofs.Common.{ℕ, ◌<◌, sym, subst, arith}
use mathlib.Core.Option.{none}
use Rattle.atomic_table.specs.Table.{step, Allows}
use Rattle.blink_rows.specs.{page_words}
use Rattle.blink_machine.specs.{page_out}
use Rattle.blink_live.specs.declared.view.Plan.{Plan}
use Rattle.blink_live.specs.AtomicSteps.{publishes_new}
use Rattle.blink_live.specs.Rule.{IsTable}
use Rattle.blink_live.specs.Views.{SeatState, plan_of}
use Rattle.blink_live.specs.Words.{BeginWith}
use Rattle.blink_live.proofs.changed.PublishesKeepTable.{new_is_published}
use Rattle.blink_live.proofs.live.Live.publish_new.Goals as goal

pub store-requires : goal.store-requires
store-requires c =
    let in_range = c.requires.in_range.1 in
    let plan : Plan = plan_of c.args.self.now.table.shared.key in
    let slots : ℕ = c.args.self.now.table.shared.table_id.slots in
    let me : SeatState = c.args.seat.now.me in
    let number = c.requires.number in
    let row = c.requires.row in (
      c.requires.seat.same_table,
      omega (arith, c.args.self.now.width, in_range),
      subst (λ (t : ℕ × ℕ). Allows (IsTable plan) slots c.args.seat.now.id me t.0 (λ n. t.1) (λ n. publishes_new (step slots t.0 t.1 0 none) me n)) (λ i. (sym number.0 i, sym row.0 i))
          (new_is_published plan slots c.args.seat.now.id me c.args.machine.now c.requires.seat.role c.requires.at c.requires.fits c.requires.needs
          (subst (λ (x : ℕ). x < me.0.call.pages.stop) number.0 number.1)
          (subst (λ (x : ℕ). x < me.0.call.rows.stop) row.0 row.1)
          (subst (λ (x : ℕ). BeginWith me.0.call.staged (page_words (page_out c.args.machine.now x))) number.0 c.requires.staged) c.requires.may),
    )
