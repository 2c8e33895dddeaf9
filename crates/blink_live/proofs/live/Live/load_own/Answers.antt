use Rattle.std.proofs.Common.{◌≡◌, ℕ, ◌+◌, ◌<◌, sym, ap, ◌∙◌, subst, arith}
use mathlib.Core.Option.{none}
use Rattle.atomic_table.specs.Table.{step, Allows}
use Rattle.blink_rows.specs.{PlainCounts}
use Rattle.blink_live.specs.declared.view.Plan.{Plan}
use Rattle.blink_live.specs.AtomicSteps.{knows_more}
use Rattle.blink_live.specs.Rule.{IsTable}
use Rattle.blink_live.specs.Views.{SeatState, plan_of}
use Rattle.blink_live.specs.Words.{row_start}
use Rattle.blink_live.proofs.changed.StagingKeepsTable.{word_is_known}
use Rattle.blink_live.proofs.live.Live.load_own.Goals as goal

pub load-requires : goal.load-requires
load-requires c =
    let row = c.requires.row in
    let plan : Plan = plan_of c.args.self.now.table.shared.key in
    let slots : ℕ = c.args.self.now.table.shared.table_id.slots in
    let me : SeatState = c.args.seat.now.me in
    let start : row_start plan.counts me.0.call.rows.next + c.args.place ≡ c.row_start-start.result + c.args.place =
    ap (λ (x : ℕ). x + c.args.place) (ap (row_start plan.counts) (sym row.0.0) ∙ (ap (λ (counts : PlainCounts). row_start counts c.args.row) (sym c.args.self.now.counts_are) ∙ sym c.row_start-start.ensures)) in (
      c.requires.seat.same_table,
      omega (arith, c.args.self.now.width, row, c.requires.place, c.row_start-start.ensures),
      subst (λ (at : ℕ). Allows (IsTable plan) slots c.args.seat.now.id me at (λ k. k) (knows_more (step slots at 0 0 none) me)) start
          (word_is_known plan slots c.args.seat.now.id c.args.place me c.requires.seat.role (subst (λ (x : ℕ). x < me.0.call.rows.stop) row.0.0 row.0.1) c.requires.next),
    )
