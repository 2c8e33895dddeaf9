use Rattle.std.proofs.Common.{◌≡◌, ℕ, ◌+◌, ◌<◌, ◌≤◌, sym, ap, ◌∙◌, subst, arith}
use mathlib.Core.Option.{none}
use Rattle.atomic_table.specs.Table.{step, Allows}
use Rattle.blink_rows.specs.{PlainCounts}
use Rattle.blink_live.specs.declared.view.Plan.{Plan}
use Rattle.blink_live.specs.AtomicSteps.{stores_word}
use Rattle.blink_live.specs.Rule.{IsTable}
use Rattle.blink_live.specs.Views.{SeatState, plan_of}
use Rattle.blink_live.specs.Words.{row_start}
use Rattle.blink_live.proofs.changed.StagingKeepsTable.{word_is_staged}
use Rattle.blink_live.proofs.live.Live.store_word.Goals as goal

pub store-requires : goal.store-requires
store-requires c =
    let row = c.requires.row in
    let plan : Plan = plan_of c.args.self.now.table.shared.key in
    let slots : ℕ = c.args.self.now.table.shared.table_id.slots in
    let me : SeatState = c.args.seat.now.me in
    let start : row_start plan.counts me.0.call.rows.next + c.args.place ≡ c.row_start-start.result + c.args.place =
    ap (λ (x : ℕ). x + c.args.place) (ap (row_start plan.counts) (sym row.0.0) ∙ (ap (λ (counts : PlainCounts). row_start counts c.args.row) (sym c.args.self.now.counts_are) ∙ sym c.row_start-start.ensures)) in (
      c.requires.seat.same_table,
      omega (arith, c.args.self.now.width, row, c.requires.place, c.row_start-start.ensures),
      subst (λ (at : ℕ). Allows (IsTable plan) slots c.args.seat.now.id me at (λ n. c.args.word) (λ n. stores_word (step slots at c.args.word 0 none) me n)) start
          (word_is_staged plan slots c.args.seat.now.id c.args.place c.args.word me c.requires.seat.role (subst (λ (x : ℕ). x < me.0.call.rows.stop) row.0.0 row.0.1) c.requires.place.0 (subst (λ (counts : PlainCounts). 1 ≤ counts.numbers) c.args.self.now.counts_are c.requires.place.1)),
    )
