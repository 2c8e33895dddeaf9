use Rattle.std.proofs.Common.{◌≡◌, ℕ, ◌+◌, ◌≤◌, sym, subst, eqb, arith}
use mathlib.Core.Option.{none}
use prog.Atomic.{either}
use Rattle.atomic_table.specs.Table.{step, Allows}
use Rattle.blink_rows.specs.{PlainCounts}
use Rattle.blink_live.specs.declared.view.Plan.{Plan}
use Rattle.blink_live.specs.{IsCommon, IsTable, SeatState, draws_rows, plan_of, pool_row}
use Rattle.blink_live.proofs.Offered.{rows_are_drawn}
use Rattle.blink_generation.proofs.pool.exchange_rows.Goals as goal

pub compare_exchange-requires : goal.compare_exchange-requires
compare_exchange-requires c =
    let live = c.args.live.now in
    let plan : Plan = plan_of live.table.shared.key in
    let slots : ℕ = live.table.shared.table_id.slots in
    let me : SeatState = c.args.seat.now.me in
    let some_number : 1 ≤ plan.counts.numbers = subst (λ (counts : PlainCounts). 1 ≤ counts.numbers) live.counts_are live.some_number in
    let common : IsCommon plan = subst (λ (n : ℕ). 1 ≤ n) live.places_are c.requires.common in
    let word : c.row_word-word.result ≡ pool_row live.counts = c.row_word-word.ensures in
    let at : pool_row plan.counts ≡ c.row_word-word.result = sym (subst (λ (counts : PlainCounts). c.row_word-word.result ≡ pool_row counts) live.counts_are word) in
    let order = c.requires.rows in (
      c.requires.seat.same_table,
      omega (arith, live.width, word, c.requires.common),
      subst (λ (n : ℕ). Allows (IsTable plan) slots c.args.seat.now.id me n (λ k. either (eqb k c.args.next) c.args.stop k) (draws_rows (step slots n c.args.next c.args.stop none) me)) at
          (rows_are_drawn plan slots c.args.seat.now.id c.args.next c.args.stop me c.requires.seat.role common some_number order.0 (subst (λ (counts : PlainCounts). c.args.stop ≤ counts.rows + 1) live.counts_are order.1)),
    )
