use Rattle.std.proofs.Common.{ℕ, ◌<◌, sym, subst, arith}
use mathlib.Core.Option.{none}
use Rattle.atomic_table.specs.Table.{step, Allows}
use Rattle.blink_rows.specs.{PlainCounts}
use Rattle.blink_live.specs.declared.view.Plan.{Plan}
use Rattle.blink_live.specs.AtomicSteps.{PublishesPage, publishes_page}
use Rattle.blink_live.specs.Rule.{IsTable}
use Rattle.blink_live.specs.Views.{SeatState, plan_of}
use Rattle.blink_live.proofs.changed.PublishesKeepTable.{page_is_published}
use Rattle.blink_live.proofs.live.Live.name_row.Goals as goal

pub swap-before-requires : goal.swap-before-requires
swap-before-requires c =
    let in_range = c.requires.in_range in
    let plan : Plan = plan_of c.args.self.now.table.shared.key in
    let slots : ℕ = c.args.self.now.table.shared.table_id.slots in
    let me : SeatState = c.args.seat.now.me in (
      c.requires.seat.same_table,
      omega (arith, c.args.self.now.width, in_range),
      subst (λ (x : ℕ). Allows (IsTable plan) slots c.args.seat.now.id me c.args.number (λ n. x) (λ n. publishes_page (step slots c.args.number x 0 none) me n)) (sym c.requires.row.0)
          (page_is_published plan slots c.args.seat.now.id c.args.number me c.requires.at.0 c.requires.seat.role c.requires.at.1 c.requires.at.2 c.requires.at.3 in_range.0
          (subst (λ (counts : PlainCounts). c.args.number < counts.numbers) c.args.self.now.counts_are in_range.1)
          (subst (λ (x : ℕ). x < me.0.call.rows.stop) c.requires.row.0 c.requires.row.1) c.requires.at.5 c.requires.at.4),
    )

pub returns-clause-published : goal.returns-clause-published
returns-clause-published c m at needs = subst (λ (out : ℕ). PublishesPage c.args.number out m c.args.seat.now.me c.swap-before.new.seat.me) (sym c.row_in.ensures.row) (c.swap-before.ensures.2 m at needs)
