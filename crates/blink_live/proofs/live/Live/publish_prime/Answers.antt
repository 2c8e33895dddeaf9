use Rattle.std.proofs.Common.{ℕ, ◌<◌, ◌≤◌, sym, subst, arith}
use mathlib.Core.Option.{none}
use Rattle.atomic_table.specs.Table.{step, Allows}
use Rattle.blink_rows.specs.{PlainCounts}
use Rattle.blink_live.specs.declared.view.Plan.{Plan}
use Rattle.blink_live.specs.AtomicSteps.{PublishesPrime, publishes_prime}
use Rattle.blink_live.specs.Rule.{IsTable}
use Rattle.blink_live.specs.Views.{SeatState, plan_of}
use Rattle.blink_live.proofs.changed.PublishesKeepTable.{prime_is_published}
use Rattle.blink_live.proofs.live.Live.publish_prime.Goals as goal

pub swap-before-requires : goal.swap-before-requires
swap-before-requires c =
    let plan : Plan = plan_of c.args.self.now.table.shared.key in
    let slots : ℕ = c.args.self.now.table.shared.table_id.slots in
    let me : SeatState = c.args.seat.now.me in
    let some_number = c.args.self.now.some_number in
    let row = c.requires.row in (
      c.requires.seat.same_table,
      omega (arith, c.args.self.now.width, some_number),
      subst (λ (x : ℕ). Allows (IsTable plan) slots c.args.seat.now.id me 0 (λ n. x) (λ n. publishes_prime (step slots 0 x 0 none) me n)) (sym row.0)
          (prime_is_published plan slots c.args.seat.now.id me c.args.machine.now c.requires.staged.0 c.requires.seat.role c.requires.at c.requires.fits c.requires.needs c.requires.staged.1
          (subst (λ (counts : PlainCounts). 1 ≤ counts.numbers) c.args.self.now.counts_are some_number)
          (subst (λ (x : ℕ). x < me.0.call.rows.stop) row.0 row.1) c.requires.staged.2 c.requires.may),
    )

pub returns-clause-published : goal.returns-clause-published
returns-clause-published c = subst (λ (out : ℕ). PublishesPrime out c.args.machine.now c.args.seat.now.me c.swap-before.new.seat.me) (sym c.row_in.ensures.row) (c.swap-before.ensures.2 c.args.machine.now c.requires.at c.requires.needs)
