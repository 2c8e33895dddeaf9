use Rattle.std.proofs.Common.{◌≡◌, ℕ, ◌+◌, ◌<◌, ◌≤◌, sym, ap, ◌∙◌, subst, arith}
use mathlib.Core.Option.{none}
use prog.Atomic.{either}
use Rattle.std.proofs.Common.{eqb}
use Rattle.atomic_table.specs.Table.{step, Allows}
use Rattle.blink_rows.specs.{PlainCounts}
use Rattle.blink_live.specs.declared.view.Plan.{Plan}
use Rattle.blink_live.specs.AtomicSteps.{tries_latch}
use Rattle.blink_live.specs.Rule.{IsTable}
use Rattle.blink_live.specs.Views.{SeatState, plan_of}
use Rattle.blink_live.proofs.changed.LatchesKeepTable.{at_place, latch_is_tried}
use Rattle.blink_live.proofs.live.Live.take_latch.Goals as goal

pub compare_exchange-requires : goal.compare_exchange-requires
compare_exchange-requires c =
    let in_range = c.requires.in_range in
    let own = c.requires.own in
    let plan : Plan = plan_of c.args.self.now.table.shared.key in
    let slots : ℕ = c.args.self.now.table.shared.table_id.slots in
    let me : SeatState = c.args.seat.now.me in
    let counts_are = c.args.self.now.counts_are in (
      c.requires.seat.same_table,
      omega (arith, c.args.self.now.width, in_range, c.latch_place-word.ensures),
      subst (λ (t : ℕ × ℕ). Allows (IsTable plan) slots c.args.seat.now.id me t.0 (λ n. either (eqb n 0) t.1 n) (tries_latch (step slots t.0 0 t.1 none) me)) (λ i. (at_place c.args.number c.latch_place-word.result c.args.self.now.counts plan.counts counts_are c.latch_place-word.ensures i, sym own.0 i))
          (latch_is_tried plan slots c.args.seat.now.id c.args.number me c.requires.at.0 c.requires.seat.role c.requires.at.1 c.requires.at.2 c.requires.at.3 (subst (λ (counts : PlainCounts). c.args.number < counts.numbers) counts_are in_range) (subst (λ (n : ℕ). 1 ≤ n) own.0 own.1)),
    )

tried : (number place : ℕ) (counts other : PlainCounts) → counts ≡ other → place ≡ counts.numbers + number → place ≡ other.numbers + number
tried number place counts other same is = is ∙ ap (λ (k : PlainCounts). k.numbers + number) same

pub returns-then-compare_exchange-ne0-clause-lost : goal.returns-then-compare_exchange-ne0-clause-lost
returns-then-compare_exchange-ne0-clause-lost c not =
    let same_counts = c.args.self.now.counts_are ∙ sym (ap (λ (p : Plan). p.counts) c.requires.seat.same_plan) in
    let place = tried c.args.number c.latch_place-word.result c.args.self.now.counts c.args.seat.now.me.0.plan.counts same_counts c.latch_place-word.ensures in
    (c.compare_exchange.ensures.2 c.requires.at.0 c.args.number c.requires.at.1 c.requires.at.3 place).lost c.if-compare_exchange-ne0.true

pub returns-clause-got : goal.returns-clause-got
returns-clause-got c is m at needs =
    let same_counts = c.args.self.now.counts_are ∙ sym (ap (λ (p : Plan). p.counts) c.requires.seat.same_plan) in
    let place = tried c.args.number c.latch_place-word.result c.args.self.now.counts c.args.seat.now.me.0.plan.counts same_counts c.latch_place-word.ensures in
    (c.compare_exchange.ensures.2 m c.args.number at needs place).got c.if-compare_exchange-ne0.false
