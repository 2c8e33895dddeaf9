use Rattle.std.proofs.Common.{◌≡◌, ℕ, Some, ◌+◌, sym, ap, ◌∙◌, subst, arith}
use mathlib.Core.Option.{none}
use Rattle.atomic_table.specs.Table.{step, Allows}
use Rattle.blink_rows.specs.{PlainCounts, row_in}
use Rattle.blink_live.specs.declared.view.Plan.{Plan}
use Rattle.blink_live.specs.AtomicSteps.{adds_word}
use Rattle.blink_live.specs.Rule.{IsTable}
use Rattle.blink_live.specs.Views.{SeatState, plan_of}
use Rattle.blink_live.specs.Words.{row_start}
use Rattle.blink_live.proofs.added.WordsAreAdded.{word_is_added}
use Rattle.blink_live.proofs.live.Live.add_word.Goals as goal

pub store-requires : goal.store-requires
store-requires c =
    let row = c.requires.row in
    let next = c.requires.next in
    let plan : Plan = plan_of c.args.self.now.table.shared.key in
    let slots : ℕ = c.args.self.now.table.shared.table_id.slots in
    let me : SeatState = c.args.seat.now.me in
    let start : row_start plan.counts (row_in next.a.word) + c.args.place ≡ c.row_start-start.result + c.args.place =
    ap (λ (x : ℕ). x + c.args.place) (ap (row_start plan.counts) next.same_row ∙ (ap (λ (counts : PlainCounts). row_start counts c.args.row) (sym c.args.self.now.counts_are) ∙ sym c.row_start-start.ensures)) in (
      c.requires.seat.same_table,
      omega (arith, c.args.self.now.width, row, c.requires.inside, c.row_start-start.ensures),
      subst (λ (at : ℕ). Allows (IsTable plan) slots c.args.seat.now.id me at (λ n. c.args.word) (λ n. adds_word (step slots at c.args.word 0 none) me n)) start
          (word_is_added plan slots c.args.seat.now.id c.args.place c.args.word me next.a next.content c.requires.seat.role next.appends
          (subst (λ (r : ℕ). me.0.reads ≡ Some (r, next.content)) (sym next.same_row) next.reads) next.next c.requires.inside),
    )
