use Rattle.std.proofs.Common.{◌≡◌, ℕ, ◌+◌, ◌*◌, ◌≤◌, sym, ap, ◌∙◌, subst, arith}
use mathlib.Core.Option.{none}
use Rattle.atomic_table.specs.Table.{step, Allows}
use Rattle.blink_rows.specs.{PlainCounts}
use Rattle.blink_live.specs.declared.view.Plan.{Plan}
use Rattle.blink_live.specs.{IsTable, SeatState, marks_place, place_word, plan_of}
use Rattle.blink_live.proofs.Offered.{place_is_marked}
use Rattle.blink_generation.proofs.steps.mark_place.Goals as goal

pub store-requires : goal.store-requires
store-requires c =
    let live = c.args.live.now in
    let plan : Plan = plan_of live.table.shared.key in
    let slots : ℕ = live.table.shared.table_id.slots in
    let me : SeatState = c.args.seat.now.me in
    let its = c.requires.place in
    let some_number : 1 ≤ plan.counts.numbers = subst (λ (counts : PlainCounts). 1 ≤ counts.numbers) live.counts_are live.some_number in
    let common : 1 ≤ plan.places = let inside = its.1 in let same = live.places_are in omega (arith, inside, same) in
    let at : place_word plan.counts me.0.place ≡ c.word_count-start.result + 8 * c.args.place = (λ i. place_word (sym live.counts_are i) (sym its.0 i)) ∙ ap (λ (n : ℕ). n + 8 * c.args.place) (sym c.word_count-start.ensures) in
    let inside = its.1 in (
      c.requires.seat.same_table,
      omega (arith, live.width, inside, c.word_count-start.ensures),
      subst (λ (n : ℕ). Allows (IsTable plan) slots c.args.seat.now.id me n (λ k. c.args.busy) (λ k. marks_place (step slots n c.args.busy 0 none) me c.args.busy)) at
          (place_is_marked plan slots c.args.seat.now.id c.args.busy me c.requires.seat.role common some_number c.requires.idle),
    )

pub overflow_mul-place : goal.overflow_mul-place
overflow_mul-place c = let inside = c.requires.place.1 in omega (arith, c.args.live.now.width, inside, c.word_count-count.ensures, c.word_count-count.type_inv)

pub overflow_add-start : goal.overflow_add-start
overflow_add-start c = let inside = c.requires.place.1 in omega (arith, c.args.live.now.width, inside, c.word_count-start.ensures, c.word_count-count.ensures, c.word_count-count.type_inv)

pub returns-clause-same : goal.returns-clause-same
returns-clause-same c = (c.store.ensures.0, c.store.ensures.1)

pub returns-clause-marked : goal.returns-clause-marked
returns-clause-marked c = c.store.ensures.2.is

pub returns-clause-authors : goal.returns-clause-authors
returns-clause-authors c = c.store.ensures.2.authors
