-- Along a history each operation's way is short, and so is that of all together.
use Rattle.std.proofs.Common.{ℕ, ◌+◌, ◌*◌, ◌≤◌, List, length, count_by, arith}
use Rattle.std.specs.Prelude.{nat_lt}
use Rattle.blink_batch.specs.{is_insert}
use Rattle.blink_rest.proofs.Offered.{AllPairs-from_differ}
use Rattle.blink_steps.specs.Counts.{moves_in}
use Rattle.blink_machine.specs.{has_moved}
use Rattle.blink_steps.specs.StepBounds.{read_on_way, latched_by, steps_at_most_with}
use Rattle.blink_steps.specs.Bounds.{IsBounded}
use Rattle.blink_steps.specs.Run.{PlainRun, Event}
use Rattle.blink_steps.proofs.bounds.MetPages.{IsAny, at_most_all}
use Rattle.blink_steps.proofs.runs.RunStatements.{OpeningRunHasInvariant, TurnKeepsRunInvariant, HistoryIsBounded, HistoryWithinStepBound}
use Rattle.blink_machine.proofs.Offered.{TreeLaws}
use Rattle.blink_steps.proofs.bounds.TurnsAddedUp.{turns_are_of_places, turns_at_most, count_of_pairs}
use Rattle.blink_steps.proofs.bounds.StepBoundsStay.{IsWalked, walked_along}

-- the operation at a place has read at most all pages on its way down
reads_at_most_all : (history : List Event) (run : PlainRun) → IsWalked history run → (place : ℕ) → length (read_on_way history place) ≤ length run.shared.store.pages
reads_at_most_all history run walked place =
    let short = walked.everywhere place in
    at_most_all run.shared.store IsAny (read_on_way history place) short.reads_differ short.reads_there

-- and has latched at most all
latches_at_most_all : (history : List Event) (run : PlainRun) → IsWalked history run → (place : ℕ) → length (latched_by history place) ≤ length run.shared.store.pages
latches_at_most_all history run walked place =
    let short = walked.everywhere place in
    at_most_all run.shared.store IsAny (latched_by history place) short.latches_differ short.latches_there

-- so its steps are few
moves_are_few : (history : List Event) (run : PlainRun) → IsWalked history run → (place : ℕ) → moves_in history place ≤ steps_at_most_with (length run.shared.store.pages)
moves_are_few history run walked place =
    let short = walked.everywhere place in
    let reads = reads_at_most_all history run walked place in
    let latches = latches_at_most_all history run walked place in
    omega (arith, short.moves)

-- along a history each operation's way is short
pub short_along : TreeLaws → OpeningRunHasInvariant → TurnKeepsRunInvariant → HistoryIsBounded → HistoryWithinStepBound
short_along laws opening_run_has_invariant turn_keeps_run_invariant history_is_bounded start ops assignment opening run history entries may_begin ascending are_entries begins follows =
    let walked : IsWalked history run =
    walked_along laws opening_run_has_invariant turn_keeps_run_invariant start ops assignment opening run history entries may_begin ascending are_entries begins follows in
    let bounded : IsBounded start history run = history_is_bounded start ops assignment opening run history entries may_begin ascending are_entries begins follows in
    let inserts = count_of_pairs is_insert (λ (count : ℕ). nat_lt 0 count) run.ops run.outcome.moves in
    let pages : length run.shared.store.pages ≤ length start.pages + 22 * count_by is_insert run.ops = omega (arith, bounded.pages) in
    let most : ℕ = steps_at_most_with (length start.pages + 22 * count_by is_insert run.ops) in
    let each : (place : ℕ) → moves_in history place ≤ most = λ place. let few = moves_are_few history run walked place in omega arith in
    let places = turns_are_of_places (λ (taken : Event). has_moved taken.step) history run.ops walked.of_batch in
    let sum = turns_at_most (λ (taken : Event). has_moved taken.step) history 0 most run.ops each in
    record {
      reads_no_page_twice = λ place. AllPairs-from_differ (read_on_way history place) (walked.everywhere place).reads_differ;
      latches_no_page_twice = λ place. AllPairs-from_differ (latched_by history place) (walked.everywhere place).latches_differ;
      reads_of_find = λ place key there.
          let reads = reads_at_most_all history run walked place in
          omega (arith, (walked.everywhere place).reads_of_find key there);
      moves = moves_are_few history run walked;
      moves_in_all = omega (arith, places, sum);
    }
