-- Along a history no operation takes more than its numbers and writes, and a number is left for each new page.
use Rattle.std.proofs.Common.{◌≡◌, ℕ, zero, suc, ◌+◌, ◌*◌, ◌<◌, ◌≤◌, ◌&&◌, ◌∙◌, Bool, true, Some, List, [], ◌∷◌, length, count_by, slice_get, ap, sym, inl, inr, arith}
use Rattle.std.specs.Prelude.{nat_lt}
use Rattle.std.specs.List.{zip}
use Rattle.std.proofs.lemmas.Bool.{cases_lt, lt-ltb}
use Rattle.std.proofs.lemmas.Option.{slice_get_within}
use Rattle.std.proofs.lemmas.Slice.Zip.{length-zip}
use Rattle.blink_batch.specs.declared.Op.{Op}
use Rattle.blink_batch.specs.{is_insert}
use Rattle.blink_store.specs.{PlainStore}
use Rattle.blink_batch.specs.declared.Op.TheVariants.{Insert}
use Rattle.blink_machine.specs.declared.machine.Job.TheVariants.{Leaf}
use Rattle.blink_machine.specs.{one_if, numbers_for, numbers_left}
use Rattle.blink_steps.specs.Counts.{numbers_in, moves_in, takes_number, begun_inserts}
use Rattle.blink_steps.specs.Run.{PlainRun, Event, tree_state_of}
use Rattle.blink_machine.proofs.Offered.{step_law}
use Rattle.blink_steps.proofs.runs.OperationOfTurn.{next_is_its}
use Rattle.blink_steps.proofs.runs.RunStatements.{OpeningRunHasInvariant, TurnKeepsRunInvariant, HistoryIsBounded, NumberIsLeft, CountsAreOf}
use Rattle.blink_steps.proofs.bounds.CountedTurns.{numbers_in-few}
use Rattle.blink_steps.proofs.bounds.CountsOfOperations.{IsInsertAt, IsCounted, IsKnown, next_is_known}
use Rattle.blink_steps.proofs.bounds.HistoriesStayWithin.{InvariantAndCounts, counted_along}
use Rattle.blink_steps.proofs.bounds.KeptCounts.{counts_are_kept, same_ops_along}
use Rattle.blink_steps.proofs.bounds.PagesOfRun.{pages_along, numbers_are_of_places, numbers_by_test, numbers_by_test_less}

-- a pair that stands at a place of two lists side by side has its halves at that place of each
slice_get-zip : {X Y : Type 0} (xs : List X) (ys : List Y) (i : ℕ) (pair : X × Y) → slice_get (zip xs ys) i ≡ Some pair
    → (slice_get xs i ≡ Some pair.0) × (slice_get ys i ≡ Some pair.1)
slice_get-zip [] ys i pair there = absurd (cc)
slice_get-zip (x ∷ xs) [] i pair there = absurd (cc)
slice_get-zip {X} {Y} (x ∷ xs) (y ∷ ys) zero pair there =
    let same : ◌≡◌ {A = X × Y} (x, y) pair = cc in
    (ap (λ (pair : X × Y). Some pair.0) same, ap (λ (pair : X × Y). Some pair.1) same)
slice_get-zip (x ∷ xs) (y ∷ ys) (suc i) pair there = slice_get-zip xs ys i pair there

-- an insertion that has taken a step
abbrev pub has_begun : Op × ℕ → Bool
has_begun begun = is_insert begun.0 && nat_lt 0 begun.1

-- an operation takes at most 22 numbers, and none unless it is an insertion that has taken a step
numbers_of_begun : (history : List Event) (run : PlainRun) → IsCounted history run → CountsAreOf history run → (i at : ℕ) (begun : Op × ℕ)
    → slice_get (zip run.ops run.outcome.moves) i ≡ Some begun → at ≡ 0 + i → numbers_in history at ≤ 22 * one_if (has_begun begun)
numbers_of_begun history run counted counts i at begun there is_at = elim (cases_lt 0 (numbers_in history at)) [
  | inr none ↦ omega arith
  | inl some ↦
      let same : at ≡ i = omega arith in
      let halves = slice_get-zip run.ops run.outcome.moves i begun there in
      let found : IsInsertAt run.ops at = counted.inserts at some in
      let op_there : slice_get run.ops at ≡ Some begun.0 = rw same halves.0 in
      let same_op : Some found.op ≡ Some begun.0 = sym found.there ∙ op_there in
      let is_op : found.op ≡ begun.0 = cc in
      let inserts : is_insert begun.0 ≡ true = sym (ap is_insert is_op) ∙ found.inserts in
      let count_there : slice_get run.outcome.moves at ≡ Some begun.1 = rw same halves.1 in
      let within : at < length run.ops = slice_get_within run.ops at found.op found.there in
      let same_count : Some (moves_in history at) ≡ Some begun.1 = sym (counts.moves at within) ∙ count_there in
      let is_count : moves_in history at ≡ begun.1 = cc in
      let few = numbers_in-few history at in
      let bound = (counted.everywhere at).numbers in
      let moved : nat_lt 0 begun.1 ≡ true = lt-ltb 0 begun.1 (omega arith) in
      rw (inserts, moved) (omega arith)
]

-- and none unless it is an insertion
numbers_of_insert : (history : List Event) (run : PlainRun) → IsCounted history run → (i at : ℕ) (op : Op) → slice_get run.ops i ≡ Some op → at ≡ 0 + i
    → numbers_in history at ≤ 22 * one_if (is_insert op)
numbers_of_insert history run counted i at op there is_at = elim (cases_lt 0 (numbers_in history at)) [
  | inr none ↦ omega arith
  | inl some ↦
      let same : at ≡ i = omega arith in
      let found : IsInsertAt run.ops at = counted.inserts at some in
      let op_there : slice_get run.ops at ≡ Some op = rw same there in
      let same_op : Some found.op ≡ Some op = sym found.there ∙ op_there in
      let is_op : found.op ≡ op = cc in
      let inserts : is_insert op ≡ true = sym (ap is_insert is_op) ∙ found.inserts in
      let bound = (counted.everywhere at).numbers in
      rw inserts (omega arith)
]

-- the pages of a run are at most those of its start and 22 for each insertion that has begun
pages_are_few : (history : List Event) (run : PlainRun) → IsCounted history run → CountsAreOf history run → length run.outcome.moves ≡ length run.ops
    → count_by takes_number history ≤ 22 * begun_inserts run.ops run.outcome.moves
pages_are_few history run counted counts a_move_count_each =
    let places = numbers_are_of_places history (zip run.ops run.outcome.moves) (λ place some.
    let found : IsInsertAt run.ops place = counted.inserts place some in
    let within : place < length run.ops = slice_get_within run.ops place found.op found.there in
    rw (length-zip run.ops run.outcome.moves) (omega arith)) in
    let sum = numbers_by_test has_begun history 0 (zip run.ops run.outcome.moves) (numbers_of_begun history run counted counts) in
    omega arith

-- along a history no operation takes more than its numbers and writes
pub history_is_bounded : OpeningRunHasInvariant → TurnKeepsRunInvariant → HistoryIsBounded
history_is_bounded opening_run_has_invariant turn_keeps_run_invariant start ops assignment opening run history entries may_begin ascending are_entries begins follows =
    let along : InvariantAndCounts entries history run =
    counted_along opening_run_has_invariant turn_keeps_run_invariant start ops assignment opening run history entries may_begin ascending are_entries begins follows in
    let counts : CountsAreOf history run = counts_are_kept start ops assignment opening run history begins follows in
    let made = pages_along opening run history follows in
    let begun : length opening.shared.store.pages ≡ length start.pages = ap (λ (store : PlainStore). length store.pages) begins.same_store in
    let few = pages_are_few history run along.counted counts along.invariant.shaped.a_move_count_each in
    record {
      numbers = λ place. (along.counted.everywhere place).numbers;
      page_writes = λ place. (along.counted.everywhere place).page_writes;
      prime_writes = λ place. (along.counted.everywhere place).prime_writes;
      pages = omega arith;
      levels = let few = (step_law.invariant_gives_order (tree_state_of run) along.invariant.invariant).few_levels in omega arith;
    }

-- an insertion needs 22 numbers at most, and another operation none
numbers_by_kind : (op : Op) → numbers_for Leaf op ≤ 22 * one_if (is_insert op)
numbers_by_kind (Insert key pointer) = omega arith
numbers_by_kind op = omega arith

-- a worker whose operation writes a new page finds a number left for it
pub number_is_left : OpeningRunHasInvariant → TurnKeepsRunInvariant → NumberIsLeft
number_is_left opening_run_has_invariant turn_keeps_run_invariant start ops assignment opening run history entries worker place m next may_begin ascending are_entries begins follows is_next needs =
    let along : InvariantAndCounts entries history run =
    counted_along opening_run_has_invariant turn_keeps_run_invariant start ops assignment opening run history entries may_begin ascending are_entries begins follows in
    let known : IsKnown history run worker place m next = next_is_known entries history run worker place m next along.invariant along.counted is_next in
    let its = next_is_its run worker place m next is_next in
    let some : 1 ≤ numbers_left m = (step_law.allowance_is_used_up.enough (tree_state_of run) worker m along.invariant.invariant its).numbers needs in
    let bound = known.within.numbers in
    let most = numbers_by_kind m.op in
    let own : numbers_in history place < 22 * one_if (is_insert m.op) = omega arith in
    let places = numbers_are_of_places history run.ops (λ at some.
    let found : IsInsertAt run.ops at = along.counted.inserts at some in
    slice_get_within run.ops at found.op found.there) in
    let sum = numbers_by_test_less is_insert history 0 run.ops (numbers_of_insert history run along.counted) place place m.op known.there (omega arith) own in
    let made = pages_along opening run history follows in
    let begun : length opening.shared.store.pages ≡ length start.pages = ap (λ (store : PlainStore). length store.pages) begins.same_store in
    let same_ops : count_by is_insert run.ops ≡ count_by is_insert ops = ap (count_by is_insert) (same_ops_along opening run history follows ∙ begins.same_ops) in
    let suffice = may_begin.numbers_suffice in
    omega arith
