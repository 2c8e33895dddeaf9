-- A world's tree has at most the pages of the tree that it began with, and 22 for each insertion of its batch.
use Rattle.std.proofs.Common.{◌≡◌, ℕ, ◌+◌, ◌*◌, ◌≤◌, Bool, true, false, List, [], ◌∷◌, length, zip, arith}
use Rattle.std.specs.Prelude.{◌&&◌, count_by, nat_lt}
use Rattle.blink_batch.specs.declared.Op.{Op}
use Rattle.blink_batch.specs.{is_insert}
use Rattle.blink_machine.specs.{one_if}
use Rattle.blink_page.specs.declared.limits.TheConstants.{MAX_NEW_PAGES_PER_INSERT}
use Rattle.blink_store.specs.{PlainStore}
use Rattle.blink_steps.specs.Counts.{begun_inserts}
use Rattle.blink_steps.specs.Promises.{KeepsItsPromises}
use Rattle.blink_steps.specs.World.{IsWorldOf, PlainWorld}
use Rattle.blink_steps.proofs.bounds.CountedTurns.{count_by-cons}
use Rattle.blink_steps.proofs.bounds.NumbersAreLeft.{has_begun}

one_of_both : (one other : Bool) → one_if (one && other) ≤ one_if one
one_of_both true true = omega arith
one_of_both true false = omega arith
one_of_both false other = omega arith

-- no more insertions have begun than the batch has
begun_are_few : (ops : List Op) (moves : List ℕ) → begun_inserts ops moves ≤ count_by is_insert ops
begun_are_few [] moves = omega arith
begun_are_few (op ∷ ops) [] = omega arith
begun_are_few (op ∷ ops) (moved ∷ moves) =
    let rest = begun_are_few ops moves in
    let here = one_of_both (is_insert op) (nat_lt 0 moved) in
    let begun : begun_inserts (op ∷ ops) (moved ∷ moves) ≡ one_if (is_insert op && nat_lt 0 moved) + begun_inserts ops moves = count_by-cons has_begun (op, moved) (zip ops moves) in
    let all = count_by-cons is_insert op ops in
    omega arith

pub pages_stay_few : (start : PlainStore) (world : PlainWorld) (is_world : IsWorldOf start world) → KeepsItsPromises start world is_world
    → length world.run.shared.store.pages ≤ length start.pages + MAX_NEW_PAGES_PER_INSERT * count_by is_insert world.run.ops
pages_stay_few start world is_world kept =
    let pages = kept.bounded.pages in
    let few = begun_are_few world.run.ops world.run.outcome.moves in
    omega arith
