-- What this crate offers to the proofs of the crates above.

-- a tree at rest has a plain map, which its pairs tell
pub use Rattle.blink_rest.proofs.Offered.{entries_at_start, entries_from-pairs_of}
-- a page that stands in a level, with the pages before and after it
pub use Rattle.blink_machine.proofs.tree.WherePagesStand.{stands_so}
-- the law of a step as a whole, for lemmas, which can't call it
pub use Rattle.blink_machine.proofs.law.EachPart.{step_law}
-- and the law of leaves
pub use Rattle.blink_machine.proofs.law.LeafTellsItsKeys.{leaf_tells_its_keys}
-- whoever drives a machine: its way down ends, it has an answer when it ends, and a find only reads
pub use Rattle.blink_machine.proofs.law.DriversOfMachines.{goes_on_if_needed, page_is_readable, descent_bound_stays, descent_bound_falls, has_answer_at_end}
-- some worker always moves, and all trees have what that takes
pub use Rattle.blink_machine.proofs.law.NeverStuck.{never_stuck}
pub use Rattle.blink_machine.proofs.tree.TreeLaws.{tree_laws}
-- an operation stands at its place
pub use Rattle.blink_machine.proofs.operation.OperationIsPlaced.{at_state, its_own}
-- an operation that waits
pub use Rattle.blink_machine.proofs.tree_state.InvariantStatements.{IsWaiting}
-- the prime block as a list
pub use Rattle.blink_machine.proofs.tree.PrimeAsList.{leftmost_of}
-- a key has the pointer that stands in its leaf
pub use Rattle.blink_machine.proofs.tree_state.EntriesOfATree.{pointer_in_leaf}
-- whose operation a step was
pub use Rattle.blink_machine.proofs.tree_state.WhoseOperation.{has_by, turns, was_other}
-- where an operation stands, whatever it did before
pub use Rattle.blink_machine.proofs.operation.PlacedWhateverBefore.{placed_at, its_place}
-- what is so of each tree
pub use Rattle.blink_machine.proofs.tree.TreeStatements.{TreeLaws}
-- where a move leads: down, or right
pub use Rattle.blink_machine.proofs.operation.WhereMovesLead.{IsOnLevel, stands_on, page_of_cell, belongs_here, last_at, level_here, right_is_further}
-- what the parts of an allowance have decided
pub use Rattle.blink_machine.proofs.law.AllowanceIsUsedUp.{decided_parts}
-- what a job is about
pub use Rattle.blink_machine.proofs.operation.WhatJobsAreAbout.{some_value}
-- lists whose numbers differ
pub use Rattle.blink_machine.proofs.tree.NumbersApart.{contains_or_not, filter-take, holds_at_passing, holds_of_both, holds_of_filter, one_index, AllDiffer-filter, AllDiffer-take}
-- a step leaves each operation itself
pub use Rattle.blink_machine.proofs.operation.OperationStaysItself.{StaysItself, step_stays}
-- the entries of a tree as a map
pub use Rattle.blink_machine.proofs.tree.EntriesAsMap.{value_at-pairs_of}
