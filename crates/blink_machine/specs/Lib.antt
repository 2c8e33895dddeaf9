-- What a caller of `blink_machine` reads, in this order; then what proofs above it need; then the files themselves.

-- one operation on a tree: what it remembers, the state that it is in, and the step that it needs next
pub use Rattle.blink_machine.specs.Machine.{NeedsLatch, NeedsNew, NeedsPage, NeedsPrime, NeedsPrimeWrite, NeedsUnlatch, NeedsWrite, PlainMachine, at_state, fresh, level_read, need_at, target}
-- an operation that rests
pub use Rattle.blink_machine.specs.Resting.{IsResting, wants_leaf}
-- the table of states: what an operation makes of what it reads, what it writes, and its state afterwards
pub use Rattle.blink_machine.specs.Table.{IsTopLeftmost, IsUpdate, PrimeOut, SeesOnItsWay, SeesPage, SeesPrime, SeesTop, WaitsForLevel, done, page_out}
-- the kinds of a step, under names that no other enum has
pub use Rattle.blink_machine.specs.Kinds.{has_moved, is_page_read, is_page_write, is_prime_write, latch, moved_by, read_page, read_prime, unlatch, write_page, write_prime, writes_new_page}
-- a state of a tree that workers change, and one atomic step of a worker
pub use Rattle.blink_machine.specs.TreeState.{IsItsOperation, Steps, goes_on}
-- a lawful tree with debts: what holds of the pages in every tree state, in five parts
pub use Rattle.blink_machine.specs.TreeWithDebts.{IsTreeWithDebts}
-- what an operation has for itself: a latch, a debt, a new unlinked page, and a top level that it splits
pub use Rattle.blink_machine.specs.Owned.{HoldOneLatchEach, IsItsToWrite}
-- what the invariant gives: the tree is lawful except for debts, and each operation can take its next step, whoever runs it
pub use Rattle.blink_machine.specs.InOrder.{IsReadable}
-- descending operations, and what they are handed of a page that they read in their descent
pub use Rattle.blink_machine.specs.OnTheWay.{IsOnItsWay, TellsWay}
-- the places of pages: no page goes away, and none changes its level or its floor; so an operation always gets further
pub use Rattle.blink_machine.specs.Places.{descent_bound}
-- what one operation may still need, by its state alone: page numbers, page writes, and writes of the prime block
pub use Rattle.blink_machine.specs.Allowance.{HasEnough, UsesUp, numbers_left, primes_left, writes_left}
-- the kinds of step that an operation may need, whatever the page
pub use Rattle.blink_machine.specs.Needs.{NeedsNoRead, NeedsSomePage, NeedsSomeWrite}
-- the entries of a tree as a plain map
pub use Rattle.blink_machine.specs.TreeMap.{HasMap, IsMapOf, HasEntries, entries_from, pairs_of}
-- the law that all other facts about steps follow from, in nine parts
pub use Rattle.blink_machine.specs.StepLaw.{IsMapAt}
-- what a leaf tells to an operation that has come to it: the state of each of its keys
pub use Rattle.blink_machine.specs.LeafLaw.{LeafTellsItsKeys, TellsItsKeys}
-- what an operation makes of what it reads is determined
pub use Rattle.blink_machine.specs.OneResult.{OneChange, OneResultOfPage, OneResultOfPrime}
-- by their file, since they have its name or another file's word: TreeState.{TreeState}; Invariant.{Invariant}; StepLaw.{StepLaw}

-- ---- for proofs above
pub use Rattle.blink_machine.specs.Machine.{key_of_job, level_of}
pub use Rattle.blink_machine.specs.Table.{Expects, SeesUnderLatch, adds_root, decided_with, done_at, leaves_for, on_its_way, sets_out}
pub use Rattle.blink_machine.specs.TreeState.{IsWorkersNow, LatchPasses, Leaves, WritesOne, latches, reads_page, reads_prime, taken_on, under_way, unlatches, waits_for_latch, waits_for_level, writes_new, writes_page, writes_prime}
pub use Rattle.blink_machine.specs.TreeWithDebts.{Levels}
pub use Rattle.blink_machine.specs.Owned.{debt_at, debt_of, latch_at, latch_of, split_at}
pub use Rattle.blink_machine.specs.Placed.{AreRemembered, IsPlaced, MayChange, PlacedAt, StandsAt}
pub use Rattle.blink_machine.specs.Invariant.{InvariantWith}
pub use Rattle.blink_machine.specs.InOrder.{IsInOrder, ReadsPrimeWell}
pub use Rattle.blink_machine.specs.Places.{BeginsFurther, KeepsPlaces, descent_bound_at}
pub use Rattle.blink_machine.specs.Allowance.{numbers_for, one_if, primes_for, writes_for}
pub use Rattle.blink_machine.specs.Needs.{IsPageWrite}
pub use Rattle.blink_machine.specs.StepLaw.{Decides, IsOpening, TellTheSame, deciding, other}
-- ---- files that crates above name
pub mod Machine
pub mod Table
pub mod Kinds
pub mod TreeState
pub mod Tree
pub mod TreeWithDebts
pub mod Owned
pub mod Placed
pub mod Kept
pub mod Invariant
pub mod InOrder
pub mod OnTheWay
pub mod Places
pub mod Allowance
pub mod Needs
pub mod TreeMap
pub mod StepLaw
pub mod OneResult
pub mod MachineView
-- ---- files that no crate above names
pub mod Resting
pub mod RestingView
pub mod LeafLaw
