-- What the lemmas about runs say.
use Rattle.std.proofs.Common.{◌≡◌, ℕ, ◌<◌, ◌≤◌, Option, Some, None, List, length, slice_get}
use Rattle.blink_batch.specs.declared.Entry.{Entry}
use Rattle.blink_batch.specs.declared.Op.{Op}
use Rattle.blink_batch.specs.{Assignment, map_after_all, operations_at, IsAscending, pointer_of}
use Rattle.blink_page.specs.declared.limits.TheConstants.{MAX_PAGE}
use Rattle.blink_rest.specs.{AreEntries, IsReached}
use Rattle.blink_store.specs.{holder_of, PlainStore, page_of}
use Rattle.blink_steps.specs.StepBounds.{WithinStepBound}
use Rattle.blink_steps.specs.Bounds.{IsBounded}
use Rattle.blink_steps.specs.Counts.{page_reads_in, moves_in}
use Rattle.blink_machine.specs.{PlainMachine, NeedsNew, HoldOneLatchEach, pairs_of}
use Rattle.blink_steps.specs.Run.{PlainRun, Event, AppliesEvent, IsHistory, IsOpeningRun, IsNextOf}
use Rattle.blink_steps.specs.RunInvariant.{RunInvariant}
use Rattle.blink_steps.specs.Acts.{CanAct}
pub use Rattle.blink_steps.specs.Promises.{HasAnswerAt, EachOnce, IsPrefixOfLane, HasUndecided, IsWholeRun, IsAnsweredInOrder}
pub use Rattle.blink_steps.specs.World.{MayBegin, HasEnded, IsAtLanesEnd}
use Rattle.blink_steps.specs.World.{WritesItsOwn}

abbrev pub OpeningRunHasInvariant : Type 0
OpeningRunHasInvariant = (start : PlainStore) (ops : List Op) (assignment : Assignment) (run : PlainRun) (entries : List Entry) → MayBegin start ops assignment
    → IsAscending entries → AreEntries start.fan start.prime (page_of start) (pairs_of entries)
    → IsOpeningRun start ops assignment run → RunInvariant entries run

abbrev pub TurnKeepsRunInvariant : Type 0
TurnKeepsRunInvariant = (entries : List Entry) (old new : PlainRun) (taken : Event) → RunInvariant entries old → AppliesEvent old taken new → RunInvariant entries new

-- a turn can be taken, if there is a number left for a new page
abbrev pub TurnIsReady : Type 0
TurnIsReady = (entries : List Entry) (run : PlainRun) (worker place : ℕ) (m : PlainMachine) (next : Option ℕ) → RunInvariant entries run → IsNextOf run worker place m next
    → (NeedsNew m → length run.shared.store.pages < MAX_PAGE) → CanAct run.shared worker m

-- along a history no operation takes more than its numbers and writes
abbrev pub HistoryIsBounded : Type 0
HistoryIsBounded = (start : PlainStore) (ops : List Op) (assignment : Assignment) (opening run : PlainRun) (history : List Event) (entries : List Entry)
    → MayBegin start ops assignment → IsAscending entries → AreEntries start.fan start.prime (page_of start) (pairs_of entries)
    → IsOpeningRun start ops assignment opening → IsHistory opening history run → IsBounded start history run

-- so a worker whose operation writes a new page finds a number left for it
abbrev pub NumberIsLeft : Type 0
NumberIsLeft = (start : PlainStore) (ops : List Op) (assignment : Assignment) (opening run : PlainRun) (history : List Event) (entries : List Entry)
    (worker place : ℕ) (m : PlainMachine) (next : Option ℕ) → MayBegin start ops assignment → IsAscending entries
    → AreEntries start.fan start.prime (page_of start) (pairs_of entries) → IsOpeningRun start ops assignment opening → IsHistory opening history run
    → IsNextOf run worker place m next → NeedsNew m → length run.shared.store.pages < MAX_PAGE

-- the counts that a run keeps of an operation are those of its history, and none is more than the history's turns
pub record CountsAreOf (history : List Event) (run : PlainRun) : Type 0 where
  pub reads : (place : ℕ) → place < length run.ops → slice_get run.outcome.reads place ≡ Some (page_reads_in history place)
  pub moves : (place : ℕ) → place < length run.ops → slice_get run.outcome.moves place ≡ Some (moves_in history place)
  pub few_reads : (place : ℕ) → page_reads_in history place ≤ length history
  pub few_moves : (place : ℕ) → moves_in history place ≤ length history

abbrev pub CountsAreKept : Type 0
CountsAreKept = (start : PlainStore) (ops : List Op) (assignment : Assignment) (opening run : PlainRun) (history : List Event)
    → IsOpeningRun start ops assignment opening → IsHistory opening history run → CountsAreOf history run

-- a worker holds one latch at most
abbrev pub OneLatchEach : Type 0
OneLatchEach = (run : PlainRun) → HoldOneLatchEach (holder_of run.shared.latches)

-- an operation stands in the order once at most
abbrev pub EachIsDecidedOnce : Type 0
EachIsDecidedOnce = (entries : List Entry) (run : PlainRun) → RunInvariant entries run → EachOnce run

-- what is decided of a worker's lane is its beginning, in the lane's order
abbrev pub PrefixesAreDecided : Type 0
PrefixesAreDecided = (entries : List Entry) (run : PlainRun) (worker : ℕ) → RunInvariant entries run
    → IsPrefixOfLane run worker

-- a worker whose lane has an operation that isn't decided isn't at its lane's end
abbrev pub EachHasItsTurn : Type 0
EachHasItsTurn = (entries : List Entry) (run : PlainRun) (worker : ℕ) → RunInvariant entries run → HasUndecided run worker → ¬ IsAtLanesEnd run worker

-- once all operations have ended, all are decided and the tree is at rest
abbrev pub EndedRunIsWhole : Type 0
EndedRunIsWhole = (entries : List Entry) (run : PlainRun) → RunInvariant entries run → HasEnded run → IsWholeRun run

abbrev pub EndedRunIsAnswered : Type 0
EndedRunIsAnswered = (entries : List Entry) (run : PlainRun) → RunInvariant entries run → HasEnded run → IsAnsweredInOrder entries run

-- whatever turns are taken, a run keeps its invariant
abbrev pub HistoryKeepsRunInvariant : Type 0
HistoryKeepsRunInvariant = (entries : List Entry) (start run : PlainRun) (history : List Event) → RunInvariant entries start → IsHistory start history run → RunInvariant entries run

-- a write goes to a page that the writer has latched, or to a free number
abbrev pub WritesAreOwn : Type 0
WritesAreOwn = (entries : List Entry) (old new : PlainRun) (taken : Event) → RunInvariant entries old → AppliesEvent old taken new → WritesItsOwn old taken new

-- an operation that has no answer yet has none at its place
abbrev pub NextIsUnanswered : Type 0
NextIsUnanswered = (entries : List Entry) (run : PlainRun) (worker place : ℕ) (m : PlainMachine) (next : Option ℕ) → RunInvariant entries run → IsNextOf run worker place m next
    → m.answer ≡ None → slice_get run.outcome.answers place ≡ Some None

-- a key that is present is reached
abbrev pub PresentIsReached : Type 0
PresentIsReached = (entries : List Entry) (run : PlainRun) (key pointer : ℕ) → RunInvariant entries run
    → pointer_of (map_after_all entries (operations_at run.ops run.outcome.order)) key ≡ Some pointer → IsReached run.shared.store.prime (page_of run.shared.store) key pointer

-- along a history each operation's way is short
abbrev pub HistoryWithinStepBound : Type 0
HistoryWithinStepBound = (start : PlainStore) (ops : List Op) (assignment : Assignment) (opening run : PlainRun) (history : List Event) (entries : List Entry)
    → MayBegin start ops assignment → IsAscending entries → AreEntries start.fan start.prime (page_of start) (pairs_of entries)
    → IsOpeningRun start ops assignment opening → IsHistory opening history run → WithinStepBound start history run

-- all of them
pub record RunLaws : Type 0 where
  pub opening_run_has_invariant : OpeningRunHasInvariant
  pub turn_keeps_run_invariant : TurnKeepsRunInvariant
  pub turn_is_ready : TurnIsReady
  pub history_is_bounded : HistoryIsBounded
  pub number_is_left : NumberIsLeft
  pub counts_are_kept : CountsAreKept
  pub one_latch_each : OneLatchEach
  pub each_is_decided_once : EachIsDecidedOnce
  pub prefixes_are_decided : PrefixesAreDecided
  pub each_has_its_turn : EachHasItsTurn
  pub ended_run_is_whole : EndedRunIsWhole
  pub ended_run_is_answered : EndedRunIsAnswered
  pub writes_are_own : WritesAreOwn
  pub next_is_unanswered : NextIsUnanswered
  pub present_is_reached : PresentIsReached
  pub history_is_short : HistoryWithinStepBound
