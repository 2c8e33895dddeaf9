-- What is so of the pages that an operation has read on its way down and latched, and of its steps, at each of its states.
use Rattle.std.proofs.Common.{◌≡◌, ℕ, ◌+◌, ◌*◌, ◌<◌, ◌≤◌, List, [], length, arith}
use Rattle.std.specs.Prelude.{⊤}
use Rattle.blink_rest.specs.{Pages}
use Rattle.blink_machine.specs.declared.machine.Job.{Job}
use Rattle.blink_machine.specs.declared.machine.Next.{Next}
use Rattle.blink_machine.specs.declared.machine.Next.TheVariants.{Finish, MoveRight, Post}
use Rattle.blink_machine.specs.declared.machine.State.{State}
use Rattle.blink_machine.specs.declared.machine.State.TheVariants.{Start, Going, Want, Held, Change, SplitNew, SplitOld, AskPrime, Root, NewPrime, Leave, Posting, Ended}
use Rattle.blink_machine.specs.{PlainMachine, level_of, KeepsPlaces}
use Rattle.blink_steps.proofs.bounds.MetPages.{ArePagesWith, ComesAfter, IsPassed, IsBelow, IsUpTo, IsNotAbove, pages_stay, after_stays}

-- on its way down the page that an operation reads next comes after those that it has read
abbrev pub OnWayAt : Pages → State → List ℕ → Type 0
OnWayAt pages Start reads = reads ≡ []
OnWayAt pages (Going page level) reads = ComesAfter pages IsPassed page reads
OnWayAt pages (Want page) reads = ⊤
OnWayAt pages (Held page) reads = ⊤
OnWayAt pages (Change page changed kept) reads = ⊤
OnWayAt pages (SplitNew page before) reads = ⊤
OnWayAt pages (SplitOld page lower debt) reads = ⊤
OnWayAt pages (AskPrime page debt) reads = ⊤
OnWayAt pages (Root page debt prime) reads = ⊤
OnWayAt pages (NewPrime page debt root prime) reads = ⊤
OnWayAt pages (Leave page next) reads = ⊤
OnWayAt pages Posting reads = ⊤
OnWayAt pages Ended reads = ⊤

-- the page that it latches next comes after those that it has latched; here where it goes from a page
abbrev pub LatchedForNext : Pages → Job → Next → List ℕ → Type 0
LatchedForNext pages job Finish latched = ⊤
LatchedForNext pages job (MoveRight page) latched = ComesAfter pages IsBelow page latched
LatchedForNext pages job (Post debt) latched = (debt.level ≡ level_of job) × ArePagesWith pages (IsNotAbove debt.level) latched

-- the page is on a level below
abbrev pub IsUnder : ℕ → ℕ → ℕ → Type 0
IsUnder level other first = other < level

-- a state each
abbrev pub LatchedAt : Pages → Job → State → List ℕ → Type 0
LatchedAt pages job Start latched = latched ≡ []
LatchedAt pages job (Going page level) latched = latched ≡ []
LatchedAt pages job (Want page) latched = ComesAfter pages IsBelow page latched
LatchedAt pages job (Held page) latched = ComesAfter pages IsUpTo page latched
LatchedAt pages job (Change page changed kept) latched = ArePagesWith pages (IsNotAbove (level_of job)) latched
LatchedAt pages job (SplitNew page before) latched = ArePagesWith pages (IsNotAbove (level_of job)) latched
LatchedAt pages job (SplitOld page lower debt) latched = ArePagesWith pages (IsNotAbove (level_of job)) latched
LatchedAt pages job (AskPrime page debt) latched = ArePagesWith pages (IsNotAbove (level_of job)) latched
LatchedAt pages job (Root page debt prime) latched = ArePagesWith pages (IsNotAbove (level_of job)) latched
LatchedAt pages job (NewPrime page debt root prime) latched = ArePagesWith pages (IsNotAbove (level_of job)) latched
LatchedAt pages job (Leave page next) latched = LatchedForNext pages job next latched
LatchedAt pages job Posting latched = ArePagesWith pages (IsUnder (level_of job)) latched
LatchedAt pages job Ended latched = ⊤

-- for each latched page there are three steps: the latch, a read and the unlatch; these are still to come
abbrev pub open_at : State → ℕ
open_at Start = 0
open_at (Going page level) = 0
open_at (Want page) = 0
open_at (Held page) = 2
open_at (Change page changed kept) = 1
open_at (SplitNew page before) = 1
open_at (SplitOld page lower debt) = 1
open_at (AskPrime page debt) = 1
open_at (Root page debt prime) = 1
open_at (NewPrime page debt root prime) = 1
open_at (Leave page next) = 1
open_at Posting = 0
open_at Ended = 0

-- the other steps: the first read of the prime block, two writes of a page and two reads of the prime block on each level,
-- and two writes for a new root; here where it goes from a page
abbrev pub others_for_next : Job → Next → ℕ
others_for_next job Finish = 4 * level_of job + 6
others_for_next job (MoveRight page) = 4 * level_of job + 1
others_for_next job (Post debt) = 4 * level_of job + 4

-- a state each
abbrev pub others_at : Job → State → ℕ
others_at job Start = 0
others_at job (Going page level) = 1
others_at job (Want page) = 4 * level_of job + 1
others_at job (Held page) = 4 * level_of job + 1
others_at job (Change page changed kept) = 4 * level_of job + 1
others_at job (SplitNew page before) = 4 * level_of job + 1
others_at job (SplitOld page lower debt) = 4 * level_of job + 2
others_at job (AskPrime page debt) = 4 * level_of job + 3
others_at job (Root page debt prime) = 4 * level_of job + 4
others_at job (NewPrime page debt root prime) = 4 * level_of job + 5
others_at job (Leave page next) = others_for_next job next
others_at job Posting = 4 * level_of job
others_at job Ended = 4 * level_of job + 6

-- an operation that has read these pages on its way, latched these, and taken so many steps
pub record IsOnTrack (pages : Pages) (m : PlainMachine) (reads latched : List ℕ) (moves : ℕ) : Type 0 where
  pub on_way : OnWayAt pages m.state reads
  pub under_latches : LatchedAt pages m.job m.state latched
  pub few_moves : moves + open_at m.state ≤ length reads + 3 * length latched + others_at m.job m.state
  pub few_levels : level_of m.job ≤ 20

module _ (old new : Pages) (keeps : KeepsPlaces old new) where
  -- the pages that it has read stay where they are
  way_stays : (state : State) (reads : List ℕ) → OnWayAt old state reads → OnWayAt new state reads
  way_stays Start reads way = way
  way_stays (Going page level) reads way = after_stays old new keeps IsPassed page reads way
  way_stays state reads way = tt

  -- so do those that it has latched, wherever it goes from a page
  latched_stay_for_next : (job : Job) (next : Next) (latched : List ℕ) → LatchedForNext old job next latched → LatchedForNext new job next latched
  latched_stay_for_next job Finish latched are = tt
  latched_stay_for_next job (MoveRight page) latched are = after_stays old new keeps IsBelow page latched are
  latched_stay_for_next job (Post debt) latched are = (are.0, pages_stay old new keeps (IsNotAbove debt.level) latched are.1)

  -- at each state
  latched_stay : (job : Job) (state : State) (latched : List ℕ) → LatchedAt old job state latched → LatchedAt new job state latched
  latched_stay job Start latched are = are
  latched_stay job (Going page level) latched are = are
  latched_stay job (Want page) latched are = after_stays old new keeps IsBelow page latched are
  latched_stay job (Held page) latched are = after_stays old new keeps IsUpTo page latched are
  latched_stay job (Leave page next) latched are = latched_stay_for_next job next latched are
  latched_stay job Posting latched are = pages_stay old new keeps (IsUnder (level_of job)) latched are
  latched_stay job Ended latched are = tt
  latched_stay job state latched are = pages_stay old new keeps (IsNotAbove (level_of job)) latched are

  -- so an operation stays on its track, whatever others do
  pub track_stays : (m : PlainMachine) (reads latched : List ℕ) (moves : ℕ) → IsOnTrack old m reads latched moves → IsOnTrack new m reads latched moves
  track_stays m reads latched moves track = record {
    on_way = way_stays m.state reads track.on_way;
    under_latches = latched_stay m.job m.state latched track.under_latches;
    few_moves = track.few_moves;
    few_levels = track.few_levels;
  }

-- an operation is on its track by its state and its job
pub on_track : (pages : Pages) (after : PlainMachine) (job : Job) (state : State) (reads latched : List ℕ) (moves : ℕ) → after.job ≡ job → after.state ≡ state
    → OnWayAt pages state reads → LatchedAt pages job state latched → moves + open_at state ≤ length reads + 3 * length latched + others_at job state
    → level_of job ≤ 20 → IsOnTrack pages after reads latched moves
on_track pages after job state reads latched moves is_job is_state way are few levels = record {
  on_way = rw is_state way;
  under_latches = rw (is_job, is_state) are;
  few_moves = rw (is_job, is_state) few;
  few_levels = rw is_job levels;
}

-- one that no step has taken is, with no page and no step
pub fresh_on_track : (pages : Pages) (m : PlainMachine) (reads latched : List ℕ) (moves : ℕ) (job : Job) → m.state ≡ Start → m.job ≡ job → level_of job ≡ 0 → reads ≡ [] → latched ≡ []
    → moves ≡ 0 → IsOnTrack pages m reads latched moves
fresh_on_track pages m reads latched moves job is_start is_job is_leaf no_reads no_latches no_moves =
    on_track pages m job Start reads latched moves is_job is_start no_reads no_latches (omega arith) (omega arith)

-- the other steps are few, since the levels are
pub few_others : (job : Job) (state : State) → level_of job ≤ 20 → others_at job state ≤ 86
few_others job (Leave page Finish) few = omega arith
few_others job (Leave page (MoveRight next)) few = omega arith
few_others job (Leave page (Post debt)) few = omega arith
few_others job Start few = omega arith
few_others job (Going page level) few = omega arith
few_others job state few = omega arith
