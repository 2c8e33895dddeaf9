-- The worker drawn for a turn: one of those that would move, by the words of the generator SplitMix64 (Steele, Lea and Flood,
-- "Fast splittable pseudorandom number generators", OOPSLA 2014): a word is a state to which 0x9e3779b97f4a7c15 was added,
-- mixed.
use Rattle.std.specs.Prelude.{◌≡◌, ℕ, zero, suc, ◌%◌, List, [], ◌∷◌, ◌++◌, Option, Some, None, length, slice_get}
use Rattle.rand_xoshiro.specs.SplitMix64.{mix_u64, next_state}
use Rattle.blink_batch.specs.declared.Answer.{Answer}
use Rattle.blink_steps.specs.{WouldMove, PlainRun}

-- a worker that would move stands after those before it, and any other worker is left out
pub data AddsMover (run : PlainRun) (worker : ℕ) (before movers : List ℕ) : Type 0 where
  moves : WouldMove run worker → movers ≡ before ++ worker ∷ [] → AddsMover run worker before movers
  stays : ¬ WouldMove run worker → movers ≡ before → AddsMover run worker before movers

-- of the workers below a number, those that would move, in ascending order
abbrev pub AreMovers : PlainRun → ℕ → List ℕ → Type 0
AreMovers run zero movers = movers ≡ []
AreMovers run (suc worker) movers = (before : List ℕ) × AreMovers run worker before × AddsMover run worker before movers

-- one of the worker's operations has no answer
pub record LeavesUndecided (answers : List (Option Answer)) (owners : List ℕ) (worker : ℕ) : Type 0 where
  pub place : ℕ
  pub its : slice_get owners place ≡ Some worker
  pub undecided : slice_get answers place ≡ Some None

-- the generator in this state draws the worker: of those that would move, the one at the place that the remainder of its next
-- word names
pub record DrawsAt (state : ℕ) (run : PlainRun) (worker : ℕ) : Type 0 where
  pub movers : List ℕ
  pub are_movers : AreMovers run run.assignment.workers movers
  pub at_place : slice_get movers ((mix_u64 state).0 % length movers) ≡ Some worker

-- the generator's state after this many words; the first state is the seed
abbrev pub state_after : ℕ → ℕ → ℕ
state_after seed zero = seed
state_after seed (suc words) = next_state (state_after seed words)

-- after these turns, for each of which a word was drawn, the worker is drawn
abbrev pub IsDrawn : ℕ → List ℕ → PlainRun → ℕ → Type 0
IsDrawn seed before run worker = DrawsAt (state_after seed (length before)) run worker
