-- Each worker's lane as links: its first place, and from each place the next.
use Rattle.std.specs.Prelude.{◌≡◌, ℕ, ◌+◌, ◌<◌, ◌≤◌, Option, Some, List, slice_get}
use Rattle.blink_batch.specs.{next_place}
use Rattle.blink_batch.specs.declared.cut.TheConstants.{WORKER_LIMIT}

-- each place from `from` on has the next place of its lane
abbrev pub NextInLane : List ℕ → List (Option ℕ) → ℕ → Type 0
NextInLane lanes following from = (place worker : ℕ) → from ≤ place → slice_get lanes place ≡ Some worker → slice_get following place ≡ Some (next_place lanes worker (place + 1))

-- each worker has the first place of its lane at or after `from`
abbrev pub FirstInLane : List ℕ → List (Option ℕ) → ℕ → Type 0
FirstInLane lanes firsts from = (worker : ℕ) → worker < WORKER_LIMIT → slice_get firsts worker ≡ Some (next_place lanes worker from)
