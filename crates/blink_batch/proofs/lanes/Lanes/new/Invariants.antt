use Rattle.std.proofs.Common.{ℕ, ◌<◌, slice_index_or}
use Rattle.blink_batch.proofs.lanes.Lanes.new.Given as goal

-- the lanes so far are workers
abbrev pub invariant-loop-place : goal.invariant-loop-place
invariant-loop-place l = (other : ℕ) → other < l.place → slice_index_or l.lanes.items other 0 < l.workers
