-- Keys cut into ranges by ascending bounds: each bound is the greatest key of its range, and one range lies after them all.
use Rattle.std.specs.Prelude.{ℕ, ◌<◌, ◌+◌, List, [], ◌∷◌, length, map, if◌then◌else◌, nat_le}
use Rattle.std.specs.List.Sorted.{IsStrictlyIncreasing}
use Rattle.blink_batch.specs.declared.cut.TheConstants.{WORKER_LIMIT}
use Rattle.blink_operation.specs.declared.operation.Op.{Op}
use Rattle.blink_operation.specs.Operation.{key_of}

-- the first range whose bound is at least the key, or the one after the last bound
abbrev pub lane_in_ranges : List ℕ → ℕ → ℕ
lane_in_ranges [] key = 0
lane_in_ranges (bound ∷ bounds) key = if nat_le key bound then 0 else lane_in_ranges bounds key + 1

-- each operation is in the range of its key
abbrev pub lanes_by_ranges : List ℕ → List Op → List ℕ
lanes_by_ranges bounds ops = map (λ op. lane_in_ranges bounds (key_of op)) ops

-- there are enough workers for the ranges, and the bounds ascend
abbrev pub MayBound : List ℕ → Type 0
MayBound bounds = (length bounds < WORKER_LIMIT) × IsStrictlyIncreasing bounds

-- there are enough workers, but the bounds don't ascend
abbrev pub AreBadBounds : List ℕ → Type 0
AreBadBounds bounds = (length bounds < WORKER_LIMIT) × ¬ IsStrictlyIncreasing bounds
