-- How the operations of a batch are assigned to workers: any assignment, which ones are lawful cuts, and why others aren't.
use Rattle.std.specs.Prelude.{ℕ, ◌≡◌, ◌≢◌, ◌<◌, ◌≤◌, ◌⊎◌, List, length, All, AllPairs, slice_index_or}
use Rattle.std.specs.List.{zip}
use Rattle.blink_batch.specs.declared.cut.CutError.{CutError}
use Rattle.blink_batch.specs.declared.cut.CutError.TheVariants.{BadWorkers, WrongLength, BadLane, SplitKey, BadBounds, OutOfMemory}
use Rattle.blink_batch.specs.declared.cut.TheConstants.{WORKER_LIMIT}
use Rattle.blink_operation.specs.declared.operation.Op.{Op}
use Rattle.blink_operation.specs.declared.operation.Op.TheVariants.{Find}
use Rattle.blink_operation.specs.Operation.{key_of}

-- the number of workers, and the worker of each operation
pub record Assignment : Type 0 where
  pub workers : ℕ
  pub lanes : List ℕ

-- each operation has a worker (its lane) below the number of workers, and two operations on one key have the same worker
pub record IsLawfulCut (ops : List Op) (workers : ℕ) (lanes : List ℕ) : Type 0 where
  pub a_lane_each : length lanes ≡ length ops
  pub lanes_are_workers : All (λ lane. lane < workers) lanes
  pub one_worker_a_key : AllPairs (λ one other. key_of one.0 ≡ key_of other.0 → one.1 ≡ other.1) (zip ops lanes)

-- a run has 1 to 64 workers
abbrev pub MayWork : ℕ → Type 0
MayWork workers = (0 < workers) × (workers ≤ WORKER_LIMIT)

-- a run may have this many workers, and each lane is one of them
pub record AreLanes (workers : ℕ) (lanes : List ℕ) : Type 0 where
  pub allowed : MayWork workers
  pub lanes_are_workers : All (λ lane. lane < workers) lanes

-- any assignment: such lanes, one for each operation
pub record IsAssignment (ops : List Op) (workers : ℕ) (lanes : List ℕ) : Type 0 where
  pub of_workers : AreLanes workers lanes
  pub a_lane_each : length lanes ≡ length ops

-- the place has the first lane that is no worker's
pub record IsFirstBadLane (workers : ℕ) (lanes : List ℕ) (place : ℕ) : Type 0 where
  pub in_range : place < length lanes
  pub bad : workers ≤ slice_index_or lanes place 0
  pub earlier_good : (other : ℕ) → other < place → slice_index_or lanes other 0 < workers

-- why lanes are no assignment: the first cause, in the order of the checks
abbrev pub IsLanesFault : List Op → ℕ → List ℕ → CutError → Type 0
IsLanesFault ops workers lanes BadWorkers = (workers ≡ 0) ⊎ (WORKER_LIMIT < workers)
IsLanesFault ops workers lanes WrongLength = MayWork workers × (length lanes ≢ length ops)
IsLanesFault ops workers lanes (BadLane place) = MayWork workers × (length lanes ≡ length ops) × IsFirstBadLane workers lanes place
IsLanesFault ops workers lanes (SplitKey place) = ⊥
IsLanesFault ops workers lanes BadBounds = ⊥
IsLanesFault ops workers lanes OutOfMemory = ⊥

-- the key of the operation at a place
abbrev pub key_at : List Op → ℕ → ℕ
key_at ops place = key_of (slice_index_or ops place (Find 0))

-- an operation before the one at the place has its key, and is in another lane
pub record SplitsKey (ops : List Op) (lanes : List ℕ) (place earlier : ℕ) : Type 0 where
  pub before : earlier < place
  pub same_key : key_at ops earlier ≡ key_at ops place
  pub other_lane : slice_index_or lanes earlier 0 ≢ slice_index_or lanes place 0

-- the key of the operation at the place had an earlier operation in another lane
abbrev pub IsSplitKey : List Op → List ℕ → ℕ → Type 0
IsSplitKey ops lanes place = (earlier : ℕ) × SplitsKey ops lanes place earlier

-- the place has the first such operation
pub record IsFirstSplitKey (ops : List Op) (lanes : List ℕ) (place : ℕ) : Type 0 where
  pub in_range : place < length ops
  pub split : IsSplitKey ops lanes place
  pub earlier_whole : (other : ℕ) → other < place → ¬ IsSplitKey ops lanes other

-- why lanes are no cut: they are no assignment, or they are one that splits a key
abbrev pub IsCutFault : List Op → ℕ → List ℕ → CutError → Type 0
IsCutFault ops workers lanes BadWorkers = IsLanesFault ops workers lanes BadWorkers
IsCutFault ops workers lanes WrongLength = IsLanesFault ops workers lanes WrongLength
IsCutFault ops workers lanes (BadLane place) = IsLanesFault ops workers lanes (BadLane place)
IsCutFault ops workers lanes (SplitKey place) = IsAssignment ops workers lanes × IsFirstSplitKey ops lanes place
IsCutFault ops workers lanes BadBounds = ⊥
IsCutFault ops workers lanes OutOfMemory = ⊥
