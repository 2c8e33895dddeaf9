-- The lanes of workers at a table of words, each with a pass of its own.
use Rattle.std.specs.Prelude.{◌≡◌, ◌↔◌, ℕ, ◌+◌, ◌<◌, ◌≤◌, Some, List, [], ◌∷◌, length, Bool, true, false, cond, Contains, count_by, map, slice_get, sum_by, take, vec_capacity, vec_len}
use Rattle.std.proofs.Math.Dec.{leb}
use Rattle.std.specs.List.{zip}
use Rattle.blink_batch.specs.declared.Answer.{Answer}
use Rattle.blink_batch.specs.declared.Entry.{Entry}
use Rattle.blink_batch.specs.declared.Op.{Op}
use Rattle.blink_batch.specs.declared.Op.TheVariants.{Find, Insert}
use Rattle.blink_batch.specs.{Assignment, is_insert, answers, key_of, map_after, map_after_all, lane_of, operations_at, part_of, places_from, pointer_of}
use Rattle.blink_live.specs.declared.Keeper.{Keeper}
use Rattle.blink_live.specs.declared.Live.{Live}
use Rattle.blink_live.specs.declared.Pass.{Pass}
use Rattle.blink_live.specs.{inserts_left, deletes_left, NoneIsTaken, IsKeeperOf, IsPassOf, keys_of, opening_of, passes_dealt, passes_out, seen_by, share_of, taken_of}
use Rattle.blink_run.specs.declared.live.LiveRun.{LiveRun}
use Rattle.blink_run.specs.declared.live.lane.LaneRun.{LaneRun}
use Rattle.blink_run.specs.declared.live.needs.Needs.{Needs}
use Rattle.blink_run.specs.declared.live.threads.RunsLane.{RunsLane}

-- the operation uses one deletion of a pass: a deletion of either kind does, a replacement, and an exchange
abbrev pub uses_deletion : Op → Bool
uses_deletion (Find key) = false
uses_deletion (Insert key pointer) = false
uses_deletion op = true

-- ---- a lane

-- the operations of a worker's lane, in their order
abbrev pub lane_ops : List Op → List ℕ → ℕ → List Op
lane_ops ops lanes worker = operations_at ops (lane_of lanes worker)

-- the number of the lane's operations before the place
abbrev pub rank_in_lane : List ℕ → ℕ → ℕ → ℕ
rank_in_lane lanes worker place = length (part_of lanes worker (take place (places_from 0 lanes)))

-- the key is that of one of these operations
abbrev pub IsKeyOfOne : List Op → ℕ → Type 0
IsKeyOfOne ops key = (op : Op) × Contains ops op × (key_of op ≡ key)

-- ---- what a lane needs

-- the keys of the operations, each once; the number of operations, of the insertions among them, and of those that use a
-- deletion
pub record IsNeeded (ops : List Op) (needs : Needs) : Type 0 where
  pub keys : (key : ℕ) → Contains needs.keys.items key ↔ IsKeyOfOne ops key
  pub each_once : NoneIsTaken [] needs.keys.items
  pub as_many : needs.operations ≡ length ops
  pub inserts : needs.inserts ≡ count_by is_insert ops
  pub deletes : needs.deletes ≡ count_by uses_deletion ops

-- the keeper has dealt nothing, and seen nothing, and has the insertions and deletions that these operations use
pub record IsNewKeeper (live : Live) (ops : List Op) (keeper : Keeper) : Type 0 where
  pub its_own : IsKeeperOf live keeper
  pub none_taken : taken_of keeper ≡ []
  pub none_dealt : passes_dealt keeper ≡ 0
  pub none_out : passes_out keeper ≡ 0
  pub none_seen : seen_by keeper ≡ []
  pub inserts : count_by is_insert ops ≤ inserts_left keeper.pages
  pub deletes : count_by uses_deletion ops ≤ deletes_left keeper.pages keeper.rows

-- one for an operation that passes, in this lane or a later one
abbrev pub one_from : (Op → Bool) → ℕ → Op × ℕ → ℕ
one_from p worker given = cond (leb worker given.1) (cond (p given.0) 1 0) 0

-- how many operations pass, in this lane and the later ones
abbrev pub count_from : (Op → Bool) → List Op → List ℕ → ℕ → ℕ
count_from p ops lanes worker = sum_by (one_from p worker) (zip ops lanes)

-- the keeper has dealt a pass to each worker before this one, no key but those of their lanes, and has enough left for the other lanes
pub record HasDealtBefore (live : Live) (ops : List Op) (lanes : List ℕ) (worker : ℕ) (keeper : Keeper) : Type 0 where
  pub its_own : IsKeeperOf live keeper
  pub taken : (key : ℕ) → Contains (taken_of keeper) key → (lane : ℕ) × (lane < worker) × IsKeyOfOne (lane_ops ops lanes lane) key
  pub dealt : passes_dealt keeper ≡ worker
  pub out : passes_out keeper ≡ worker
  pub none_seen : seen_by keeper ≡ []
  pub inserts : count_from is_insert ops lanes worker ≤ inserts_left keeper.pages
  pub deletes : count_from uses_deletion ops lanes worker ≤ deletes_left keeper.pages keeper.rows

-- a pass is out for each of this many workers, with no key but those of the operations, and none came back
pub record HasDealtAll (live : Live) (ops : List Op) (workers : ℕ) (keeper : Keeper) : Type 0 where
  pub its_own : IsKeeperOf live keeper
  pub taken : (key : ℕ) → Contains (taken_of keeper) key → IsKeyOfOne ops key
  pub dealt : passes_out keeper ≡ workers
  pub none_seen : seen_by keeper ≡ []

-- ---- a lane's run

-- the pass has the operations' keys, each with its opening state, and enough insertions and deletions; none is answered yet, and
-- there is room for each answer
pub record MayRun (live : Live) (ops : List Op) (run : LaneRun) : Type 0 where
  pub its_own : IsPassOf live run.pass
  pub keys : (key : ℕ) → Contains (keys_of run.pass) key ↔ IsKeyOfOne ops key
  pub share : (key : ℕ) → Contains (keys_of run.pass) key → pointer_of (share_of run.pass) key ≡ pointer_of (opening_of live) key
  pub inserts : count_by is_insert ops ≤ inserts_left run.pass.pages
  pub deletes : count_by uses_deletion ops ≤ deletes_left run.pass.pages run.pass.rows
  pub none_yet : run.answers.items ≡ []
  pub room : length ops ≤ vec_capacity run.answers

-- the pass has those keys, and began with a share of them; the answers are those of the operations on that share, and the share
-- is as they leave it
pub record HasRun (live : Live) (ops : List Op) (run : LaneRun) : Type 0 where
  pub its_own : IsPassOf live run.pass
  pub keys : (key : ℕ) → Contains (keys_of run.pass) key ↔ IsKeyOfOne ops key
  pub share : List Entry
  pub began : (key : ℕ) → Contains (keys_of run.pass) key → pointer_of share key ≡ pointer_of (opening_of live) key
  pub answers_are : run.answers.items ≡ answers share ops
  pub ended : share_of run.pass ≡ map_after_all share ops

-- ---- an operation of a lane

-- the pass has the operation's key, and an insertion or deletion for it if it uses one, and there is room for the answer
pub record CanRun (live : Live) (op : Op) (run : LaneRun) : Type 0 where
  pub its_own : IsPassOf live run.pass
  pub key : Contains (keys_of run.pass) (key_of op)
  pub inserts : count_by is_insert (op ∷ []) ≤ inserts_left run.pass.pages
  pub deletes : count_by uses_deletion (op ∷ []) ≤ deletes_left run.pass.pages run.pass.rows
  pub room : vec_len run.answers < vec_capacity run.answers

-- the pass after the operation: the operation has changed its plain map, and has used one insertion or deletion if it uses one
pub record IsPassAfter (live : Live) (op : Op) (old new : Pass) : Type 0 where
  pub its_own : IsPassOf live new
  pub same_keys : keys_of new ≡ keys_of old
  pub share : share_of new ≡ map_after (share_of old) op
  pub inserts : inserts_left new.pages + count_by is_insert (op ∷ []) ≡ inserts_left old.pages
  pub deletes : deletes_left new.pages new.rows + count_by uses_deletion (op ∷ []) ≡ deletes_left old.pages old.rows

-- ---- all lanes

-- the promise of a worker's thread in a run
abbrev pub promise_of : LiveRun → ℕ → RunsLane
promise_of live_run worker = record { live_run = live_run; worker = worker }

-- each of this many workers has a run, and each lane's run may begin
pub record MayRunAll (live : Live) (ops : List Op) (workers : ℕ) (lanes : List ℕ) (runs : List LaneRun) : Type 0 where
  pub as_many : length runs ≡ workers
  pub each : (worker : ℕ) (run : LaneRun) → slice_get runs worker ≡ Some run → MayRun live (lane_ops ops lanes worker) run

-- each worker has a run, and each has ended
pub record HaveRun (live : Live) (ops : List Op) (workers : ℕ) (lanes : List ℕ) (runs : List LaneRun) : Type 0 where
  pub as_many : length runs ≡ workers
  pub each : (worker : ℕ) (run : LaneRun) → slice_get runs worker ≡ Some run → HasRun live (lane_ops ops lanes worker) run

-- the runs of an assignment's workers on its lanes have ended
abbrev pub HaveRunBy : Live → List Op → Assignment → List LaneRun → Type 0
HaveRunBy live ops cut runs = HaveRun live ops cut.workers cut.lanes runs

-- each place has the answer that its lane's run has for it
pub record AreGathered (lanes : List ℕ) (runs : List LaneRun) (given : List Answer) : Type 0 where
  pub one_each : length given ≡ length lanes
  pub each : (place worker : ℕ) (run : LaneRun) → slice_get lanes place ≡ Some worker → slice_get runs worker ≡ Some run
      → slice_get given place ≡ slice_get run.answers.items (rank_in_lane lanes worker place)

-- all lanes have run: these are their passes, and the answers, place by place
pub record HaveRunLanes (live : Live) (ops : List Op) (workers : ℕ) (lanes : List ℕ) (passes : List Pass) (given : List Answer) : Type 0 where
  pub runs : List LaneRun
  pub have_run : HaveRun live ops workers lanes runs
  pub its_passes : passes ≡ map (λ run. run.pass) runs
  pub gathered : AreGathered lanes runs given
