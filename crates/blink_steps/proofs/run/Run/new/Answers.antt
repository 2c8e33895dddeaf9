use Rattle.std.proofs.Common.{◌≡◌, ℕ, ◌≤◌, List, length, refl, ap, ◌∙◌, subst}
use Rattle.blink_batch.specs.{Assignment}
use Rattle.blink_batch.specs.declared.cut.TheConstants.{WORKER_LIMIT}
use Rattle.blink_steps.proofs.runs.TurnFromItsParts.{AreIdle, AreIdle-firsts, AreOfLanes-idle}
use Rattle.blink_steps.specs.LaneQueues.{NextInLane, FirstInLane}
use Rattle.blink_steps.specs.Seats.{AreOfLanes}
use Rattle.blink_steps.proofs.run.Run.new.Goals as goal
use Rattle.blink_steps.proofs.run.Run.new.Goals.{In_ok-seats}

-- there is a seat for each worker
a_seat_each : (c : In_ok-seats) → length c.in_ok-seats.seats.items ≡ c.args.lanes.workers
a_seat_each c = c.in_ok-seats.ensures.a_seat_each ∙ c.workers.ensures.workers

-- and each is idle, with the first place of its lane next
all_idle : (c : In_ok-seats) → AreIdle c.args.lanes.lanes c.in_ok-seats.seats.items c.args.lanes.workers
all_idle c =
    let allowed : c.args.lanes.workers ≤ WORKER_LIMIT = subst (λ (a : Assignment). a.workers ≤ WORKER_LIMIT) c.lanes.view_is c.lanes.invariant.allowed.1 in
    let firsts : FirstInLane c.args.lanes.lanes c.in_ok-following.firsts 0 = subst (λ (lanes : List ℕ). FirstInLane lanes c.in_ok-following.firsts 0) c.lanes-2.ensures.lanes c.in_ok-following.ensures.firsts in
    AreIdle-firsts c.args.lanes.lanes c.in_ok-following.firsts c.in_ok-seats.seats.items c.args.lanes.workers firsts allowed (rw c.workers.ensures.workers at c.in_ok-seats.ensures.all_idle)

pub invariant_of-result : goal.invariant_of-result
invariant_of-result c =
    let made = (goal.at.invariant_of-result c).In_ok-seats in
    let lanes = c.lanes-2.ensures.lanes in
    let following = c.in_ok-following.following.items in
    let links : NextInLane c.args.lanes.lanes following 0 = subst (λ (l : List ℕ). NextInLane l following 0) lanes c.in_ok-following.ensures.following in
    let as_many : length following ≡ length c.args.lanes.lanes = c.in_ok-following.ensures.as_many ∙ ap length lanes in
    let of_lanes : AreOfLanes c.args.lanes.lanes c.in_ok-seats.seats.items = AreOfLanes-idle c.args.lanes.lanes c.in_ok-seats.seats.items (rw (a_seat_each made) (all_idle made)) in
    record { a_lane_each = c.requires; a_link_each = as_many; links = links; of_lanes = of_lanes }

pub returns : goal.returns
returns c =
    let made = (goal.at.returns c).In_ok-seats in
    let places : length c.ops-places.result.now ≡ length c.args.batch = ap length c.ops-places.ensures.ops in
    record {
      same_store = refl;
      no_latch = c.new-2.ensures;
      same_ops = refl;
      same_assignment = refl;
      a_seat_each = a_seat_each made;
      all_idle = all_idle made;
      nothing_recorded = rw (← places) c.in_ok-outcome.ensures;
    }
