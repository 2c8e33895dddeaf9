use Rattle.std.proofs.Common.{◌≡◌, ℕ, ◌+◌, ◌-◌, ◌<◌, length, get_or, sym, subst, ◌∙◌, arith, rules}
use Rattle.std.proofs.lemmas.List.{length-set}
use Rattle.std.proofs.lemmas.List.Elements.{All-get_or}
use Rattle.blink_batch.specs.declared.cut.TheConstants.{WORKER_LIMIT}
use Rattle.blink_steps.proofs.runs.LanesAsQueues.{NextInLane-end, FirstInLane-end, NextInLane-more, FirstInLane-more}
use Rattle.blink_steps.proofs.lane_queues.lane_queues.Goals as goal

pub loop-place-init : goal.loop-place-init
loop-place-init c = record {
  as_many = search rules;
  following = NextInLane-end c.args.lanes.now c.in_ok-following.following.items;
  firsts = FirstInLane-end c.args.lanes.now;
}

pub loop-place-preserved : goal.loop-place-preserved
loop-place-preserved c =
    let from = c.loop-place.place in
    let place = from - 1 in
    let lanes = c.args.lanes.now in
    let after : from ≡ place + 1 = omega arith in
    let within : place < length lanes = omega arith in
    let is_lane : get_or lanes place 0 ≡ c.from-lane.result = sym c.from-lane.ensures in
    let worker_lane : c.from-lane.result < WORKER_LIMIT = subst (λ (lane : ℕ). lane < WORKER_LIMIT) is_lane (All-get_or (λ lane. lane < WORKER_LIMIT) lanes place 0 within c.requires.workers) in
    let kept = c.loop-place.invariant in
    record {
      as_many = length-set _ _ _ ∙ kept.as_many;
      following = NextInLane-more lanes c.loop-place.firsts from place c.from-lane.result after within is_lane worker_lane kept.firsts c.loop-place.following.items kept.as_many kept.following;
      firsts = FirstInLane-more lanes c.loop-place.firsts from place c.from-lane.result after within is_lane worker_lane kept.firsts;
    }
