use Rattle.std.proofs.Common.{◌<◌, ◌≤◌, ◌^◌, get_or, vec_capacity, vec_len, refl, sym, ◌∙◌, arith}
use Rattle.std.proofs.lemmas.List.{length-set}
use Rattle.blink_run.proofs.GatheredSoFar.{all_gathered, has_next, none_gathered, one_more_here}
use Rattle.blink_run.proofs.live.gathering.answers_by_place.Goals as goal

pub loop-lane-init : goal.loop-lane-init
loop-lane-init c = record {
  so_far = rw c.in_ok-given.ensures.items (none_gathered c.lanes-lanes.result.now c.args.runs.now 64);
  room = c.in_ok-given.ensures.capacity;
  sixty_four = refl;
}

pub index-requires : goal.index-requires
index-requires c =
    has_next c.args.cut.now.workers c.args.cut.now.lanes c.lanes-lanes.result.now c.lanes-lanes.ensures.lanes c.lanes-lanes.ensures.workers c.args.runs.now c.requires.as_many c.requires.whole
    c.loop-lane.lane-index c.loop-lane.given.items c.loop-lane.next c.loop-lane.invariant.so_far c.loop-lane.invariant.sixty_four
    c.from-worker.result c.index-runs-worker.result c.loop-lane-test.true c.from-worker.ensures

pub overflow_add-next : goal.overflow_add-next
overflow_add-next c =
    let below = has_next c.args.cut.now.workers c.args.cut.now.lanes c.lanes-lanes.result.now c.lanes-lanes.ensures.lanes c.lanes-lanes.ensures.workers c.args.runs.now c.requires.as_many c.requires.whole
    c.loop-lane.lane-index c.loop-lane.given.items c.loop-lane.next c.loop-lane.invariant.so_far c.loop-lane.invariant.sixty_four
    c.from-worker.result c.index-runs-worker.result c.loop-lane-test.true c.from-worker.ensures in
    let run = get_or c.args.runs.now c.from-worker.result c.index-runs-worker.result in
    let small : vec_capacity run.answers < 2 ^ 63 = run.answers.small in
    let fits : vec_len run.answers ≤ vec_capacity run.answers = run.answers.ok.1 in
    omega arith

pub loop-lane-preserved : goal.loop-lane-preserved
loop-lane-preserved c = record {
  so_far = rw (c.push_reserved.ensures.items, c.index.ensures) (one_more_here c.args.cut.now.workers c.args.cut.now.lanes c.lanes-lanes.result.now c.lanes-lanes.ensures.lanes c.lanes-lanes.ensures.workers c.args.runs.now c.requires.as_many c.requires.whole
      c.loop-lane.lane-index c.loop-lane.given.items c.loop-lane.next c.loop-lane.invariant.so_far c.loop-lane.invariant.sixty_four
      c.from-worker.result c.index-runs-worker.result c.loop-lane-test.true c.from-worker.ensures c.index.result.now);
  room = let room = c.loop-lane.invariant.room in let same = c.push_reserved.ensures.capacity in omega arith;
  sixty_four = length-set c.loop-lane.next c.from-worker.result _ ∙ c.loop-lane.invariant.sixty_four;
}

pub returns : goal.returns
returns c = rw (sym c.lanes-lanes.ensures.lanes) (all_gathered c.lanes-lanes.result.now c.args.runs.now c.loop-lane.lane-index c.loop-lane.given.items c.loop-lane.next c.loop-lane.invariant.so_far (omega arith))
