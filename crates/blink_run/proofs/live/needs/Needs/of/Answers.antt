-- Each operation of the lane is one more, and other lanes' aren't.
use Rattle.std.proofs.Common.{◌≡◌, ◌<◌, length, map, count_by, get_or, Some, ap, ◌∙◌, arith}
use Rattle.std.specs.List.{slice_get}
use Rattle.std.proofs.lemmas.Grind.{common_steps}
use Rattle.std.proofs.lemmas.Option.{slice_get-get_or}
use Rattle.blink_batch.specs.declared.Op.TheVariants.{Find}
use Rattle.blink_batch.specs.{is_insert, key_of}
use Rattle.blink_run.specs.Lanes.{uses_deletion, lane_ops}
use Rattle.blink_run.proofs.NeedsOfLane.{needed_from_gathered}
use Rattle.blink_run.proofs.LaneSoFar.{lane_so_far, lane_so_far-own, lane_so_far-other, lane_so_far-all}
use Rattle.blink_run.proofs.live.needs.Needs.of.Goals.{then-lanes-place+in_ok-push, else-lanes-place}
use Rattle.blink_run.proofs.live.needs.Needs.of.Goals as goal

pub loop-place-preserved : goal.loop-place-preserved
loop-place-preserved c =
    let ops = c.ops-ops.result.now in
    let lanes = c.args.lanes.now in
    let worker = c.args.worker in
    let place = c.loop-place.place in
    let within_lanes : place < length lanes = omega arith in
    let within : place < length ops = omega (arith, ap length c.ops-ops.ensures.ops) in
    elim c.if-lanes-place.branch [
      | then-lanes-place+in_ok-push w ↦
          let op = get_or ops place (Find 0) in
          let there : slice_get ops place ≡ Some op = slice_get-get_or ops place (Find 0) within in
          let own : slice_get lanes place ≡ Some worker = slice_get-get_or lanes place 0 within_lanes ∙ ap Some w.if-lanes-place.true in
          let more = lane_so_far-own ops lanes worker place op there own in
          grind (arith, common_steps, more, w.uses_of-insert.ensures)
      | else-lanes-place w ↦
          let same = lane_so_far-other ops lanes worker place within_lanes w.if-lanes-place.false in
          grind (arith, common_steps, same)
    ]

pub returns : goal.returns
returns c =
    let ops = c.args.batch.now in
    let lanes = c.args.lanes.now in
    let worker = c.args.worker in
    let place = c.loop-place.place in
    let all : lane_so_far c.ops-ops.result.now lanes worker place ≡ lane_ops ops lanes worker = ap (λ run. lane_so_far run lanes worker place) c.ops-ops.ensures.ops ∙ lane_so_far-all ops lanes worker place (omega arith) in
    let so_far = c.loop-place.invariant in
    needed_from_gathered (lane_ops ops lanes worker) _ c.loop-place.keys.items
    (so_far.keys ∙ ap (map key_of) all)
    c.each_once.ensures.same
    c.each_once.ensures.once
    (so_far.as_many ∙ ap length all)
    (so_far.inserts ∙ ap (count_by is_insert) all)
    (so_far.deletes ∙ ap (count_by uses_deletion) all)
