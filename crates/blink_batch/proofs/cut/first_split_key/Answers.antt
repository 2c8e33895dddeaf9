use Rattle.std.proofs.Common.{below_more, arith}
use Rattle.blink_batch.specs.Cut.{IsSplitKey}
use Rattle.blink_batch.proofs.LastPlaces.{unsplit_by_last}
use Rattle.blink_batch.proofs.cut.first_split_key.Goals.{in_default-via-in-Some+else-lanes-earlier, in_default-via-in_default}
use Rattle.blink_batch.proofs.cut.first_split_key.Goals as goal

-- nor is the key at this place split
pub loop-place-preserved : goal.loop-place-preserved
loop-place-preserved c =
    let ops = c.args.ops.now in
    let lanes = c.args.lanes.now in
    let so_far = c.loop-place.invariant in
    record {
      whole = below_more (λ place. ¬ IsSplitKey ops lanes place) _ so_far.whole (elim c.in_default.branch [
        | in_default-via-in-Some+else-lanes-earlier w ↦ unsplit_by_last ops lanes c.loop-place.place w.in-Some.earlier so_far.whole w.in-Some.ensures w.if-lanes-earlier.false
        | in_default-via-in_default w ↦ λ split. w.in_default.ensures split.0 split.1.before split.1.same_key
      ]);
      recorded = c.note.ensures;
    }

pub returns : goal.returns
returns c = λ i within. c.loop-place.invariant.whole i (omega arith)
