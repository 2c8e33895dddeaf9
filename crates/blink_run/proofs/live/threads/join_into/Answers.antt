use Rattle.std.proofs.Common.{[], ◌∷◌, ◌++◌, append_assoc, arith}
use Rattle.std.proofs.lemmas.Slice.Zip.{all_zipped_more}
use Rattle.blink_run.proofs.live.threads.join_into.Goals as goal

-- the thread that is joined is that of the first handle left
pub loop-handle-preserved : goal.loop-handle-preserved
loop-handle-preserved g c =
    let so_far = c.loop-handle.invariant.kept in
    record {
      kept = (
        so_far.0 ++ c.in-Some.handle ∷ [],
        rw append_assoc (cc (c.in-Some.ensures.steps.0)),
        rw c.push_reserved.ensures.items (all_zipped_more _ _ _ _ _ so_far.2 c.join.ensures),
      );
      room = omega (arith, c.in-Some.ensures.steps.1);
    }
