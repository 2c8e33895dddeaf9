-- The kinds so far are known.
use Rattle.std.proofs.Common.{take}
use Rattle.blink_handles.specs.Runs.{AreKnown}
use Rattle.blink_handles.proofs.batch.are_known.Given as goal

abbrev pub invariant-loop-operation : goal.invariant-loop-operation
invariant-loop-operation l = AreKnown (take l.operation-index l.operations)
