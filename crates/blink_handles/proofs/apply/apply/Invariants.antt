-- The operations so far are carried out, and there are as many places as operations.
use Rattle.std.proofs.Common.{◌≡◌, length}
use Rattle.blink_handles.specs.Edits.{HasApplied}
use Rattle.blink_handles.proofs.apply.apply.Given as goal

abbrev pub invariant-loop-place : goal.invariant-loop-place
invariant-loop-place l = record {
  applied : HasApplied l.initial.index l.operations l.place l.initial.answers l.answers l.index;
  as_many : length l.answers ≡ length l.operations;
  counted : l.carried_out ≡ l.place;
}
