use Rattle.std.proofs.Common.{◌≡◌, take}
use Rattle.blink_live.specs.Scanning.{IsFilled}
use Rattle.blink_live.proofs.copy.give.Given as goal

abbrev pub invariant-loop-entry : goal.invariant-loop-entry
invariant-loop-entry l = record {
  count : l.filled ≡ l.entry-index;
  filled : IsFilled (take l.filled l.entries) l.fn.into l.into;
}
