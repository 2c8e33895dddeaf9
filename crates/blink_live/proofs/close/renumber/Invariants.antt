use Rattle.std.proofs.Common.{◌≡◌, ◌+◌}
use Rattle.blink_live.proofs.gathered.ChildrenAreWritten.{first_with_children}
use Rattle.blink_live.proofs.close.renumber.Given as goal

-- so many entries have their new children
abbrev pub invariant-loop-entry : goal.invariant-loop-entry
invariant-loop-entry l = record {
  next_is : l.next ≡ l.child + l.entry-index;
  done : l.entries ≡ first_with_children l.entry-index l.child l.initial.entries;
}
