use Rattle.std.proofs.Common.{◌≡◌, ◌++◌, take}
use Rattle.blink_machine.specs.{entries_from}
use Rattle.blink_live.proofs.leaves.add_entries.Given as goal

-- the entries of the first pairs are added
abbrev pub invariant-loop-key : goal.invariant-loop-key
invariant-loop-key l = record {
  added : l.entries.items ≡ l.initial.entries.items ++ entries_from (take l.key-index l.pairs);
}
