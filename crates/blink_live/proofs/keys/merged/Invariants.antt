use Rattle.std.proofs.Common.{◌-◌, ◌≤◌, ◌++◌, length, take}
use Rattle.std.specs.List.Sorted.{IsPermutation}
use Rattle.blink_live.proofs.keys.merged.Given as goal

abbrev pub invariant-loop-other : goal.invariant-loop-other
invariant-loop-other l = record {
  inside : l.next ≤ length l.keys;
  merged : IsPermutation (take l.next l.keys ++ take l.other-index l.others) l.all.items;
}

abbrev pub invariant-loop-next : goal.invariant-loop-next
invariant-loop-next l = record {
  inside : l.next ≤ length l.keys;
  merged : IsPermutation (take l.next l.keys ++ take l.other-index l.others) l.all.items;
}

abbrev pub decreases-loop-next : goal.decreases-loop-next
decreases-loop-next l = length l.keys - l.next
