use Rattle.std.proofs.Common.{◌+◌, ◌-◌, ◌≤◌, get_or, length, take}
use Rattle.blink_operation.specs.declared.Entry.{Entry}
use Rattle.blink_page.specs.{IsRising}
use Rattle.blink_rest.specs.{pairs_of}
use Rattle.blink_index.proofs.index.sorted.first_unsorted.Given as goal

-- the entries so far ascend
abbrev pub invariant-loop-place : goal.invariant-loop-place
invariant-loop-place l = record {
  rising : (d : Entry) → l.place ≤ length l.entries → IsRising 0 (pairs_of (take l.place l.entries)) ((get_or l.entries (l.place - 1) d).key + 1);
}
