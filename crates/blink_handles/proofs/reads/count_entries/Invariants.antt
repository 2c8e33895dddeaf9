-- Each entry so far is counted.
use Rattle.std.proofs.Common.{◌≡◌, List, ◌++◌, length}
use Rattle.blink_batch.specs.declared.Entry.{Entry}
use Rattle.blink_handles.proofs.reads.count_entries.Given as goal

abbrev pub invariant-runs : goal.invariant-runs
invariant-runs l = record {
  shown : List Entry;
  in_order : l.fn.scan ≡ shown ++ l.scan;
  counted : l.there ≡ length shown;
}

-- fewer entries are to come each time
abbrev pub decreases-runs : goal.decreases-runs
decreases-runs l = length l.scan
