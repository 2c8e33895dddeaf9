-- The entries so far stand in the first places, all of them, and each is counted.
use Rattle.std.proofs.Common.{◌≡◌, ◌≤◌, List, ◌++◌, length}
use Rattle.blink_batch.specs.declared.Entry.{Entry}
use Rattle.blink_handles.specs.Filled.{overlaid}
use Rattle.blink_handles.proofs.reads.fill_back.Given as goal

abbrev pub invariant-runs : goal.invariant-runs
invariant-runs l = record {
  shown : List Entry;
  in_order : l.fn.scan ≡ shown ++ l.scan;
  overlaid_so_far : l.entries ≡ overlaid shown l.initial.entries;
  counted : l.filled ≡ length shown;
  fitted : l.filled ≤ length l.initial.entries;
}

-- fewer entries are to come each time
abbrev pub decreases-runs : goal.decreases-runs
decreases-runs l = length l.scan
