-- The entries up to here stand in their places.
use Rattle.std.proofs.Common.{◌≡◌, List, ◌++◌, length, take}
use Rattle.std.specs.Prelude.{reverse}
use Rattle.blink_batch.specs.declared.Entry.{Entry}
use Rattle.blink_rest.specs.{entries_from}
use Rattle.blink_handles.specs.declared.raw.RawEntry.{RawEntry}
use Rattle.blink_handles.specs.Filled.{overlaid}
use Rattle.blink_handles.proofs.reads.set_run_back.Given as goal

abbrev pub invariant-loop-place : goal.invariant-loop-place
invariant-loop-place l = (shown : List Entry) (places : List RawEntry) → l.fn.entries ≡ overlaid shown places → l.first ≡ length shown
    → l.entries ≡ overlaid (shown ++ entries_from (take l.place (reverse l.run))) places
