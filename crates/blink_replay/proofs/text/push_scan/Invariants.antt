use Rattle.std.proofs.Common.{◌≡◌, List, ◌++◌, length, string_bytes}
use Rattle.std.specs.List.{flat_map}
use Rattle.blink_batch.specs.declared.Entry.{Entry}
use Rattle.blink_replay.specs.Text.{entry_line}
use Rattle.blink_replay.proofs.text.push_scan.Given as goal

-- the lines of the entries so far are added, and each is counted
abbrev pub invariant-loop-entry : goal.invariant-loop-entry
invariant-loop-entry l = record {
  can_next : (goal.iterator-loop-entry).can_next l.entry-iterator;
  is_finite : (goal.iterator-loop-entry).is_finite l.entry-iterator;
  shown : List Entry;
  in_order : l.fn.scan ≡ shown ++ l.entry-iterator;
  told : string_bytes l.text ≡ string_bytes l.initial.text ++ flat_map entry_line shown;
  counted : l.shown ≡ length shown;
}
