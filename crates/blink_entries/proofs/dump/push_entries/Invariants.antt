use Rattle.std.proofs.Common.{◌≡◌, ◌++◌, take, string_bytes}
use Rattle.std.specs.List.{flat_map}
use Rattle.blink_entries.specs.Dump.{entry_text}
use Rattle.blink_entries.proofs.dump.push_entries.Given as goal

-- the entries so far were added
abbrev pub invariant-loop-key : goal.invariant-loop-key
invariant-loop-key l = string_bytes l.text ≡ string_bytes l.initial.text ++ flat_map entry_text (take l.key-index l.entries)
