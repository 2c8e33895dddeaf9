-- The entries of a range that a backward scan has still to reach.
use Rattle.std.specs.Prelude.{ℕ, Option, Some, None, List, [], filter}
use Rattle.blink_operation.specs.declared.Entry.{Entry}
use Rattle.blink_entries.specs.Scan.{is_within}

-- the entries whose keys are from the one number to the other, or none if the other isn't given
abbrev pub entries_within : ℕ → Option ℕ → List Entry → List Entry
entries_within lo None entries = []
entries_within lo (Some hi) entries = filter (is_within lo hi) entries
