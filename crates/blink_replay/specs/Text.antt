-- The text of a scan or a page: a line for each entry, and then their number.
use Rattle.std.specs.Prelude.{ℕ, List, ◌++◌, length, codes}
use Rattle.std.specs.List.{flat_map}
use Rattle.std.specs.Fmt.{decimal}
use Rattle.blink_batch.specs.declared.Entry.{Entry}

-- the key and the pointer of an entry
abbrev pub entry_line : Entry → List ℕ
entry_line entry = decimal entry.key ++ (codes " " ++ (decimal entry.pointer ++ codes "\n"))

-- the last line, with the number of the entries shown
abbrev pub end_line : ℕ → List ℕ
end_line shown = codes "end " ++ (decimal shown ++ codes "\n")

abbrev pub scan_text : List Entry → List ℕ
scan_text entries = flat_map entry_line entries ++ end_line (length entries)
