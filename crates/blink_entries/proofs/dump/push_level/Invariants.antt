use Rattle.std.proofs.Common.{◌≡◌, ◌++◌, Some, length, string_bytes}
use Rattle.blink_entries.specs.Dump.{level_text}
use Rattle.blink_entries.specs.Index.{cells_of}
use Rattle.blink_entries.specs.Scan.{IsLinkOf}
use Rattle.blink_entries.proofs.dump.push_level.Given as goal

-- with the lines from the link on, the text would be whole
abbrev pub invariant-loop-link : goal.invariant-loop-link
invariant-loop-link l = record {
  is_link : IsLinkOf l.store l.link;
  rest_is_left : string_bytes l.text ++ level_text (cells_of l.store l.link) ≡ string_bytes l.initial.text ++ level_text (cells_of l.store (Some l.leftmost));
}

-- fewer pages follow each time
abbrev pub decreases-loop-link : goal.decreases-loop-link
decreases-loop-link l = length (cells_of l.store l.link)
