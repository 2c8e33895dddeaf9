use Rattle.std.proofs.Common.{◌≡◌, ◌*◌, length, take}
use Rattle.blink_page.specs.declared.limits.TheConstants.{GREATEST_KEY}
use Rattle.blink_page.specs.{ValuesWithin}
use Rattle.blink_rows.specs.Row.{flat}
use Rattle.blink_rows.proofs.pages.entries_of.Given as goal

-- the entries that have been read are the words up to here
abbrev pub invariant-loop-i : goal.invariant-loop-i
invariant-loop-i l = record {
  read : flat l.entries.items ≡ take (2 * l.i) l.words;
  count : length l.entries.items ≡ l.i;
  values : ValuesWithin 0 GREATEST_KEY l.entries.items;
}
