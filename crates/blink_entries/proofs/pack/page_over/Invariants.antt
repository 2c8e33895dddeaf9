use Rattle.std.proofs.Common.{◌≡◌, ◌+◌, take}
use Rattle.blink_rest.specs.{names_for}
use Rattle.blink_entries.specs.Packed.{numbered}
use Rattle.blink_entries.proofs.pack.page_over.Given as goal

-- so many pages are named
abbrev pub invariant-loop-page : goal.invariant-loop-page
invariant-loop-page l = record {
  named : l.items.items ≡ names_for (numbered l.child (take l.page-index l.children));
  number : l.number ≡ l.child + l.page-index;
}
