use Rattle.blink_store.specs.{page_of}
use Rattle.blink_entries.proofs.WayDown.{IsOnTheWay, level_at}
use Rattle.blink_entries.proofs.down.leaf_number.Given as goal

-- the page is on the way to the key's leaf
abbrev pub invariant-way : goal.invariant-way
invariant-way l = IsOnTheWay l.store l.key l.number

-- each page on the way is lower than the one before
abbrev pub decreases-way : goal.decreases-way
decreases-way l = level_at (page_of l.store l.number)
