use Rattle.blink_live.proofs.opened.RowsAreLaid.{IsLaidTo}
use Rattle.blink_live.proofs.open.lay_tree.Given as goal

-- the pages so far are laid
abbrev pub invariant-loop-before : goal.invariant-loop-before
invariant-loop-before l = IsLaidTo l.counts l.store l.before l.words
