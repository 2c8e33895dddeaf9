-- The `Counts` of a table as a contract sees them.
use Rattle.blink_rows.specs.Counts.{PlainCounts}
use Rattle.blink_rows.specs.declared.counts.Counts.TheInside.{Inside}

-- the counts as plain data
abbrev pub plain : Inside → PlainCounts
plain counts = record { numbers = counts.numbers; rows = counts.rows }

-- the fields of counts
abbrev pub inside_of : PlainCounts → Inside
inside_of counts = record { numbers = counts.numbers; rows = counts.rows }
