use Rattle.std.proofs.Common.{◌∷◌, length, take}
use Rattle.blink_rows.specs.Row.{IsRowOf}
use Rattle.blink_rows.proofs.primes.prime_row.Given as goal

-- the pages that have been written stand in the row, and no other
abbrev pub invariant-loop-level : goal.invariant-loop-level
invariant-loop-level l = IsRowOf l.words (0 ∷ 0 ∷ 0 ∷ 0 ∷ 0 ∷ length l.prime ∷ take l.level l.prime)
