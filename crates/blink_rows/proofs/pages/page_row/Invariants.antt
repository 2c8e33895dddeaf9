use Rattle.std.proofs.Common.{◌∷◌, length, take}
use Rattle.std.specs.Prelude.{unwrap_or}
use Rattle.blink_rows.specs.Row.{IsRowOf, flag, flat}
use Rattle.blink_rows.proofs.pages.page_row.Given as goal

-- the entries that have been written stand in the row, and no other
abbrev pub invariant-loop-i : goal.invariant-loop-i
invariant-loop-i l = IsRowOf l.words (l.page.level ∷ flag l.page.floor ∷ unwrap_or l.page.floor 0 ∷ l.page.high ∷ unwrap_or l.page.right 0 ∷ length l.page.entries ∷ flat (take l.i l.page.entries))
