use Rattle.std.proofs.Common.{◌≡◌, List, length}
use Rattle.blink_page.specs.{PlainPage}
use Rattle.blink_rows.specs.declared.log.Record.{Record}
use Rattle.blink_rows.specs.Log.{IsLoggedRow}
use Rattle.blink_rows.proofs.LogContent.{IsLeft}
use Rattle.blink_rows.proofs.logged.newest.Given as goal

-- no newer record is about the key
abbrev pub invariant-loop-left : goal.invariant-loop-left
invariant-loop-left l = (page : PlainPage) (log : List Record) → IsLoggedRow page log l.words l.records → l.base ≡ length page.entries → IsLeft l.key log l.left
