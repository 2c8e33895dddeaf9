-- How many changes of a session are counted.
use Rattle.std.specs.Prelude.{ℕ, ◌+◌, List, [], ◌∷◌, if◌then◌else◌}
use Rattle.blink_batch.specs.declared.Answer.{Answer}
use Rattle.blink_live.specs.{has_changed}
use Rattle.blink_map.specs.declared.slots.Current.{Current}

-- how many changes an operation with this answer has made
abbrev pub made_with : Answer → ℕ
made_with answer = if has_changed answer then 1 else 0

-- how many are counted of these sessions together
abbrev pub changes_of : List Current → ℕ
changes_of [] = 0
changes_of (held ∷ others) = held.changes + changes_of others
