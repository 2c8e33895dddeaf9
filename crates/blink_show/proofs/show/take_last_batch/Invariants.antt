use Rattle.std.proofs.Common.{◌≡◌, ◌++◌, List, count_by}
use Rattle.blink_batch.specs.declared.Part.{Part}
use Rattle.blink_replay.specs.{is_batch}
use Rattle.blink_show.proofs.show.take_last_batch.Given as goal

-- among those taken away is no batch
abbrev pub invariant-loop-part : goal.invariant-loop-part
invariant-loop-part l = (rest : List Part) × (l.initial.parts.items ≡ l.parts.items ++ rest) × (count_by is_batch rest ≡ 0)

abbrev pub decreases-loop-part : goal.decreases-loop-part
decreases-loop-part l = goal.left-loop-part l
