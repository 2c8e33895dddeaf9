use Rattle.std.specs.Prelude.{All}
use Rattle.blink_map.specs.{IsSessionOf}
use Rattle.blink_map_tests.proofs.parts.insert_by_each.Given as goal

abbrev pub invariant-loop-key : goal.invariant-loop-key
invariant-loop-key g l = All (IsSessionOf l.map) l.sessions.items
