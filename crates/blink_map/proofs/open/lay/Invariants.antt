use Rattle.std.proofs.Common.{◌≡◌, ◌+◌, length}
use Rattle.std.specs.Prelude.{reverse}
use Rattle.std.specs.Arc.{arc_value}
use Rattle.blink_map.specs.Laid.{AreLaid}
use Rattle.blink_map.proofs.Opens.{AreFirstFrom}
use Rattle.blink_map.proofs.open.lay.Given as goal

-- the sessions that are left lie from the last one to the next
abbrev pub invariant-loop-session : goal.invariant-loop-session
invariant-loop-session l = record {
  first : AreFirstFrom (arc_value l.map) (length l.slots.items) (reverse l.sessions.items);
  laid : AreLaid (arc_value l.map) l.slots.items;
  width : length l.slots.items + length l.sessions.items ≡ length l.fn.sessions.items;
}

abbrev pub decreases-loop-session : goal.decreases-loop-session
decreases-loop-session l = length l.sessions.items
