use Rattle.std.proofs.Common.{◌≡◌, ◌≤◌, ◌+◌, suc, length}
use Rattle.std.specs.Prelude.{reverse, vec_capacity}
use Rattle.std.specs.Arc.{arc_value}
use Rattle.blink_map.specs.Laid.{AreOthersIn}
use Rattle.blink_map.proofs.Opens.{AreFirstBehind}
use Rattle.blink_map.proofs.next.hold.Given as goal

-- the sessions that are left lie from the last one to the next
abbrev pub invariant-loop-session : goal.invariant-loop-session
invariant-loop-session l = record {
  first : AreFirstBehind (arc_value l.map) l.copier (length l.others.items) (reverse l.sessions.items);
  held : AreOthersIn (arc_value l.map) l.copier l.others.items;
  width : suc (length l.others.items + length l.sessions.items) ≡ length l.fn.sessions.items;
  room : length l.others.items + length l.sessions.items ≤ vec_capacity l.others;
}

abbrev pub decreases-loop-session : goal.decreases-loop-session
decreases-loop-session l = length l.sessions.items
