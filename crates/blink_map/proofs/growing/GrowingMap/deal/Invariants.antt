use Rattle.std.proofs.Common.{◌≡◌, [], length}
use Rattle.blink_map.specs.Opening.{AreDealt, dealer}
use Rattle.blink_map.specs.Sessions.{opening_of, places_of}
use Rattle.blink_map.proofs.growing.GrowingMap.deal.Given as goal

abbrev pub invariant-loop-slot : goal.invariant-loop-slot
invariant-loop-slot l = record {
  same : l.seat.table_id ≡ l.self.table.shared.table_id;
  me : l.seat.me ≡ (dealer (opening_of l.self) (places_of l.self) l.slot, []);
  dealt : AreDealt l.self l.sessions.items;
  width : length l.sessions.items ≡ l.slot;
}
