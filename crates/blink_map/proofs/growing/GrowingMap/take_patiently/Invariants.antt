use Rattle.std.proofs.Common.{◌≡◌}
use Rattle.blink_map.proofs.growing.GrowingMap.take_patiently.Given as goal

abbrev pub invariant-loop : goal.invariant-loop
invariant-loop l = record {
  same : l.seat.table_id ≡ l.initial.seat.table_id;
  same_me : l.seat.me ≡ l.initial.seat.me;
}
