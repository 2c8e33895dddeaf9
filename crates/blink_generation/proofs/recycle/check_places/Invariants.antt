use Rattle.std.proofs.Common.{◌≡◌, ◌≤◌, Some}
use Rattle.blink_live.specs.{HasOtherStock, IsShelved, rows_on}
use Rattle.blink_generation.proofs.recycle.check_places.Given as goal

abbrev pub invariant-loop : goal.invariant-loop
invariant-loop l = record {
  same : (l.seat.table_id ≡ l.initial.seat.table_id) × (l.seat.id ≡ l.initial.seat.id);
  restocked : HasOtherStock l.initial.seat.me l.seat.me;
  shelved : IsShelved (Some l.shelf) l.seat.me.0;
  none_lost : rows_on (Some l.shelf) ≡ rows_on (Some l.initial.shelf);
  free : l.initial.shelf.free.len ≤ l.shelf.free.len;
}
