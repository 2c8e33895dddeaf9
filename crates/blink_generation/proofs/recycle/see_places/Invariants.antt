use Rattle.std.proofs.Common.{◌≡◌, ◌≤◌, Some, length}
use Rattle.blink_live.specs.{HasOtherStock, IsShelved, rows_on}
use Rattle.blink_generation.proofs.recycle.see_places.Given as goal

abbrev pub invariant-loop-place : goal.invariant-loop-place
invariant-loop-place l = record {
  same : (l.seat.table_id ≡ l.initial.seat.table_id) × (l.seat.id ≡ l.initial.seat.id);
  restocked : HasOtherStock l.initial.seat.me l.seat.me;
  shelved : IsShelved (Some l.shelf) l.seat.me.0;
  next : l.place ≡ length l.shelf.before.items;
  none_lost : rows_on (Some l.shelf) ≡ rows_on (Some l.initial.shelf);
  free : l.initial.shelf.free.len ≤ l.shelf.free.len;
}
