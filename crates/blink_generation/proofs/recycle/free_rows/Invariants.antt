use Rattle.std.proofs.Common.{◌≡◌, ◌+◌, ◌≤◌, Some}
use Rattle.blink_live.specs.{HasOtherRows, IsShelved, length_of, rows_on}
use Rattle.blink_generation.proofs.recycle.free_rows.Given as goal

abbrev pub invariant-loop : goal.invariant-loop
invariant-loop l = record {
  same : (l.seat.table_id ≡ l.initial.seat.table_id) × (l.seat.id ≡ l.initial.seat.id);
  other_rows : HasOtherRows l.initial.seat.me l.seat.me;
  rows : l.rows ≡ l.seat.me.0.rows;
  in_order : l.rows.next ≤ l.rows.stop;
  shelved : IsShelved (Some l.shelf) l.seat.me.0;
  none_lost : length_of l.rows + rows_on (Some l.shelf) ≡ length_of l.initial.rows + rows_on (Some l.initial.shelf);
  at_hand : length_of l.rows + l.shelf.free.len ≡ length_of l.initial.rows + l.initial.shelf.free.len;
}
