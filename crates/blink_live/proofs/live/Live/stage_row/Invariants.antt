use Rattle.std.proofs.Common.{◌≡◌}
use Rattle.blink_live.proofs.changed.RowsAreStaged.{first_words, seat_staged}
use Rattle.blink_live.proofs.live.Live.stage_row.Given as goal

-- so many words are stored
abbrev pub invariant-loop-place : goal.invariant-loop-place
invariant-loop-place l = record {
  same : (l.seat.table_id ≡ l.initial.seat.table_id) × (l.seat.id ≡ l.initial.seat.id);
  stored : l.seat.me ≡ seat_staged l.initial.seat.me (first_words l.words l.place);
}
