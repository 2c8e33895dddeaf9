use Rattle.std.proofs.Common.{◌≡◌}
use Rattle.blink_live.specs.{HasSameNumber}
use Rattle.blink_generation.proofs.pool.draw_pages.Given as goal

-- nothing is drawn yet
abbrev pub invariant-loop : goal.invariant-loop
invariant-loop l = record {
  same : HasSameNumber l.fn.seat l.seat;
  view : l.seat.me ≡ l.fn.seat.me;
}
