use Rattle.std.proofs.Common.{◌≡◌, length, take}
use Rattle.blink_live.specs.Finding.{AreFound, HasSearched}
use Rattle.blink_live.specs.Seats.{HasSameNumber}
use Rattle.blink_live.proofs.live.Live.search_all.Given as goal

abbrev pub invariant-loop-place : goal.invariant-loop-place
invariant-loop-place l = record {
  same_table : HasSameNumber l.initial.seat l.seat;
  searched : HasSearched l.initial.seat.me l.seat.me;
  many : length l.answers ≡ length l.keys;
  found : AreFound l.initial.seat.me (take l.place l.keys) (take l.place l.answers) l.seat.me;
}
