use Rattle.std.proofs.Common.{◌-◌, ◌≡◌, ◌↔◌, length}
use Rattle.blink_live.specs.KeyTest.{IsWindow}
use Rattle.blink_live.proofs.keys.window_of_three.Given as goal

abbrev pub invariant-loop-size : goal.invariant-loop-size
invariant-loop-size l = record {
  window : IsWindow l.keys l.key l.first l.size;
  none : (l.size ≡ 0) ↔ (length l.keys ≡ 0);
}

abbrev pub decreases-loop-size : goal.decreases-loop-size
decreases-loop-size l = l.size - 3
