use Rattle.std.proofs.Common.{◌+◌, ◌≤◌, ◌↔◌, drop}
use Rattle.blink_page.specs.{least_above, IsRising}
use Rattle.blink_rows.proofs.lawful.keys_rise.Given as goal

-- all keys rise exactly where those that are left do, from above the last one that was read
abbrev pub invariant-loop-key : goal.invariant-loop-key
invariant-loop-key l = record {
  below_high : least_above l.below ≤ l.high + 1;
  rest_decides : IsRising (least_above l.fn.floor) l.entries (l.high + 1) ↔ IsRising (least_above l.below) (drop l.key-index l.entries) (l.high + 1);
}
