use Rattle.std.proofs.Common.{◌≡◌, ◌⊎◌, ◌-◌, ◌≤◌, length}
use Rattle.blink_live.specs.{IsPassOf, IsSameBesideSeen, share_of}
use Rattle.blink_client.specs.Counted.{present}
use Rattle.blink_client.proofs.count.count_own.Given as goal

abbrev pub invariant-loop-from : goal.invariant-loop-from
invariant-loop-from l = record {
  places : length l.into ≡ 16;
  its_own : IsPassOf l.live l.pass;
  same : IsSameBesideSeen l.fn.pass l.pass;
  first : l.lo ≤ l.from;
  last : (l.from ≤ l.end) ⊎ (l.from ≡ l.lo);
  counted : l.count ≡ present (share_of l.fn.pass) l.lo (l.from - l.lo);
}

abbrev pub decreases-loop-from : goal.decreases-loop-from
decreases-loop-from l = l.end - l.from
