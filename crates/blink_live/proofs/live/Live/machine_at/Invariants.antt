use Rattle.std.proofs.Common.{◌≡◌, ◌-◌, take}
use Rattle.blink_live.specs.Straight.{page_at}
use Rattle.blink_live.proofs.found.DescentsOfChanges.{descending}
use Rattle.blink_live.proofs.live.Live.machine_at.Given as goal

-- the operation has come to the page of this place
abbrev pub invariant-loop-place : goal.invariant-loop-place
invariant-loop-place l = l.machine ≡ descending l.fn.self.fan l.fn.op (take l.place l.fn.descent.above.items) (page_at l.fn.descent l.place) (l.levels - l.place)
