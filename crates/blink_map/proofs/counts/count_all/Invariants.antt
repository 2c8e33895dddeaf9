use Rattle.std.proofs.Common.{◌≡◌, ◌+◌, ◌<◌, ◌^◌, take}
use Rattle.blink_map.specs.Counts.{changes_of}
use Rattle.blink_map.proofs.counts.count_all.Given as goal

abbrev pub invariant-loop-held : goal.invariant-loop-held
invariant-loop-held l = record { sum : l.sum + 1 < 2 ^ 64 → l.sum ≡ changes_of (take l.held-index l.sessions) }
