-- Keys that are free, with changes that are allowed, are refused only where memory is.
use Rattle.std.proofs.Common.{Err, ap}
use Rattle.blink_live.specs.IsDealRefusal.{taken, no_allowance, no_memory}
use Rattle.blink_run.proofs.live.dealing.deal.Goals as goal

pub unreachable-requires : goal.unreachable-requires
unreachable-requires c = elim c.in-Err.ensures.refused [
  | taken key is ↦ let first = (c.in-Err.ensures.taken key).0 (ap Err is) in c.requires.free first.place key first.is_taken
  | no_allowance is ↦ c.requires.allowed (c.in-Err.ensures.no_allowance.0 (ap Err is)).1
  | no_memory is ↦ c.in_default.not-DealOutOfMemory is
]
