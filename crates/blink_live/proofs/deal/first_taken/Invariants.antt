use Rattle.std.proofs.Common.{take}
use Rattle.blink_live.specs.Dealing.{HasMet}
use Rattle.blink_live.proofs.dealt.KeysMet.{NoneBefore}
use Rattle.blink_live.proofs.deal.first_taken.Given as goal

abbrev pub invariant-loop-place : goal.invariant-loop-place
invariant-loop-place l = HasMet l.met.refused l.met.keys (take l.place l.keys) × NoneBefore l.taken l.keys l.place
