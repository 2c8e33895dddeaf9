use Rattle.std.proofs.Common.{take}
use Rattle.blink_live.specs.Dealing.{HasMet}
use Rattle.blink_live.proofs.handed.KeysInList.{YoursBefore}
use Rattle.blink_live.proofs.hand.first_foreign.Given as goal

abbrev pub invariant-loop-place : goal.invariant-loop-place
invariant-loop-place l = HasMet l.met.refused l.met.keys (take l.place l.keys) × YoursBefore l.own l.keys l.place
