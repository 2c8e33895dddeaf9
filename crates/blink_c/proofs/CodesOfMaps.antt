-- The codes of the refusals of a map or its session.
use Rattle.std.proofs.Common.{◌≡◌, arith}
use Rattle.blink_handles.specs.declared.map_refusal.MapRefusal.{MapRefusal}
use Rattle.blink_handles.specs.declared.map_refusal.MapRefusal.TheVariants.{OutOfMemory, TooLarge, Sessions, NoSession, Busy, Full, RowsBusy, Missing, UnderWay, Idle, Closed}
use Rattle.blink_handles.specs.MapCodes.{code_of}

-- no refusal has the code of a call that isn't refused
pub not_done : (refusal : MapRefusal) → code_of refusal ≡ 0 → ⊥
not_done OutOfMemory is = omega (arith, is)
not_done TooLarge is = omega (arith, is)
not_done Sessions is = omega (arith, is)
not_done NoSession is = omega (arith, is)
not_done Busy is = omega (arith, is)
not_done Full is = omega (arith, is)
not_done RowsBusy is = omega (arith, is)
not_done Missing is = omega (arith, is)
not_done UnderWay is = omega (arith, is)
not_done Idle is = omega (arith, is)
not_done Closed is = omega (arith, is)
