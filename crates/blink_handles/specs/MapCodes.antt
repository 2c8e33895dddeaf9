-- The refusals of a map or its session, and their codes.
use Rattle.std.specs.Prelude.{ℕ}
use Rattle.blink_map.specs.declared.error.GrowError.{GrowError}
use Rattle.blink_map.specs.declared.error.GrowError.TheVariants as grow
use Rattle.blink_handles.specs.declared.map_refusal.MapRefusal.{MapRefusal}
use Rattle.blink_handles.specs.declared.map_refusal.MapRefusal.TheVariants.{OutOfMemory, TooLarge, Sessions, NoSession, Busy, Full, RowsBusy, Missing, UnderWay, Idle, Closed}

abbrev pub refusal_of : GrowError → MapRefusal
refusal_of grow.OutOfMemory = OutOfMemory
refusal_of grow.TooLarge = TooLarge
refusal_of grow.Sessions = Sessions
refusal_of grow.Busy = Busy
refusal_of grow.Full = Full

abbrev pub code_of : MapRefusal → ℕ
code_of OutOfMemory = 41
code_of TooLarge = 101
code_of Sessions = 102
code_of NoSession = 103
code_of Busy = 109
code_of Full = 105
code_of RowsBusy = 107
code_of Missing = 106
code_of UnderWay = 90
code_of Idle = 91
code_of Closed = 108
