-- An operation that a session has tried once.
use Rattle.std.specs.Prelude.{Option, Some, None, Result, Ok, Err}
use Rattle.blink_batch.specs.declared.Answer.{Answer}
use Rattle.blink_batch.specs.declared.Op.{Op}
use Rattle.blink_map.specs.declared.error.GrowError.{GrowError}
use Rattle.blink_map.specs.declared.growing.GrowingMap.{GrowingMap}
use Rattle.blink_map.specs.declared.growing.Session.{Session}
use Rattle.blink_map.specs.{IsAnswered, IsSameBesideSeen}

-- the operation is answered; or the session has changed nothing, and was refused or is to try again
abbrev pub IsChangeTried : GrowingMap → Op → Session → Session → Option (Result Answer GrowError) → Type 0
IsChangeTried map op old new None = IsSameBesideSeen old new
IsChangeTried map op old new (Some (Err why)) = IsSameBesideSeen old new
IsChangeTried map op old new (Some (Ok answer)) = IsAnswered map op old new answer
