-- An operation of a session that hasn't ended at once, as contracts see it.
use Rattle.blink_batch.specs.declared.Op.{Op}
use Rattle.blink_generation.specs.declared.map.Map.{Map}
use Rattle.blink_generation.specs.declared.map.Session.{Session}
use Rattle.blink_generation.specs.declared.map.Stopped.{Stopped}
use Rattle.blink_generation.specs.declared.map.Stopped.TheVariants.{Full, Waits}
use Rattle.blink_generation.specs.Pendings.{HasBegun}
use Rattle.blink_generation.specs.Putting.{IsUnchangedBy, LacksKeyOf}
use Rattle.blink_generation.specs.Sessions.{LacksRoom}

-- it has begun, and waits; or the session lacked room for it, and has changed nothing. Where it is an insertion, its key was absent
abbrev pub HasStopped : Map → Op → Session → Stopped → Type 0
HasStopped map op session (Waits pending) = HasBegun map op session pending
HasStopped map op session (Full then) = LacksRoom op session then × LacksKeyOf map op session then × IsUnchangedBy op session then
