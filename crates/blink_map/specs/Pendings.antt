-- An operation of a held session that has begun, as contracts see it.
use Rattle.std.specs.Prelude.{◌≡◌}
use Rattle.std.specs.Arc.{arc_value}
use Rattle.blink_batch.specs.declared.Op.{Op}
use Rattle.blink_batch.specs.{FitsWords}
use Rattle.blink_generation.specs.{IsPendingOf as IsPendingIn, LacksRoom, op_of as op_of_pending, session_of}
use Rattle.blink_map.specs.declared.growing.GrowingMap.{GrowingMap}
use Rattle.blink_map.specs.declared.held.Held.{Held}
use Rattle.blink_map.specs.declared.held.PendingHeld.{PendingHeld}
use Rattle.blink_map.specs.declared.held.StoppedHeld.{StoppedHeld}
use Rattle.blink_map.specs.declared.held.StoppedHeld.TheVariants.{Full, Waits}
use Rattle.blink_map.specs.Holding.{IsHeldOf, IsHeldOn}

-- the operation
abbrev pub op_of : PendingHeld → Op
op_of pending = op_of_pending pending.now

-- the held session as it was before the operation
abbrev pub held_of : PendingHeld → Held
held_of pending = pending.begun.value

-- an operation of a held session of this map is under way in the current map
pub record IsPendingOf (map : GrowingMap) (pending : PendingHeld) : Type 0 where
  pub its_own : IsHeldOf map (held_of pending)
  pub same_seat : pending.seat ≡ (held_of pending).seat
  pub same_slot : pending.slot ≡ (held_of pending).slot
  pub same_map : pending.map ≡ (held_of pending).current.map
  pub same_number : pending.number ≡ (held_of pending).current.number
  pub same_changes : pending.changes ≡ (held_of pending).current.changes
  pub same_session : session_of pending.now ≡ (held_of pending).current.session
  pub under_way : IsPendingIn (arc_value pending.map) pending.now
  pub fits : FitsWords (op_of pending)

-- and it is this operation, of this session
pub record HasBegun (map : GrowingMap) (op : Op) (held : Held) (pending : PendingHeld) : Type 0 where
  pub its_own : IsPendingOf map pending
  pub same_op : op_of pending ≡ op
  pub same_held : held_of pending ≡ held

-- the operation is still under way
abbrev pub GoesOn : GrowingMap → PendingHeld → PendingHeld → Type 0
GoesOn map before now = HasBegun map (op_of before) (held_of before) now

-- why an operation of a held session hasn't ended at once: it has begun, and waits; or the session lacked room for it in the current map,
-- and has changed nothing
abbrev pub HasStopped : GrowingMap → Op → Held → StoppedHeld → Type 0
HasStopped map op held (Waits pending) = HasBegun map op held pending
HasStopped map op held (Full then) = LacksRoom op held.current.session then.current.session × IsHeldOn held then
