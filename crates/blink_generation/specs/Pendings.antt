-- An operation of a session that has begun, as contracts see it.
use Rattle.std.specs.Prelude.{◌≡◌, None}
use Rattle.blink_batch.specs.declared.Op.{Op}
use Rattle.blink_machine.specs.{latch_of}
use Rattle.blink_live.specs.{IsWaiting, pages_of, rows_of}
use Rattle.blink_generation.specs.declared.map.Map.{Map}
use Rattle.blink_generation.specs.declared.map.Pending.{Pending}
use Rattle.blink_generation.specs.declared.map.Session.{Session}
use Rattle.blink_generation.specs.declared.member.Member.{Member}
use Rattle.blink_generation.specs.Changing.{HasDrawn, IsAtRest}
use Rattle.blink_generation.specs.Sessions.{IsSessionOf}

-- the operation
abbrev pub op_of : Pending → Op
op_of pending = pending.now.machine.op

-- the session as it was before the operation
abbrev pub session_of : Pending → Session
session_of pending = pending.begun.value

-- an operation of a session of this map is under way, for which the session may have drawn rows and page numbers. It rests: it
-- holds no page's latch, and its place's mark says that it reads nothing
pub record IsPendingOf (map : Map) (pending : Pending) : Type 0 where
  pub its_own : IsSessionOf map (session_of pending)
  pub drawn : Member
  pub has_drawn : HasDrawn (rows_of (op_of pending)) (pages_of (op_of pending)) (session_of pending).member drawn
  pub at_rest : IsAtRest map.live (op_of pending) drawn pending.now
  pub waits : IsWaiting pending.now.machine
  pub no_latch : latch_of pending.now.machine ≡ None

-- and it is this operation, of this session
pub record HasBegun (map : Map) (op : Op) (session : Session) (pending : Pending) : Type 0 where
  pub its_own : IsPendingOf map pending
  pub same_op : op_of pending ≡ op
  pub same_session : session_of pending ≡ session

-- the operation is still under way
abbrev pub GoesOn : Map → Pending → Pending → Type 0
GoesOn map before now = HasBegun map (op_of before) (session_of before) now
