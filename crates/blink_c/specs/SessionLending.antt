-- What the handle of a session is once the session that it lent comes back.
use Rattle.std.specs.Borrow.{Lends, MutBor, Fml}
use Rattle.blink_handles.specs.contracts.session_owner.SessionOwner as owner
use Rattle.blink_c.specs.declared.session_handle.SessionHandle.{SessionHandle}
use Rattle.blink_c.specs.contracts.session_handle.SessionHandle.{the_row}

-- h with the session w
abbrev pub with_value : SessionHandle → owner.the_row.Denot → SessionHandle
with_value h w = record h { value = w }

-- h ends with the last of these behind r
abbrev pub LendsValue : MutBor SessionHandle → MutBor owner.the_row.Denot → Fml
LendsValue h r = Lends the_row owner.the_row h r (with_value h.now)
