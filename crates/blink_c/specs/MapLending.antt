-- What the handle of a map is once the map that it lent comes back.
use Rattle.std.specs.Borrow.{Lends, MutBor, Fml}
use Rattle.blink_handles.specs.contracts.map_owner.MapOwner as owner
use Rattle.blink_c.specs.declared.map_handle.MapHandle.{MapHandle}
use Rattle.blink_c.specs.contracts.map_handle.MapHandle.{the_row}

-- h with the map w
abbrev pub with_value : MapHandle → owner.the_row.Denot → MapHandle
with_value h w = record h { value = w }

-- h ends with the last of these behind r
abbrev pub LendsValue : MutBor MapHandle → MutBor owner.the_row.Denot → Fml
LendsValue h r = Lends the_row owner.the_row h r (with_value h.now)
