-- What the handle of a reader is once the reader that it lent comes back.
use Rattle.std.specs.Borrow.{Lends, MutBor, Fml}
use Rattle.blink_handles.specs.contracts.reader_owner.ReaderOwner as owner
use Rattle.blink_c.specs.declared.reader_handle.ReaderHandle.{ReaderHandle}
use Rattle.blink_c.specs.contracts.reader_handle.ReaderHandle.{the_row}

-- h with the reader w
abbrev pub with_value : ReaderHandle → owner.the_row.Denot → ReaderHandle
with_value h w = record h { value = w }

-- h ends with the last of these behind r
abbrev pub LendsValue : MutBor ReaderHandle → MutBor owner.the_row.Denot → Fml
LendsValue h r = Lends the_row owner.the_row h r (with_value h.now)
