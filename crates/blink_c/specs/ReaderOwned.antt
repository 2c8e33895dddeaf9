-- What the handle of a reader owns, and what the place for one owns.
use base.Fml.{Fml, ftrue}
use base.Stored.{Coded}
use denote.RawPtr.{Ptr}
use Rattle.std.specs.Prelude.{Option, Some, None}
use Rattle.std.specs.Coded.{coded_option}
use Rattle.std.specs.Box.Ownership.{box_owns}
use Rattle.std.specs.declared.alloc.Global.{Global}
use Rattle.std.specs.contracts.impls.GlobalAllocator.TheImpl.{ghosts}
use Rattle.blink_handles.specs.contracts.reader_owner.ReaderOwner as owner

-- how the value of a reader is stored
abbrev pub reader_coded : Coded owner.the_row.Denot
reader_coded = owner.the_row.coded

abbrev pub slot_coded : Coded (Option owner.the_row.Denot)
slot_coded = coded_option owner.the_row.coded

-- the reader x at p, and the right to free its block
abbrev pub handle_owns : Global → Ptr → owner.the_row.Denot → Fml
handle_owns a p x = box_owns (ghosts.dealloc_token a) owner.the_row p x

-- the same, or nothing
abbrev pub slot_owns : Global → Ptr → Option owner.the_row.Denot → Fml
slot_owns a p None = ftrue
slot_owns a p (Some x) = handle_owns a p x
