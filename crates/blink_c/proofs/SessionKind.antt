-- The handle of a session, and its slot.
use mathlib.Core.Path.{refl}
use mir.Raw.{raw}
use contract.BorrowLft.{⊑_static}
use mathlib.Core.List.{[]}
use denote.Exit.{no}
use denote.Param.{layout}
use denote.Param.Laws.{arg_laws}
use Rattle.std.specs.Prelude.{Some}
use Rattle.blink_c.specs.SessionLending.{with_value}
use Rattle.blink_handles.specs.contracts.session_owner.SessionOwner.{the_row as Owner}
use Rattle.blink_handles.proofs.session_owner.SessionOwner.TheLaws.{the_row_laws}
use Rattle.blink_c.specs.contracts.session_handle.SessionHandle as Handle
use Rattle.blink_c.specs.contracts.session_slot.SessionSlot as Slot
use Rattle.blink_c.proofs.HandleKind.{Kind, SlotOf}

abbrev pub session : Kind
session = record {
  Owner = Owner;
  τ = layout Owner;
  laws = arg_laws (raw (layout Owner)) no Owner the_row_laws refl;
  static = ⊑_static [];
  Handle = Handle.the_row;
  name = Handle.struct.name;
  as_box = λ h. record { ptr = h.at; alloc = h.alloc; value = h.value };
  with_value = with_value;
  keeps = λ h w. refl;
  owns_box = λ h us. refl;
  lent_is = λ κ r us. refl;
  box_is = λ d us. refl;
}

abbrev pub session_slot : SlotOf session
session_slot = record {
  Slot = Slot.the_row;
  name = Slot.struct.name;
  value = λ s. s.value;
  full = λ d. record { at = d.ptr; alloc = d.alloc; value = Some d.value };
  fills = λ d. refl;
  owns_box = λ d us. refl;
  parts_own = λ p us. refl;
}
