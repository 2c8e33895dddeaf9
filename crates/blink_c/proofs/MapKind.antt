-- The handle of a map, and its slot.
use mathlib.Core.Path.{refl}
use mir.Raw.{raw}
use contract.BorrowLft.{⊑_static}
use mathlib.Core.List.{[]}
use denote.Exit.{no}
use denote.Param.{layout}
use denote.Param.Laws.{arg_laws}
use Rattle.std.specs.Prelude.{Some}
use Rattle.blink_c.specs.MapLending.{with_value}
use Rattle.blink_handles.specs.contracts.map_owner.MapOwner.{the_row as Owner}
use Rattle.blink_handles.proofs.map_owner.MapOwner.TheLaws.{the_row_laws}
use Rattle.blink_c.specs.contracts.map_handle.MapHandle as Handle
use Rattle.blink_c.specs.contracts.map_slot.MapSlot as Slot
use Rattle.blink_c.proofs.HandleKind.{Kind, SlotOf}

abbrev pub map : Kind
map = record {
  Owner = Owner;
  τ = layout Owner;
  laws = arg_laws (raw (layout Owner)) no Owner the_row_laws refl;
  static = ⊑_static [];
  Handle = Handle.the_row;
  name = Handle.struct.name;
  as_box = λ h. record { ptr = h.at; alloc = h.alloc; value = h.value };
  with_value = with_value;
  keeps = λ h w. refl;
  owns_box = λ h us. refl;
  lent_is = λ κ r us. refl;
  box_is = λ d us. refl;
}

abbrev pub map_slot : SlotOf map
map_slot = record {
  Slot = Slot.the_row;
  name = Slot.struct.name;
  value = λ s. s.value;
  full = λ d. record { at = d.ptr; alloc = d.alloc; value = Some d.value };
  fills = λ d. refl;
  owns_box = λ d us. refl;
  parts_own = λ p us. refl;
}
