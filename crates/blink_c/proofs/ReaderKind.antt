-- The handle of a reader, and its slot.
use mathlib.Core.Path.{refl, ap}
use mir.Raw.{raw}
use contract.BorrowLft.{⊑_static}
use mathlib.Core.List.{[]}
use denote.Exit.{no}
use denote.RawPtr.{null_ptr}
use denote.Param.{layout}
use denote.Param.Laws.{arg_laws}
use Rattle.std.specs.Prelude.{Option, None, Some}
use Rattle.blink_c.specs.ReaderLending.{with_value}
use Rattle.blink_handles.specs.contracts.reader_owner.ReaderOwner.{the_row as Owner}
use Rattle.blink_handles.proofs.reader_owner.ReaderOwner.TheLaws.{the_row_laws}
use Rattle.blink_c.specs.contracts.reader_handle.ReaderHandle as Handle
use Rattle.blink_c.specs.contracts.reader_slot.ReaderSlot as Slot
use Rattle.blink_c.proofs.HandleKind.{Kind, SlotOf, TakesFrom}

abbrev pub reader : Kind
reader = record {
  Owner = Owner;
  τ = layout Owner;
  laws = arg_laws (raw (layout Owner)) no Owner the_row_laws refl;
  static = ⊑_static [];
  Handle = Handle.the_row;
  name = Handle.struct.name;
  as_box = λ h. record { ptr = h.at; alloc = h.alloc; value = h.value };
  with_value = with_value;
  keeps = λ h w. refl;
  owns_box = λ h us. refl;
  lent_is = λ κ r us. refl;
  box_is = λ d us. refl;
}

abbrev pub reader_slot : SlotOf reader
reader_slot = record {
  Slot = Slot.the_row;
  name = Slot.struct.name;
  value = λ s. s.value;
  full = λ d. record { at = d.ptr; alloc = d.alloc; value = Some d.value };
  fills = λ d. refl;
  owns_box = λ d us. refl;
  parts_own = λ p us. refl;
}

abbrev pub reader_taking : TakesFrom reader reader_slot
reader_taking = record {
  empty = λ a. record { at = null_ptr; alloc = a; value = None };
  is_empty = λ a. refl;
  owns_none = λ a us. refl;
  box_in = λ s x. record { ptr = s.at; alloc = s.alloc; value = x };
  owns_full = λ s x us full. ap (λ (o : Option Owner.Denot). Slot.the_row.own_val (record { at = s.at; alloc = s.alloc; value = o }) us) full;
  value_in = λ s x. refl;
  handle = λ d. record { at = d.ptr; alloc = d.alloc; value = d.value };
  handle_is = λ d. refl;
}
