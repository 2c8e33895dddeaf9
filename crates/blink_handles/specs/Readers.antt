-- Readers of an index, each behind a handle.
use Rattle.std.specs.Prelude.{◌≡◌, Option}
use Rattle.std.specs.Arc.{arc_value}
use Rattle.std.specs.Option.{option_map}
use Rattle.blink_store.specs.{PlainStore}
use Rattle.blink_handles.specs.declared.reader_owner.ReaderOwner.{ReaderOwner}

-- the index that it reads
abbrev pub index_in : ReaderOwner → PlainStore
index_in owner = arc_value owner.shared

-- the index that the reader at a place reads, if one is there
abbrev pub index_at : Option ReaderOwner → Option PlainStore
index_at place = option_map index_in place

-- the index that is read and that in the room have changed places
pub record HasSwapped (old new : ReaderOwner) : Type 0 where
  pub in_room : new.room.value ≡ index_in old
  pub shared : index_in new ≡ old.room.value
