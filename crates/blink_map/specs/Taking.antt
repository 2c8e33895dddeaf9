-- A seat takes the slot of its session, reads or makes a change by the session that lies there, and gives the slot back.
use Rattle.std.specs.Prelude.{◌≡◌, ℕ, ◌+◌, ◌<◌, ◌^◌, Some, None, ◌∷◌, length}
use mathlib.Core.List.{IsPrefix}
use Rattle.atomic_table.specs.Table.{rest}
use Rattle.blink_generation.specs.{IsSameMember, made_by, seen_by}
use Rattle.blink_map.specs.declared.slots.Current.{Current}
use Rattle.blink_map.specs.Own.{IsIdle, KnowsAuthors, own_of}
use Rattle.blink_map.specs.Rule.{SlotSeat}
use Rattle.blink_map.specs.Steps.{CanGive, Taken}

-- the seat has taken the slot, and the session still lies there
abbrev pub HasTakenSlot : ℕ → SlotSeat → SlotSeat → Type 0
HasTakenSlot slot me after = (held : Current) × Taken slot held (Some held) me after

-- the seat of an idle session has taken that session's slot, and nothing out of it
pub record HasOwnSlot (slot : ℕ) (me : SlotSeat) : Type 0 where
  pub before : SlotSeat
  pub idle : IsIdle slot before
  pub taken : HasTakenSlot slot before me

-- the seat took the slot last, and may give it back with the session that lies in it now
pub record CanGiveBack (slot : ℕ) (me : SlotSeat) : Type 0 where
  pub held : Current
  pub there : me.1 ≡ (slot, Some held) ∷ rest me.1
  pub can : CanGive slot (me.0, (slot, None) ∷ rest me.1) held

-- the seat has given the slot back. Its session is idle, and is as it was, except that it may have seen more
pub record IsIdleAgain (slot : ℕ) (old new : SlotSeat) : Type 0 where
  pub idle : IsIdle slot new
  pub authors : KnowsAuthors slot new.0
  pub same_first : new.0.first ≡ old.0.first
  pub same_slots : new.0.slots ≡ old.0.slots
  pub saw : IsPrefix (own_of old.0).seen (own_of new.0).seen
  pub made : (own_of new.0).made ≡ (own_of old.0).made

-- ---- a change

-- as many changes are counted as the session has made in its map, unless they are too many to be counted
abbrev pub CountsItsOwn : Current → Type 0
CountsItsOwn current = current.changes + 1 < 2 ^ 64 → length (made_by current.session) ≡ current.changes

-- the one is of the same map, and its session of the same place, as the other. It has seen all that the other had, and its changes are
-- counted as before
pub record StaysCurrent (old new : Current) : Type 0 where
  pub same_map : new.map ≡ old.map
  pub same_number : new.number ≡ old.number
  pub same_member : IsSameMember old.session.member new.session.member
  pub saw : IsPrefix (seen_by old.session) (seen_by new.session)
  pub counted : CountsItsOwn old → CountsItsOwn new

-- the seat has given the slot back, and its session is idle. It may have seen more, and made changes
pub record IsGivenBack (slot : ℕ) (old new : SlotSeat) : Type 0 where
  pub idle : IsIdle slot new
  pub authors : KnowsAuthors slot new.0
  pub same_first : new.0.first ≡ old.0.first
  pub same_slots : new.0.slots ≡ old.0.slots
