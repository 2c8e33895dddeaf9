-- A counter: a key whose pointer sessions raise by one.
use Rattle.std.specs.Prelude.{◌≡◌, ℕ, ◌+◌, Option, Some, None, Result, Ok, Err, List, [], ◌∷◌, ◌++◌, length}
use mathlib.Core.List.{IsPrefix}
use Rattle.blink_batch.specs.{pointer_of}
use Rattle.blink_live.specs.declared.view.Change.{Change}
use Rattle.blink_live.specs.{after, made_at, put}
use Rattle.blink_map.specs.declared.growing.GrowingMap.{GrowingMap}
use Rattle.blink_map.specs.declared.growing.Session.{Session}
use Rattle.blink_map.specs.{HasSameSlot, IsSameBesideSeen, made_by, opening_of, place_of, seen_by}
use Rattle.blink_generation.specs.{change_to}
use Rattle.blink_map_laws.specs.declared.counter.NotRaised.{NotRaised}

-- there is a list of changes that goes on from all that the session had seen; `was` is what they left of the key. The session's
-- change follows the list at once: the key has the pointer. The session has made this change and no other
pub record IsPut (map : GrowingMap) (key pointer : ℕ) (old new : Session) (was : Option ℕ) : Type 0 where
  pub before : List Change
  pub saw : IsPrefix (seen_by old) before
  pub was_there : was ≡ after (pointer_of (opening_of map)) before key
  pub goes_on : IsPrefix (before ++ change_to (place_of old) key pointer ∷ []) (seen_by new)
  pub made : made_by new ≡ made_by old ++ change_to (place_of old) key pointer ∷ []
  pub same_slot : HasSameSlot old new

-- this is the number after the pointer that the key had, and the session has put it there; it has made no other change
abbrev pub IsRaisedTo : GrowingMap → ℕ → Session → Session → ℕ → Type 0
IsRaisedTo map key old new value = (was : ℕ) × (value ≡ was + 1) × IsPut map key value old new (Some was)

-- the session has raised the pointer; or it has changed nothing, and was refused or is to try again
abbrev pub IsRaiseTried : GrowingMap → ℕ → Session → Session → Option (Result ℕ NotRaised) → Type 0
IsRaiseTried map key old new None = IsSameBesideSeen old new
IsRaiseTried map key old new (Some (Err why)) = IsSameBesideSeen old new
IsRaiseTried map key old new (Some (Ok value)) = IsRaisedTo map key old new value

-- the change raises the pointer that the key has by one
pub record IsRaise (key : ℕ) (kept : Option ℕ) (change : Change) : Type 0 where
  pub same_key : change.key ≡ key
  pub value : ℕ
  pub there : kept ≡ Some value
  pub raised : change.pointer ≡ Some (value + 1)

-- each of these changes that was made at the place raises the key's pointer by one; `state` is what the keys had before them all
abbrev pub AreRaises : ℕ → ℕ → (ℕ → Option ℕ) → List Change → Type 0
AreRaises place key state [] = Unit {0}
AreRaises place key state (change ∷ rest) = (change.author ≡ place → IsRaise key (state key) change) × AreRaises place key (put state change.key change.pointer) rest

-- the session has made so many changes, and by each it has raised the key's pointer by one
pub record HasRaised (map : GrowingMap) (key count : ℕ) (old new : Session) : Type 0 where
  pub later : List Change
  pub sees : seen_by old ++ later ≡ seen_by new
  pub raises : AreRaises (place_of old) key (after (pointer_of (opening_of map)) (seen_by old)) later
  pub made : made_by new ≡ made_by old ++ made_at (place_of old) later
  pub counted : length (made_at (place_of old) later) ≡ count
  pub same_slot : HasSameSlot old new
