-- A map behind a handle: what the calls make of it, and why they are refused.
use Rattle.std.specs.Prelude.{◌≡◌, ◌⊎◌, ◌≤◌, ℕ, Bool, List, All, IsTrue, Some, ⊤, length, if◌then◌else◌}
use Rattle.std.specs.Arc.{arc_value}
use Rattle.blink_batch.specs.declared.Entry.{Entry}
use Rattle.blink_map.specs.declared.error.GrowError.{GrowError}
use Rattle.blink_map.specs.declared.error.GrowError.TheVariants as grow
use Rattle.blink_map.specs.declared.growing.GrowingMap.{GrowingMap}
use Rattle.blink_map.specs.declared.growing.Session.{Session}
use Rattle.blink_map.specs.{IsClosedWith, IsSessionOf, is_fixed, opening_of, places_of}
use Rattle.blink_handles.specs.declared.map_refusal.MapRefusal.{MapRefusal}
use Rattle.blink_handles.specs.declared.map_refusal.MapRefusal.TheVariants as refused
use Rattle.blink_handles.specs.declared.map_owner.MapOwner.{MapOwner}
use Rattle.blink_handles.specs.declared.map_owner.TheConstants.{PLACES}
use Rattle.blink_handles.specs.declared.session_owner.SessionOwner.{SessionOwner}
use Rattle.blink_handles.specs.declared.shared_map.MapState.{MapState}
use Rattle.blink_handles.specs.declared.shared_map.MapState.TheVariants.{Open, Unclosed, Closed}
use Rattle.blink_handles.specs.Sessions.{in_map}

-- the map
abbrev pub map_in : MapOwner → GrowingMap
map_in owner = owner.map.value

-- what is held is this map: it is open, or a close of it was refused; or nothing is left of it
abbrev pub IsStateOf : GrowingMap → MapState → Type 0
IsStateOf map (Open shared) = (arc_value shared).map ≡ map
IsStateOf map (Unclosed unclosed) = (unclosed.map ≡ map) × All (IsSessionOf map) unclosed.sessions.items
IsStateOf map Closed = ⊤

-- the map is there
abbrev pub CanClose : MapState → Type 0
CanClose Closed = ⊥
CanClose held = ⊤

-- a handle that a call has filled holds what is of its map
abbrev pub IsOwnMap : MapOwner → Type 0
IsOwnMap owner = IsStateOf (map_in owner) owner.state

-- ---- opening

-- a map that was opened with these entries, and has so many places for sessions
pub record IsNewMap (entries : List Entry) (places : ℕ) (owner : MapOwner) : Type 0 where
  pub opened : opening_of (map_in owner) ≡ entries
  pub its_places : places_of (map_in owner) ≡ places

-- how many places a map has that is told of so many sessions: as many, if its room is fixed
abbrev pub places_for : ℕ → Bool → ℕ
places_for sessions fixed = if fixed then sessions else PLACES

-- why a map isn't opened, where this says why `blink_map` doesn't open one
abbrev pub IsOpenFault : (GrowError → Type 0) → MapRefusal → Type 0
IsOpenFault why refusal = (refusal ≡ refused.OutOfMemory) ⊎ ((refusal ≡ refused.TooLarge) × why grow.TooLarge) ⊎ ((refusal ≡ refused.Sessions) × why grow.Sessions)

-- the refusal that tells of this one
abbrev pub open_fault_of : GrowError → MapRefusal
open_fault_of grow.Sessions = refused.Sessions
open_fault_of grow.TooLarge = refused.TooLarge
open_fault_of refusal = refused.OutOfMemory

-- ---- one more handle

-- the other handle is of the same map
abbrev pub IsOwnerOfSame : MapOwner → MapOwner → Type 0
IsOwnerOfSame owner other = map_in other ≡ map_in owner

abbrev pub IsShareFault : MapRefusal → Type 0
IsShareFault refusal = (refusal ≡ refused.OutOfMemory) ⊎ (refusal ≡ refused.Closed)

-- ---- the room that is left

-- why it isn't told: the map was renewed at each look, or a close of it has begun
abbrev pub IsRoomFault : MapRefusal → Type 0
IsRoomFault refusal = (refusal ≡ refused.Busy) ⊎ (refusal ≡ refused.Closed)

-- ---- joining

-- the new handle has a session of the map
pub record Joins (owner : MapOwner) (given : SessionOwner) : Type 0 where
  pub session : Session
  pub free : given.free ≡ Some session
  pub its_own : IsSessionOf (map_in owner) session
  pub one_map : in_map given ≡ map_in owner

abbrev pub IsJoinFault : MapRefusal → Type 0
IsJoinFault refusal = (refusal ≡ refused.OutOfMemory) ⊎ (refusal ≡ refused.NoSession)

-- ---- renewing and closing

-- the map is open, and its room is fixed
abbrev pub IsOpenFixed : MapState → Type 0
IsOpenFixed (Open shared) = IsTrue (is_fixed (arc_value shared).map)
IsOpenFixed held = ⊥

-- why a map isn't renewed: it is full only where its room is fixed
abbrev pub IsRenewFault : MapState → MapRefusal → Type 0
IsRenewFault held refusal =
    (refusal ≡ refused.OutOfMemory) ⊎ (refusal ≡ refused.TooLarge) ⊎ (refusal ≡ refused.Busy) ⊎ (refusal ≡ refused.Closed) ⊎ ((refusal ≡ refused.Full) × IsOpenFixed held)

-- the entries are the map's opening ones after one list of changes, which goes on from all that the sessions of the map had seen, as many as
-- it has places, and has exactly the changes that were made at their places
abbrev pub IsClosedMap : GrowingMap → List Entry → Type 0
IsClosedMap map entries = (sessions : List Session) × All (IsSessionOf map) sessions × (places_of map ≤ length sessions) × IsClosedWith map sessions entries

-- why a map that nobody else shares isn't closed
abbrev pub IsEndFault : MapRefusal → Type 0
IsEndFault refusal = (refusal ≡ refused.OutOfMemory) ⊎ (refusal ≡ refused.TooLarge) ⊎ (refusal ≡ refused.Busy)

abbrev pub IsCloseFault : MapRefusal → Type 0
IsCloseFault refusal =
    (refusal ≡ refused.OutOfMemory) ⊎ (refusal ≡ refused.TooLarge) ⊎ (refusal ≡ refused.Busy) ⊎ (refusal ≡ refused.Missing) ⊎ (refusal ≡ refused.Closed)
