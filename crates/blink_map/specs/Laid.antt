-- The slots of a map that opens.
use Rattle.std.specs.Prelude.{◌≡◌, ℕ, zero, suc, ◌<◌, Option, Some, List, [], length}
use mathlib.Core.Option.{some}
use lib.ListN.{get_elem?}
use Rattle.std.specs.Arc.{arc_value}
use Rattle.blink_generation.specs.declared.map.Map.{Map}
use Rattle.blink_generation.specs.declared.map.Session.{Session}
use Rattle.blink_generation.specs.{IsSessionOf, made_by, place_of, seen_by}
use Rattle.blink_map.specs.declared.slots.Current.{Current}

-- the session is the first of its place in the map
pub record IsFirst (map : Map) (place : ℕ) (session : Session) : Type 0 where
  pub its_own : IsSessionOf map session
  pub its_place : place_of session ≡ place
  pub none_seen : seen_by session ≡ []
  pub none_made : made_by session ≡ []

-- these are the first sessions of the map's first places, in their order
abbrev pub AreFirst : Map → List Session → Type 0
AreFirst map sessions = (place : ℕ) (session : Session) → get_elem? sessions place ≡ some session → IsFirst map place session

-- and this one, with an owner of the map, of which no change is counted
pub record IsFirstIn (map : Map) (slot : ℕ) (held : Current) : Type 0 where
  pub same_map : arc_value held.map ≡ map
  pub first : IsFirst map slot held.session
  pub none_counted : held.changes ≡ 0

-- in each slot lies the first session of its place
abbrev pub AreLaid : Map → List (Option Current) → Type 0
AreLaid map slots = (slot : ℕ) → slot < length slots → (held : Current) × (get_elem? slots slot ≡ some (Some held)) × IsFirstIn map slot held

-- the slots in their order, but without one of them: the slot at this place there
abbrev pub slot_behind : ℕ → ℕ → ℕ
slot_behind zero k = suc k
slot_behind (suc copier) zero = zero
slot_behind (suc copier) (suc k) = suc (slot_behind copier k)

-- the first sessions of the places but one, in their order
abbrev pub AreOthersIn : Map → ℕ → List Current → Type 0
AreOthersIn map copier others = (k : ℕ) (held : Current) → get_elem? others k ≡ some held → IsFirstIn map (slot_behind copier k) held
