-- How the sessions of a map's places are dealt when it opens.
use Rattle.std.specs.Prelude.{◌≡◌, ℕ, ◌<◌, List, [], length, slice_index_or}
use Rattle.atomic_table.specs.declared.Seat.{Seat}
use Rattle.blink_live.specs.declared.live.Live.{Live}
use Rattle.blink_live.specs.declared.view.Role.TheVariants.{Keeper}
use Rattle.blink_live.specs.declared.view.View.{View}
use Rattle.blink_generation.specs.Common.{IsHost}
use Rattle.blink_live.specs.{span}
use Rattle.blink_generation.specs.declared.map.Map.{Map}
use Rattle.blink_generation.specs.declared.map.Session.{Session}
use Rattle.blink_generation.specs.declared.member.Member.{Member}
use Rattle.blink_generation.specs.Places.{IsMemberOf}
use Rattle.blink_generation.specs.Sessions.{made_by_member, place_of_member, places_of, seen_of_member}

-- the host has dealt so many members, and has no rows and no page numbers
pub record IsHostWith (live : Live) (seat : Seat ℕ View) (dealt : ℕ) : Type 0 where
  pub host : IsHost live seat
  pub role : seat.me.0.role ≡ Keeper dealt 0
  pub rows_are : seat.me.0.rows ≡ span 1 1
  pub pages_are : seat.me.0.pages ≡ span 1 1
  pub none_taken : seat.me.0.taken ≡ []
  pub none_seen : seat.me.0.seen ≡ []

-- the member of a place that has seen no change and made none
pub record IsFirstAt (live : Live) (place : ℕ) (member : Member) : Type 0 where
  pub its_own : IsMemberOf live member
  pub its_place : place_of_member member ≡ place
  pub none_seen : seen_of_member member ≡ []
  pub none_made : made_by_member member ≡ []

-- these are the sessions of so many places, in their order
pub record AreFirst (live : Live) (count : ℕ) (sessions : List Session) : Type 0 where
  pub width : length sessions ≡ count
  pub each : (place : ℕ) (d : Session) → place < count → IsFirstAt live place (slice_index_or sessions place d).member

-- these are the sessions of a new map, one for each place, in the order of their places. Each has seen no change and made none
abbrev pub AreFirstSessions : Map → List Session → Type 0
AreFirstSessions map sessions = AreFirst map.live (places_of map) sessions
