-- How the sessions of a growing map are dealt when it opens.
use Rattle.std.specs.Prelude.{◌≡◌, ◌⊎◌, ◌+◌, ◌*◌, ◌<◌, ℕ, ◌-◌, List, [], length, None, ⊤}
use mathlib.Core.Option.{some}
use lib.ListN.{get_elem?}
use Rattle.blink_batch.specs.declared.Entry.{Entry}
use Rattle.blink_page.specs.declared.limits.TheConstants.{MAX_PAGE}
use Rattle.blink_generation.specs.declared.map.Room.{Room}
use Rattle.blink_generation.specs.{IsTooLarge}
use Rattle.blink_map.specs.declared.error.GrowError.{GrowError}
use Rattle.blink_map.specs.declared.error.GrowError.TheVariants.{OutOfMemory, Sessions, TooLarge}
use Rattle.blink_map.specs.declared.growing.GrowingMap.{GrowingMap}
use Rattle.blink_map.specs.declared.growing.Session.{Session}
use Rattle.blink_map.specs.declared.slots.SlotView.{SlotView}
use Rattle.blink_map.specs.Rule.{fresh_accounts}
use Rattle.blink_map.specs.Sessions.{IsSessionOf, made_by, place_of, places_of, seen_by}

-- the session of a place that has seen no change and made none
pub record IsFirstAt (map : GrowingMap) (place : ℕ) (session : Session) : Type 0 where
  pub its_own : IsSessionOf map session
  pub its_place : place_of session ≡ place
  pub none_seen : seen_by session ≡ []
  pub none_made : made_by session ≡ []

-- these are the sessions of the first places, in their order
abbrev pub AreDealt : GrowingMap → List Session → Type 0
AreDealt map sessions = (place : ℕ) (session : Session) → get_elem? sessions place ≡ some session → IsFirstAt map place session

-- these are the sessions of a new map, one for each place, in the order of their places. Each has seen no change and made none
pub record AreFirstSessions (map : GrowingMap) (sessions : List Session) : Type 0 where
  pub width : length sessions ≡ places_of map
  pub each : AreDealt map sessions

-- the seat that deals the sessions, when so many are dealt
abbrev pub dealer : List Entry → ℕ → ℕ → SlotView
dealer first slots dealt = record { first = first; slots = slots; accounts = fresh_accounts dealt (slots - dealt); now = None; taken = [] }

-- ---- why a map isn't opened

-- no map has so many sessions
abbrev pub HasBadSessions : ℕ → Type 0
HasBadSessions sessions = (sessions ≡ 0) ⊎ (256 < sessions)

-- why it isn't opened over so many pages with this room
abbrev pub WhyNotInRoom : ℕ → Room → GrowError → Type 0
WhyNotInRoom pages room Sessions = HasBadSessions room.sessions
WhyNotInRoom pages room TooLarge = IsTooLarge pages room
WhyNotInRoom pages room OutOfMemory = ⊤
WhyNotInRoom pages room refusal = ⊥

-- why it isn't opened over so many pages for so many sessions: there aren't 44 page numbers left for each
abbrev pub WhyNotOpened : ℕ → ℕ → GrowError → Type 0
WhyNotOpened pages sessions Sessions = HasBadSessions sessions
WhyNotOpened pages sessions TooLarge = MAX_PAGE < pages + 44 * sessions
WhyNotOpened pages sessions OutOfMemory = ⊤
WhyNotOpened pages sessions refusal = ⊥
