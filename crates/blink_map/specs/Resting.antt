-- The sessions of a growing map that rest at its places.
use Rattle.std.specs.Prelude.{◌≡◌, ◌≢◌, ℕ, ◌<◌, Option, Some, List, [], ◌∷◌, length, slice_index}
use mathlib.Core.Option.{some}
use lib.ListN.{get_elem?}
use Rattle.atomic_table.specs.Seated.{TableId}
use Rattle.atomic_table.specs.Table.{Me, State, Step}
use Rattle.blink_batch.specs.declared.Entry.{Entry}
use Rattle.blink_map.specs.declared.growing.GrowingMap.{GrowingMap}
use Rattle.blink_map.specs.declared.growing.Session.{Session}
use Rattle.blink_map.specs.declared.places.Visitor.{Visitor}
use Rattle.blink_map.specs.Sessions.{IsSessionOf}

-- a seat of the places knows nothing
abbrev pub visitor : Visitor
visitor = record { number = 0 }

-- the table of nothing
abbrev pub no_table : TableId
no_table = record { words = 0; slots = 0; views_name = 0; atom = 0; block = 0; offset = 0; slot_names = [] }

abbrev pub PlaceSeat : Type 0
PlaceSeat = Me (Option Session) Visitor

-- at a place whose word is 1 one of the map's sessions rests; at one whose word is 0 there is space for one
pub record ArePlaces (map : GrowingMap) (s : State (Option Session) Visitor) : Type 0 where
  pub width : length s.words ≡ length s.homes
  pub rests : (place : ℕ) → place < length s.homes → slice_index s.words place ≡ 1
      → (session : Session) × (get_elem? s.homes place ≡ some (some (Some session))) × IsSessionOf map session
  pub vacant : (place : ℕ) → place < length s.homes → slice_index s.words place ≡ 0
      → (left : Option Session) × (get_elem? s.homes place ≡ some (some left))

abbrev pub visits : Step (Option Session) → PlaceSeat → ℕ → PlaceSeat → Type 0
visits st me found then = Unit {0}

-- the session is one of the map with this table, which was opened with these entries
pub record IsSessionAt (table : TableId) (first : List Entry) (session : Session) : Type 0 where
  pub same_table : session.seat.table_id ≡ table
  pub same_first : session.seat.me.0.first ≡ first

-- if 1 was found, the seat has the session that rested at the place
pub record TakesSession (table : TableId) (first : List Entry) (place : ℕ) (me : PlaceSeat) (found : ℕ) (then : PlaceSeat) : Type 0 where
  pub got : found ≡ 1 → (session : Session) × IsSessionAt table first session × (then ≡ (me.0, (place, Some session) ∷ me.1))
  pub lost : found ≢ 1 → then ≡ me

abbrev pub takes_session : TableId → List Entry → Step (Option Session) → PlaceSeat → ℕ → PlaceSeat → Type 0
takes_session table first st = TakesSession table first st.word

-- if 0 was found, the seat has the space of the place
pub record TakesSpace (place : ℕ) (me : PlaceSeat) (found : ℕ) (then : PlaceSeat) : Type 0 where
  pub got : found ≡ 0 → (left : Option Session) × (then ≡ (me.0, (place, left) ∷ me.1))
  pub lost : found ≢ 0 → then ≡ me

abbrev pub takes_space : Step (Option Session) → PlaceSeat → ℕ → PlaceSeat → Type 0
takes_space st = TakesSpace st.word
