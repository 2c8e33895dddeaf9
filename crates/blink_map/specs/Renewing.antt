-- A renewal of a growing map: the slots that its seat has taken, and the map that it opens.
use Rattle.std.specs.Prelude.{◌≡◌, ◌⊎◌, ℕ, zero, suc, ◌+◌, ◌<◌, ◌≤◌, ◌^◌, IsTrue, Option, Some, None, List, [], ◌∷◌, length}
use mathlib.Core.Option.{some}
use mathlib.Core.List.{IsPrefix}
use lib.ListN.{get_elem?}
use Rattle.std.specs.Arc.{arc_value}
use Rattle.atomic_table.specs.declared.Seat.{Seat}
use Rattle.blink_batch.specs.declared.Entry.{Entry}
use Rattle.blink_batch.specs.{pointer_of}
use Rattle.blink_live.specs.declared.view.Change.{Change}
use Rattle.blink_live.specs.{after, made_at}
use Rattle.blink_generation.specs.declared.map.Map.{Map}
use Rattle.blink_generation.specs.{IsSameMember, IsSessionOf, made_by, opening_of as opening_of_map, place_of, places_of as places_of_map, seen_by}
use Rattle.blink_map.specs.declared.error.GrowError.{GrowError}
use Rattle.blink_map.specs.declared.error.GrowError.TheVariants.{Busy, Full, OutOfMemory, TooLarge}
use Rattle.blink_map.specs.declared.growing.GrowingMap.{GrowingMap}
use Rattle.blink_map.specs.declared.slots.Current.{Current}
use Rattle.blink_map.specs.declared.slots.Generation.{Generation}
use Rattle.blink_map.specs.declared.slots.Known.{Known}
use Rattle.blink_map.specs.declared.slots.SlotView.{SlotView}
use Rattle.blink_map.specs.Laid.{AreOthersIn, IsFirstIn, slot_behind}
use Rattle.blink_map.specs.Rule.{Account, IsContinued, IsCurrentAt, IsGeneration, known_of}
use Rattle.blink_map.specs.Sessions.{is_fixed, opening_of, places_of}

-- why a map that grows wasn't renewed
abbrev pub IsRefusal : GrowError → Type 0
IsRefusal refusal = (refusal ≡ OutOfMemory) ⊎ ((refusal ≡ TooLarge) ⊎ (refusal ≡ Busy))

-- the same of this map: a map whose room is fixed may be full, and no other
abbrev pub IsRefusalOf : GrowingMap → GrowError → Type 0
IsRefusalOf map refusal = IsRefusal refusal ⊎ ((refusal ≡ Full) × IsTrue (is_fixed map))

-- ---- sessions of one map

-- it is the same session of the same map, and may have seen more
pub record MaySeeMore (old new : Current) : Type 0 where
  pub same_map : arc_value new.map ≡ arc_value old.map
  pub saw : IsPrefix (seen_by old.session) (seen_by new.session)
  pub made : made_by new.session ≡ made_by old.session
  pub same_member : IsSameMember old.session.member new.session.member
  pub same_changes : new.changes ≡ old.changes

-- the others are sessions of the map of this one
abbrev pub AreOfOneMap : Current → List Current → Type 0
AreOfOneMap lead others = (k : ℕ) (held : Current) → get_elem? others k ≡ some held → IsSessionOf (arc_value lead.map) held.session

-- it has seen all that the others have seen
abbrev pub HasHeardAll : Current → List Current → Type 0
HasHeardAll lead others = (k : ℕ) (held : Current) → get_elem? others k ≡ some held → IsPrefix (seen_by held.session) (seen_by lead.session)

-- of the changes that it has seen those made at the place of this one are the changes that this one has made
abbrev pub HasSeenOwn : Current → Current → Type 0
HasSeenOwn lead held = made_at (place_of held.session) (seen_by lead.session) ≡ made_by held.session

abbrev pub HaveSeenOwn : Current → List Current → Type 0
HaveSeenOwn lead others = (k : ℕ) (held : Current) → get_elem? others k ≡ some held → HasSeenOwn lead held

-- ---- the slots that a renewal has taken

-- the slot is this one of those taken, and this session goes on from what was known there, with no change more
pub record IsTakenFor (now : Generation) (taken : List Account) (level slot : ℕ) (held : Current) : Type 0 where
  pub known : Known
  pub there : get_elem? taken level ≡ some (slot, known)
  pub its : IsCurrentAt now slot held
  pub is : IsContinued known (known_of now.past slot held)

-- the copier's slot and so many of the others, which are empty, from the last one down
abbrev pub slots_out : ℕ → ℕ → List (ℕ × Option Current)
slots_out copier zero = (copier, None) ∷ []
slots_out copier (suc count) = (slot_behind copier count, None) ∷ slots_out copier count

-- the seat has taken the copier's slot and then so many of the others, for these sessions of the current map
pub record IsRenewing (map : GrowingMap) (seat : Seat (Option Current) SlotView) (copier : ℕ) (lead : Current) (others : List Current) : Type 0 where
  pub now : Generation
  pub same_table : seat.table_id ≡ map.table.shared.table_id
  pub same_first : seat.me.0.first ≡ opening_of map
  pub same_slots : seat.me.0.slots ≡ places_of map
  pub no_account : seat.me.0.accounts ≡ []
  pub is_now : seat.me.0.now ≡ Some now
  pub is_generation : IsGeneration (opening_of map) (places_of map) now
  pub width : length seat.me.0.taken ≡ suc (length others)
  pub in_range : copier < places_of map
  pub inside : length others < places_of map
  pub first_one : IsTakenFor now seat.me.0.taken 0 copier lead
  pub each : (k : ℕ) (held : Current) → get_elem? others k ≡ some held → IsTakenFor now seat.me.0.taken (suc k) (slot_behind copier k) held
  pub out : seat.me.1 ≡ slots_out copier (length others)

-- ---- the next map

-- the entries are what all that the session has seen leaves of those that its map was opened with
abbrev pub AreEntriesSeen : Current → List Entry → Type 0
AreEntriesSeen lead entries = (key : ℕ) → key < 2 ^ 64 → pointer_of entries key ≡ after (pointer_of (opening_of_map (arc_value lead.map))) (seen_by lead.session) key

-- the seat has taken all slots of the map for these sessions. The first has seen what all have seen, and these are the entries then: so it
-- is known once the others have been told
pub record IsCopied (map : GrowingMap) (seat : Seat (Option Current) SlotView) (copier : ℕ) (lead : Current) (others : List Current) (entries : List Entry) : Type 0 where
  pub renewing : IsRenewing map seat copier lead others
  pub heard : HasHeardAll lead others
  pub all : suc (length others) ≡ places_of map
  pub kept : HaveSeenOwn lead others → AreEntriesSeen lead entries

-- these are the first sessions, one for each of so many places, of a map that was opened with the entries: the one of the copier's place,
-- and the others
pub record AreNext (entries : List Entry) (slots copier : ℕ) (lead : Current) (others : List Current) : Type 0 where
  pub map : Map
  pub opened : opening_of_map map ≡ entries
  pub places : places_of_map map ≡ slots
  pub width : suc (length others) ≡ slots
  pub first_one : IsFirstIn map copier lead
  pub each : AreOthersIn map copier others

-- ---- whether a change was made while the copier made its copy

-- the sum of the first values
abbrev pub sum_of : ℕ → (ℕ → ℕ) → ℕ
sum_of zero f = 0
sum_of (suc count) f = f 0 + sum_of count (λ (k : ℕ). f (suc k))

-- how many of the changes were made at the slot at this place behind the copier's
abbrev pub made_behind : ℕ → List Change → ℕ → ℕ
made_behind copier seen k = length (made_at (slot_behind copier k) seen)

-- so many changes were counted of all sessions but the copier's, which has seen as many of theirs, unless they are too many to be counted
pub record IsNoted (slots copier : ℕ) (lead : Current) (noted : ℕ) : Type 0 where
  pub count : ℕ
  pub width : suc count ≡ slots
  pub saw : noted + 1 < 2 ^ 64 → noted ≤ sum_of count (made_behind copier (seen_by lead.session))
