-- The rule of the slots: in each free slot lies a session of the current map, which goes on from what all maps before it left.
use Rattle.std.specs.Prelude.{◌≡◌, ◌≢◌, ℕ, zero, suc, ◌+◌, ◌*◌, ◌<◌, ◌^◌, Option, Some, None, List, [], ◌∷◌, ◌++◌, length, slice_index}
use mathlib.Core.Option.{some}
use mathlib.Core.List.{IsPrefix}
use lib.ListN.{get_elem?}
use Rattle.std.specs.Arc.{arc_value}
use Rattle.atomic_table.specs.Table.{Me, State}
use Rattle.blink_batch.specs.declared.Entry.{Entry}
use Rattle.blink_batch.specs.{pointer_of}
use Rattle.blink_live.specs.declared.view.Change.{Change}
use Rattle.blink_live.specs.{HaveAuthors, after, made_at}
use Rattle.blink_generation.specs.declared.map.Map.{Map}
use Rattle.blink_generation.specs.{IsSessionOf, made_by, opening_of, place_of, places_of, seen_by}
use Rattle.blink_map.specs.declared.slots.Current.{Current}
use Rattle.blink_map.specs.declared.slots.Generation.{Generation}
use Rattle.blink_map.specs.declared.slots.Known.{Known}
use Rattle.blink_map.specs.declared.slots.SlotView.{SlotView}

abbrev pub Slots : Type 0
Slots = State (Option Current) SlotView

abbrev pub SlotSeat : Type 0
SlotSeat = Me (Option Current) SlotView

abbrev pub Account : Type 0
Account = ℕ × Known

-- the word of a slot. Eight words are a line of a processor's cache: so each slot has one of its own, and uses the first word of it
abbrev pub word_of : ℕ → ℕ
word_of slot = 8 * slot

-- ---- maps, one after another

abbrev pub generation_of : Map → List Change → Generation
generation_of map past = record { map = map; past = past }

-- the map was opened with what the changes of all maps before it leave of the first entries; each of these was made at one of the slots,
-- and the map has as many places
pub record IsGeneration (first : List Entry) (slots : ℕ) (g : Generation) : Type 0 where
  pub goes_on : (key : ℕ) → key < 2 ^ 64 → pointer_of (opening_of g.map) key ≡ after (pointer_of first) g.past key
  pub authors : HaveAuthors slots g.past
  pub places : places_of g.map ≡ slots

-- the session is that of the slot's place in this map, of which it has an owner. It has made so many changes there as are counted, unless
-- they are too many to be counted
pub record IsCurrentAt (g : Generation) (slot : ℕ) (held : Current) : Type 0 where
  pub same_map : arc_value held.map ≡ g.map
  pub its_own : IsSessionOf g.map held.session
  pub its_place : place_of held.session ≡ slot
  pub counted : held.changes + 1 < 2 ^ 64 → length (made_by held.session) ≡ held.changes

-- what the session has seen and made in this map, behind what was seen and made at its slot in all maps before
abbrev pub known_of : List Change → ℕ → Current → Known
known_of past slot held = record { seen = past ++ seen_by held.session; made = made_at slot past ++ made_by held.session }

abbrev pub nothing : Known
nothing = record { seen = []; made = [] }

-- the one who knows `new` has seen all that `old` has, and nothing more was made by it
pub record IsContinued (old new : Known) : Type 0 where
  pub saw : IsPrefix old.seen new.seen
  pub made : old.made ≡ new.made

-- ---- seats

-- the seat that deals the sessions: it has them all
abbrev pub fresh_accounts : ℕ → ℕ → List Account
fresh_accounts slot zero = []
fresh_accounts slot (suc count) = (slot, nothing) ∷ fresh_accounts (suc slot) count

abbrev pub opener : List Entry → ℕ → SlotView
opener first slots = record { first = first; slots = slots; accounts = fresh_accounts 0 slots; now = None; taken = [] }

-- no two accounts are of one slot
abbrev pub AreApart : List Account → Type 0
AreApart accounts = (k j : ℕ) (one other : Account) → get_elem? accounts k ≡ some one → get_elem? accounts j ≡ some other → one.0 ≡ other.0 → k ≡ j

-- ---- what holds of the slots

-- a session of the map is in the slot, and knows this
pub record RestsAt (s : Slots) (g : Generation) (slot : ℕ) (known : Known) : Type 0 where
  pub held : Current
  pub home : get_elem? s.homes slot ≡ some (some (Some held))
  pub its : IsCurrentAt g slot held
  pub is : known ≡ known_of g.past slot held

-- a session has its slot alone, and the session in the slot knows all that it knows
pub record HasAccount (s : Slots) (owner : ℕ → ℕ) (had : ℕ → Known) (seat : ℕ) (account : Account) : Type 0 where
  pub in_range : account.0 < length s.homes
  pub own : owner account.0 ≡ seat
  pub is : IsContinued account.1 (had account.0)

-- the seat has taken the slot, whose session knew this
pub record HasTaken (s : Slots) (taker level : ℕ → ℕ) (had : ℕ → Known) (seat k : ℕ) (one : Account) : Type 0 where
  pub in_range : one.0 < length s.homes
  pub word : slice_index s.words (word_of one.0) ≡ 1
  pub own : taker one.0 ≡ seat
  pub at_level : level one.0 ≡ k
  pub same : had one.0 ≡ one.1

-- the seat knows the first entries and the number of slots; one that is spent knows nothing
pub record IsSeatOf (first : List Entry) (slots : ℕ) (v : SlotView) : Type 0 where
  pub same_first : v.first ≡ first
  pub same_slots : v.slots ≡ slots

pub record IsGrowing (first : List Entry) (s : Slots) : Type 0 where
  pub now : Generation
  pub owner : ℕ → ℕ
  pub taker : ℕ → ℕ
  pub level : ℕ → ℕ
  -- what the session of each slot knew when it was there last
  pub had : ℕ → Known
  pub is_generation : IsGeneration first (length s.homes) now
  pub width : length s.words ≡ word_of (length s.homes)
  pub rests : (slot : ℕ) → slot < length s.homes → slice_index s.words (word_of slot) ≡ 0 → RestsAt s now slot (had slot)
  pub seats : (seat : ℕ) (v : SlotView) → get_elem? s.views seat ≡ some v → 0 < v.slots → IsSeatOf first (length s.homes) v
  pub accounts : (seat : ℕ) (v : SlotView) (k : ℕ) (account : Account) → get_elem? s.views seat ≡ some v → get_elem? v.accounts k ≡ some account → HasAccount s owner had seat account
  pub apart : (seat : ℕ) (v : SlotView) → get_elem? s.views seat ≡ some v → AreApart v.accounts
  pub present : (seat : ℕ) (v : SlotView) (g : Generation) → get_elem? s.views seat ≡ some v → v.now ≡ Some g → (g ≡ now) × (v.taken ≢ [])
  pub taken : (seat : ℕ) (v : SlotView) (k : ℕ) (one : Account) → get_elem? s.views seat ≡ some v → get_elem? v.taken k ≡ some one → HasTaken s taker level had seat k one
