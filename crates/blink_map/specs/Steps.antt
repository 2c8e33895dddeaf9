-- What each step of the slots tells.
use Rattle.std.specs.Prelude.{◌≡◌, ◌≢◌, ◌⊎◌, ◌==◌, if◌then◌else◌, ℕ, suc, ◌<◌, Option, Some, None, List, [], ◌∷◌, ◌++◌, length}
use mathlib.Core.Option.{Option as Maybe, some}
use mathlib.Core.List.{IsPrefix}
use lib.ListN.{get_elem?}
use Rattle.std.specs.Arc.{arc_value}
use Rattle.atomic_table.specs.Table.{Step, rest}
use Rattle.blink_live.specs.declared.view.Change.{Change}
use Rattle.blink_live.specs.{made_at}
use Rattle.blink_generation.specs.declared.map.Map.{Map}
use Rattle.blink_map.specs.declared.slots.Current.{Current}
use Rattle.blink_map.specs.declared.slots.Generation.{Generation}
use Rattle.blink_map.specs.declared.slots.Known.{Known}
use Rattle.blink_map.specs.declared.slots.SlotView.{SlotView}
use Rattle.blink_map.specs.Rule.{Account, AreApart, IsContinued, IsCurrentAt, IsGeneration, SlotSeat, generation_of, known_of, word_of}

-- ---- a seat comes, with no session

abbrev pub entrant : SlotView → SlotView
entrant v = record { first = v.first; slots = v.slots; accounts = []; now = None; taken = [] }

abbrev pub enters : Step (Option Current) → SlotSeat → ℕ → SlotSeat → Type 0
enters st me found after = after ≡ (entrant me.0, [])

-- ---- a seat takes a slot

abbrev pub has_taken : SlotView → Generation → Account → SlotView
has_taken v g one = record v { now = Some g; taken = v.taken ++ one ∷ [] }

-- the seat has the slot now, in which this session lay. It is one of the current map, and goes on from all that the slot's own session
-- knows. `left` lies in the slot now
pub record Taken (slot : ℕ) (held : Current) (left : Option Current) (me after : SlotSeat) : Type 0 where
  pub now : Generation
  pub its : IsCurrentAt now slot held
  pub is_generation : IsGeneration me.0.first me.0.slots now
  pub same_now : (g : Generation) → me.0.now ≡ Some g → g ≡ now
  pub own : (k : ℕ) (known : Known) → get_elem? me.0.accounts k ≡ some (slot, known) → IsContinued known (known_of now.past slot held)
  pub is : after ≡ (has_taken me.0 now (slot, known_of now.past slot held), (slot, left) ∷ me.1)

pub record Takes (slot : ℕ) (me : SlotSeat) (found : ℕ) (after : SlotSeat) : Type 0 where
  pub got : found ≡ 0 → (held : Current) × Taken slot held (Some held) me after
  pub lost : found ≢ 0 → after ≡ me

abbrev pub takes_slot : Step (Option Current) → SlotSeat → ℕ → SlotSeat → Type 0
takes_slot st me found after = (slot : ℕ) → st.word ≡ word_of slot → Takes slot me found after

-- ---- a seat gives back the slot that it took last

-- all but the last
abbrev pub front_of : {A : Type 0} → List A → List A
front_of [] = []
front_of (x ∷ []) = []
front_of (x ∷ y ∷ more) = x ∷ front_of (y ∷ more)

-- who has taken nothing knows no current map
abbrev pub while_some : {A : Type 0} → List A → Option Generation → Option Generation
while_some [] now = None
while_some (x ∷ more) now = now

abbrev pub past_of : Option Generation → List Change
past_of None = []
past_of (Some g) = g.past

-- the slot's session knows this now, if it is one of these
abbrev pub with_known : ℕ → Known → List Account → List Account
with_known slot known [] = []
with_known slot known (account ∷ more) = (if account.0 == slot then (slot, known) else account) ∷ with_known slot known more

abbrev pub has_given : SlotView → ℕ → Known → SlotView
has_given v slot known = record v { accounts = with_known slot known v.accounts; now = while_some (front_of v.taken) v.now; taken = front_of v.taken }

abbrev pub given : SlotView → List (ℕ × Option Current) → SlotView
given v [] = v
given v ((slot, None) ∷ others) = v
given v ((slot, Some held) ∷ others) = has_given v slot (known_of (past_of v.now) slot held)

abbrev pub gives_back : Step (Option Current) → SlotSeat → ℕ → SlotSeat → Type 0
gives_back st me found after = after ≡ (given me.0 me.1, rest me.1)

-- the seat took the slot last, and it is empty. This session may lie in it: it is one of the current map, and goes on from what was
-- known there. It has made nothing more, or the seat has the slot's session
pub record CanGive (slot : ℕ) (me : SlotSeat) (held : Current) : Type 0 where
  pub level : ℕ
  pub known : Known
  pub now : Generation
  pub last : length me.0.taken ≡ suc level
  pub taken : get_elem? me.0.taken level ≡ some (slot, known)
  pub is_now : me.0.now ≡ Some now
  pub its : IsCurrentAt now slot held
  pub saw : IsPrefix known.seen (known_of now.past slot held).seen
  pub made : (known.made ≡ (known_of now.past slot held).made) ⊎ ((k : ℕ) × (own : Known) × (get_elem? me.0.accounts k ≡ some (slot, own)))
  pub out : me.1 ≡ (slot, None) ∷ rest me.1

-- ---- another map becomes the current one

-- all slots are taken
pub record AreAllTaken (slots : ℕ) (taken : List Account) : Type 0 where
  pub each : (slot : ℕ) → slot < slots → (k : ℕ) × (known : Known) × (get_elem? taken k ≡ some (slot, known))

-- the next map was opened after changes that go on from all that the sessions in the taken slots knew, and of which these have made
-- exactly their own
pub record Follows (v : SlotView) (next : Generation) : Type 0 where
  pub is_generation : IsGeneration v.first v.slots next
  pub saw : (k : ℕ) (one : Account) → get_elem? v.taken k ≡ some one → IsPrefix one.1.seen next.past
  pub made : (k : ℕ) (one : Account) → get_elem? v.taken k ≡ some one → one.1.made ≡ made_at one.0 next.past

pub record Switched (map : Map) (me after : SlotSeat) : Type 0 where
  pub past : List Change
  pub follows : Follows me.0 (generation_of map past)
  pub is : after ≡ (record me.0 { now = Some (generation_of map past) }, me.1)

-- the step is told a session of the map
abbrev pub Switches : Maybe (Option Current) → SlotSeat → SlotSeat → Type 0
Switches (some (Some held)) me after = Switched (arc_value held.map) me after
Switches said me after = ⊥

abbrev pub switches : Step (Option Current) → SlotSeat → ℕ → SlotSeat → Type 0
switches st me found after = Switches st.said me after

-- ---- a seat compares what its sessions know with what was known in the slots

-- the sessions that the seat has, no two of which have one slot, know no more than what was known in the slots that it has taken
pub record AreCompared (v : SlotView) : Type 0 where
  pub continued : (k j slot : ℕ) (own known : Known) → get_elem? v.accounts k ≡ some (slot, own) → get_elem? v.taken j ≡ some (slot, known) → IsContinued own known
  pub apart : AreApart v.accounts

pub record Compares (me after : SlotSeat) : Type 0 where
  pub same : after ≡ me
  pub compared : AreCompared me.0

abbrev pub compares : Step (Option Current) → SlotSeat → ℕ → SlotSeat → Type 0
compares st me found after = Compares me after

-- ---- seats are cut and put together

abbrev pub first_in : List Account → List Account
first_in [] = []
first_in (account ∷ more) = account ∷ []

abbrev pub behind_first : List Account → List Account
behind_first [] = []
behind_first (account ∷ more) = more

abbrev pub without_first : SlotView → SlotView
without_first v = record v { accounts = behind_first v.accounts }

abbrev pub first_alone : SlotView → SlotView
first_alone v = record { first = v.first; slots = v.slots; accounts = first_in v.accounts; now = None; taken = [] }

abbrev pub together : SlotView → SlotView → SlotView
together v other = record v { accounts = other.accounts ++ v.accounts }

-- a seat that is spent
abbrev pub nobody : SlotView
nobody = record { first = []; slots = 0; accounts = []; now = None; taken = [] }
