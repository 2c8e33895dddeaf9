-- An operation on the straight path: it changes a leaf and splits nothing, and no value of its machine is made.
use Rattle.std.specs.Prelude.{◌≡◌, ℕ, ◌<◌, ◌≤◌, Option, Some, None, length, reverse, get_or}
use Rattle.atomic_table.specs.declared.Seat.{Seat}
use Rattle.blink_batch.specs.{answer_at, key_of}
use Rattle.blink_batch.specs.declared.Answer.{Answer}
use Rattle.blink_batch.specs.declared.Op.{Op}
use Rattle.blink_page.specs.{IsLawfulPage, PlainPage, value_at}
use Rattle.blink_page.specs.declared.limits.TheConstants.{MAX_FAN}
use Rattle.blink_rows.specs.{Fits, page_after, row_in}
use Rattle.blink_rows.specs.declared.log.Kind.TheVariants.{Replaced, Added, Removed}
use Rattle.blink_rows.specs.declared.log.Record.{Record}
use Rattle.blink_machine.specs.declared.machine.Job.TheVariants.{Leaf}
use Rattle.blink_machine.specs.declared.machine.Next.TheVariants.{Finish, MoveRight}
use Rattle.blink_machine.specs.declared.machine.State.{State}
use Rattle.blink_machine.specs.declared.machine.State.TheVariants.{Change, Ended, Held, Leave, SplitNew, Want}
use Rattle.blink_machine.specs.{IsReadable, PlainMachine, SeesPage, SeesUnderLatch}
use Rattle.blink_live.specs.declared.descent.Changed.{Changed}
use Rattle.blink_live.specs.declared.descent.Changed.TheVariants.{Ended as HasEndedAs, Rests}
use Rattle.blink_live.specs.declared.descent.Descent.{Descent}
use Rattle.blink_live.specs.declared.descent.Edit.{Edit}
use Rattle.blink_live.specs.declared.descent.Edit.TheVariants.{Answers, Right, Whole, Write}
use Rattle.blink_live.specs.declared.descent.Spot.{Spot}
use Rattle.blink_live.specs.declared.descent.Turned.{Turned}
use Rattle.blink_live.specs.declared.descent.Turned.TheVariants.{Ended as EndedAs, Moved, Waits, Whole as WholeAt}
use Rattle.blink_live.specs.declared.live.Live.{Live}
use Rattle.blink_live.specs.declared.room.Room.{Room}
use Rattle.blink_live.specs.declared.view.Appending.{Appending}
use Rattle.blink_live.specs.declared.view.View.{View}
use Rattle.blink_live.specs.Pendings.{IsWaiting}
use Rattle.blink_live.specs.Seats.{ReadsVersion}
use Rattle.blink_live.specs.Updating.{IsUnderWay}
use Rattle.blink_live.specs.Views.{no_words}
use Rattle.blink_live.specs.Words.{IsRowNumber}

-- the operation at this state of its leaf
abbrev pub at_leaf : ℕ → Op → Descent → State → Option Answer → PlainMachine
at_leaf fan op descent state answer = record { fan = fan; op = op; job = Leaf; remembered = reverse descent.above.items; state = state; answer = answer }

-- it wants the latch, or has it
abbrev pub wanting : ℕ → Op → Descent → PlainMachine
wanting fan op descent = at_leaf fan op descent (Want descent.leaf) None

abbrev pub holding : ℕ → Op → Descent → PlainMachine
holding fan op descent = at_leaf fan op descent (Held descent.leaf) None

-- it has answered, and leaves
abbrev pub leaving : ℕ → Op → Descent → Option ℕ → PlainMachine
leaving fan op descent kept = at_leaf fan op descent (Leave descent.leaf Finish) (Some (answer_at op kept))

-- the page of this place on the way down: the leaf is the last
abbrev pub page_at : Descent → ℕ → ℕ
page_at descent place = get_or descent.above.items place descent.leaf

-- ---- what it finds in a leaf

-- the page has so many entries, has this for the key, and has the key in its range
pub record IsSpot (key : ℕ) (page : PlainPage) (spot : Spot) : Type 0 where
  pub count : spot.count ≡ length page.entries
  pub kept : spot.kept ≡ value_at key page.entries
  pub below : key ≤ page.high

-- the key's removal, its exchange, and its addition
abbrev pub removal_of : ℕ → Record
removal_of key = record { kind = Removed; key = key; pointer = 0 }

abbrev pub exchange_of : ℕ → ℕ → Record
exchange_of key pointer = record { kind = Replaced; key = key; pointer = pointer }

abbrev pub addition_of : ℕ → ℕ → Record
addition_of key pointer = record { kind = Added; key = key; pointer = pointer }

-- ---- what it makes of that

-- the operation, after it has read the page under the latch, of which it knows this
abbrev pub Makes : PlainMachine → ℕ → Spot → PlainPage → Edit → PlainMachine → Type 0
Makes m number spot page (Right next) after = after ≡ record m { state = Leave number (MoveRight next) }
Makes m number spot page (Answers kept) after = after ≡ record m { state = Leave number Finish; answer = Some (answer_at m.op kept) }
Makes m number spot page (Whole word) after = (word ≡ spot.word) × (after ≡ record m { state = SplitNew number page })
Makes m number spot page (Write at r) after = (at ≡ spot) × Fits MAX_FAN page r × (after ≡ record m { state = Change number (page_after page r) spot.kept })

-- so an operation of this fan may edit its leaf, of which it knows this
abbrev pub IsEditOf : Op → ℕ → Spot → Edit → Type 0
IsEditOf op fan spot edit = (m : PlainMachine) (number : ℕ) (page : PlainPage) → m.op ≡ op → m.fan ≡ fan → m.job ≡ Leaf → IsReadable m page → page.level ≡ 0 → IsLawfulPage MAX_FAN page → IsSpot (key_of op) page spot
    → (after : PlainMachine) × Makes m number spot page edit after × SeesUnderLatch m number page after

-- nothing is added to the row of the page of this number yet, which this page word names
abbrev pub added_nothing : ℕ → ℕ → Appending
added_nothing number word = record { number = number; word = word; words = no_words }

-- the operation that is to write the next version of its leaf, as this record says
abbrev pub changing : ℕ → Op → Descent → Spot → PlainPage → Record → PlainMachine
changing fan op descent spot page r = at_leaf fan op descent (Change descent.leaf (page_after page r) spot.kept) None

-- the operation is to change its leaf, as this record says. It has added nothing to the leaf's row yet
pub record IsToChange (live : Live) (op : Op) (descent : Descent) (first seat : Seat ℕ View) (room : Room) (spot : Spot) (r : Record) : Type 0 where
  pub page : PlainPage
  pub version : ReadsVersion seat.me spot.word page
  pub in_range : IsRowNumber live.counts (row_in spot.word)
  pub base : spot.base ≡ length version.base.entries
  pub fits : Fits MAX_FAN page r
  pub appends : seat.me.0.appends ≡ Some (added_nothing descent.leaf spot.word)
  pub under_way : IsUnderWay live op first seat (changing live.fan op descent spot page r) room

-- the operation is `after` now, by what it has read under the latch: a leaf that is full
pub record NeedsWhole (live : Live) (op : Op) (descent : Descent) (first seat : Seat ℕ View) (room : Room) (word : ℕ) : Type 0 where
  pub page : PlainPage
  pub after : PlainMachine
  pub reads : ReadsVersion seat.me word page
  pub in_range : IsRowNumber live.counts (row_in word)
  pub readable : IsReadable (holding live.fan op descent) page
  pub only : (other : PlainMachine) → SeesPage (holding live.fan op descent) descent.leaf page other → other ≡ after
  pub splits : after ≡ at_leaf live.fan op descent (SplitNew descent.leaf page) None
  pub leaf_in_range : descent.leaf < live.counts.numbers
  pub under_way : IsUnderWay live op first seat after room

-- the operation has read its leaf, and this is what it makes of it
abbrev pub HasMet : Live → Op → Descent → Seat ℕ View → Seat ℕ View → Room → Edit → Type 0
HasMet live op descent first seat room (Right next) = IsUnderWay live op first seat (at_leaf live.fan op descent (Leave descent.leaf (MoveRight next)) None) room
HasMet live op descent first seat room (Answers kept) = IsUnderWay live op first seat (leaving live.fan op descent kept) room
HasMet live op descent first seat room (Whole word) = NeedsWhole live op descent first seat room word
HasMet live op descent first seat room (Write spot r) = IsToChange live op descent first seat room spot r

-- a try to change the leaf has ended so
abbrev pub HasTurned : Live → Op → Descent → Seat ℕ View → Seat ℕ View → Room → Turned → Type 0
HasTurned live op descent first seat room (EndedAs answer) = IsUnderWay live op first seat (at_leaf live.fan op descent Ended (Some answer)) room
HasTurned live op descent first seat room Moved = IsUnderWay live op first seat (wanting live.fan op descent) room
HasTurned live op descent first seat room Waits = IsUnderWay live op first seat (wanting live.fan op descent) room
HasTurned live op descent first seat room (WholeAt word) = NeedsWhole live op descent first seat room word

-- the operation has ended with its answer, or rests
abbrev pub HasCome : Live → Op → Seat ℕ View → Seat ℕ View → Room → Changed → Type 0
HasCome live op first seat room (HasEndedAs answer) = (m : PlainMachine) × IsUnderWay live op first seat m room × (m.state ≡ Ended) × (m.answer ≡ Some answer)
HasCome live op first seat room (Rests resting) = IsUnderWay live op first seat resting room × IsWaiting resting
