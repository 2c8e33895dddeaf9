-- A pass's seat while a call is under way.
use Rattle.std.specs.Prelude.{◌≡◌, ℕ, ◌<◌, ◌≤◌, Option, Some, None, List, [], length}
use mathlib.Core.List.{IsPrefix}
use Rattle.atomic_table.specs.declared.Seat.{Seat}
use Rattle.atomic_table.specs.Seated.{TableId}
use Rattle.blink_batch.specs.declared.Op.{Op}
use Rattle.blink_batch.specs.declared.Op.TheVariants.{Find}
use Rattle.blink_batch.specs.{FitsWords, answer_at, key_of}
use Rattle.blink_page.specs.{least_above, value_at, PlainPage, IsLawfulPage, Leads}
use Rattle.blink_page.specs.declared.limits.TheConstants.{LEVELS, MAX_FAN}
use Rattle.blink_page.specs.declared.search.Way.{Way}
use Rattle.blink_page.specs.declared.search.Way.TheVariants.{Here}
use Rattle.blink_rows.specs.{page_words, prime_words, row_in}
use Rattle.blink_rows.specs.declared.span.Span.{Span}
use Rattle.blink_machine.specs.declared.machine.Job.TheVariants.{Leaf}
use Rattle.blink_machine.specs.declared.machine.State.TheVariants.{Going, Want, Ended}
use Rattle.blink_machine.specs.{IsOnItsWay, IsTopLeftmost, PlainMachine, goes_on, IsUpdate}
use Rattle.blink_live.specs.declared.live.Live.{Live}
use Rattle.blink_live.specs.declared.view.Role.{Role}
use Rattle.blink_live.specs.declared.view.Role.TheVariants.{Pass}
use Rattle.blink_live.specs.declared.view.View.{View}
use Rattle.blink_live.specs.AtomicSteps.{Begins, CanGoOn, LoadsPage}
use Rattle.blink_live.specs.Words.{IsVersion}
use Rattle.blink_live.specs.Views.{SeatState, IsAnnounced, KnowsItsOwn, SameBesideReads, known_of, plan_of}

-- the seat is that of a pass of this table
pub record IsPassSeat (live : Live) (table : TableId) (me : SeatState) : Type 0 where
  pub same_table : table ≡ live.table.shared.table_id
  pub same_plan : me.0.plan ≡ plan_of live.table.shared.key
  pub role : me.0.role ≡ Pass

-- the seat has the number that it had, in the same table
abbrev pub HasSameNumber : Seat ℕ View → Seat ℕ View → Type 0
HasSameNumber old new = (new.table_id ≡ old.table_id) × (new.id ≡ old.id)

-- the seat is as it was
abbrev pub IsSameSeat : Seat ℕ View → Seat ℕ View → Type 0
IsSameSeat old new = (new.table_id ≡ old.table_id) × (new.id ≡ old.id) × (new.me ≡ old.me)

-- the seat has this role, no operation under way and no slot
abbrev pub IsIdleIn : Role → SeatState → Type 0
IsIdleIn role me = (me.0.role ≡ role) × (me.0.operation ≡ None) × (me.1 ≡ [])

-- the number is the first of the span
abbrev pub IsFirst : ℕ → Span → Type 0
IsFirst number numbers = (number ≡ numbers.next) × (number < numbers.stop)

-- the seat reads the row of this page
pub record ReadsPage (me : SeatState) (row : ℕ) (page : PlainPage) : Type 0 where
  pub reads : me.0.reads ≡ Some (row, page_words page)
  pub lawful : IsLawfulPage MAX_FAN page

-- the seat reads the version of the page that this page word names: a base at the begin of the row, and the records behind it
pub record ReadsVersion (me : SeatState) (word : ℕ) (page : PlainPage) : Type 0 where
  pub base : PlainPage
  pub reads : me.0.reads ≡ Some (row_in word, page_words base)
  pub version : IsVersion word base me.0.behind page
  pub lawful : IsLawfulPage MAX_FAN page

-- the seat reads the row of this prime block
pub record ReadsPrime (me : SeatState) (row : ℕ) (prime : List ℕ) : Type 0 where
  pub reads : me.0.reads ≡ Some (row, prime_words prime)
  pub few_levels : length prime < LEVELS

-- the leaf has this key, and from its floor up to it these states
pub record HasLesser (known : ℕ → Option ℕ) (key : ℕ) (leaf : PlainPage) : Type 0 where
  pub floor_below : least_above leaf.floor ≤ key
  pub lesser : (other : ℕ) → least_above leaf.floor ≤ other → other ≤ key → value_at other leaf.entries ≡ known other

-- the leaf reaches up to this key, and from there to its high key has these states
pub record HasStates (known : ℕ → Option ℕ) (key : ℕ) (leaf : PlainPage) : Type 0 where
  pub reaches : key ≤ leaf.high
  pub states : (other : ℕ) → key ≤ other → other ≤ leaf.high → value_at other leaf.entries ≡ known other

-- the seat reads the key's leaf, which has the state that the seat knows of each key from this one to its high key, and of each from its
-- floor up to this one
pub record ReadsLeaf (key word : ℕ) (me : SeatState) : Type 0 where
  pub leaf : PlainPage
  pub reads : ReadsVersion me word leaf
  pub floor_below : least_above leaf.floor ≤ key
  pub reaches : key ≤ leaf.high
  pub states : (other : ℕ) → key ≤ other → other ≤ leaf.high → value_at other leaf.entries ≡ known_of me.0 other
  pub lesser : (other : ℕ) → least_above leaf.floor ≤ other → other ≤ key → value_at other leaf.entries ≡ known_of me.0 other

-- `way` says where the key leads from the page; if the page is its leaf, `kept` is the pointer stored for the key
pub record TellsWayFor (key : ℕ) (page : PlainPage) (way : Way) (kept : Option ℕ) : Type 0 where
  pub leads : Leads page key way
  pub maps : way ≡ Here → value_at key page.entries ≡ kept

-- an operation on a leaf is in its descent
pub record IsGoing (m : PlainMachine) : Type 0 where
  pub same_job : m.job ≡ Leaf
  pub on_its_way : IsOnItsWay m

-- the operation has come to the leaf of its key, which has this state of the key: a find has answered, and an update wants the
-- leaf's latch
pub data IsAtLeaf (op : Op) (kept : Option ℕ) (m : PlainMachine) : Type 0 where
  found : (key : ℕ) → op ≡ Find key → m.state ≡ Ended → m.answer ≡ Some (answer_at op kept) → IsAtLeaf op kept m
  wants : (page : ℕ) → IsUpdate op → m.state ≡ Want page → m.answer ≡ None → IsAtLeaf op kept m

-- the operation is in its descent, or has come to its leaf
pub data IsDescending (op : Op) (kept : Option ℕ) (m : PlainMachine) : Type 0 where
  going : IsGoing m → m.answer ≡ None → IsDescending op kept m
  at_leaf : IsAtLeaf op kept m → IsDescending op kept m

-- the leaf has this for the key, which belongs there
pub record IsSaid (key : ℕ) (page : PlainPage) (said : Option ℕ) : Type 0 where
  pub maps : value_at key page.entries ≡ said
  pub belongs : key ≤ page.high
  pub leaf : page.level ≡ 0

-- the operation is the seat's, and the seat knows what it knew at the beginning, except for what it has read since
pub record HasRead (op : Op) (first me : SeatState) (m : PlainMachine) : Type 0 where
  pub same : SameBesideReads first.0 me.0 × (me.1 ≡ first.1)
  pub saw : IsPrefix first.0.seen me.0.seen
  pub knows_own : KnowsItsOwn me.0
  pub operation : me.0.operation ≡ goes_on m m.state
  pub same_op : m.op ≡ op
  pub same_job : m.job ≡ Leaf
  pub next : CanGoOn first.0.plan m
  pub announced : IsAnnounced me.0

-- ---- a descent, a page at a time

-- the operation has begun, and this is the root
pub record BeginsAt (op : Op) (me : SeatState) (number level : ℕ) (then : SeatState) : Type 0 where
  pub row : ℕ
  pub machine : PlainMachine
  pub begins : Begins op me row machine then
  pub top : IsTopLeftmost begins.prime level number

-- the seat's operation needs the page of this number and level next, to look for this key
pub record IsAtPage (me : SeatState) (key number level : ℕ) : Type 0 where
  pub machine : PlainMachine
  pub operation : me.0.operation ≡ Some machine
  pub state : machine.state ≡ Going number level
  pub same_job : machine.job ≡ Leaf
  pub same_key : key_of machine.op ≡ key
  pub fits : FitsWords machine.op
  pub announced : IsAnnounced me.0

-- the operation has read the page of this number, which this page word names, and from there the key leads this way
pub record ReadsWay (m : PlainMachine) (key number word : ℕ) (me : SeatState) (way : Way) (kept : Option ℕ) (then : SeatState) : Type 0 where
  pub machine : PlainMachine
  pub loads : LoadsPage m number me word machine then
  pub tells : TellsWayFor key loads.page way kept
