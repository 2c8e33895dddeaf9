-- An update after its descent: it changes its leaf, and goes on to its end.
use Rattle.std.specs.Prelude.{◌≡◌, ℕ, ◌+◌, ◌-◌, ◌≤◌, Option, Some, None, IsSome, ◌≢◌, ◌<◌}
use mathlib.Core.List.{IsPrefix}
use Rattle.atomic_table.specs.declared.Seat.{Seat}
use Rattle.blink_batch.specs.{FitsWords, key_of}
use Rattle.blink_batch.specs.declared.Answer.{Answer}
use Rattle.blink_batch.specs.declared.Op.{Op}
use Rattle.blink_machine.specs.declared.machine.State.{State}
use Rattle.blink_machine.specs.declared.machine.State.TheVariants.{Start, Going, Held, Change, SplitNew, SplitOld, AskPrime, Root, NewPrime, Leave, Ended}
use Rattle.blink_machine.specs.{numbers_left, writes_left, primes_left, PlainMachine, goes_on, latch_of, IsUpdate}
use Rattle.blink_live.specs.declared.live.Live.{Live}
use Rattle.blink_live.specs.declared.room.Room.{Room}
use Rattle.blink_live.specs.declared.shelf.Shelf.{Shelf}
use Rattle.blink_rows.specs.declared.span.Span.{Span}
use Rattle.blink_live.specs.declared.view.Call.{Call}
use Rattle.blink_live.specs.declared.view.View.{View}
use Rattle.blink_live.specs.AtomicSteps.{AnswersInOrder, CanGoOn}
use Rattle.blink_live.specs.Seats.{HasSameNumber, IsFirst, IsPassSeat}
use Rattle.blink_live.specs.Shelves.{HasSpaceFor, IsShelved, free_in}
use Rattle.blink_live.specs.Spares.{HasAny}
use Rattle.blink_live.specs.Views.{SeatState, KnowsItsOwn, CanBegin, MayChange, for_call, latch_number_by, no_words, pages_of, rows_of, rows_taken, span, IsCommon}
use Rattle.blink_live.specs.Words.{AreNumbersIn, AreRowsIn, IsRowNumber}

-- what an operation may use of its seat's rows and page numbers: the first of them
abbrev pub room_in : Op → View → Option Shelf → Room
room_in op v shelf = record { rows = span v.rows.next (v.rows.next + rows_taken op v.rows); pages = span v.pages.next (v.pages.next + pages_of op); latch_number = latch_number_by v; shelf = shelf }

-- and of a pass's, whose latch number is that of its last row
abbrev pub room_for : Op → Span → Span → Room
room_for op rows pages = record { rows = span rows.next (rows.next + rows_of op); pages = span pages.next (pages.next + pages_of op); latch_number = rows.stop - 1; shelf = None }

-- w is v, except for its operation, its share, what its call has stored, the rows that it has taken out, and what it reads and has
-- seen
abbrev pub SameBesideCall : View → View → Type 0
SameBesideCall v w = w ≡ record v { operation = w.operation; descent_bound = w.descent_bound; reads = w.reads; behind = w.behind; appends = w.appends; seen = w.seen; share = w.share; call = w.call; stock = w.stock }

-- the operation hasn't decided yet, and the share is as it was; or it has decided once since the beginning
pub data HasDecided (op : Op) (first v : View) (m : PlainMachine) : Type 0 where
  not_yet : m.answer ≡ None → v.share ≡ first.share → HasDecided op first v m
  decided : AnswersInOrder op first m.answer v.share v.seen → HasDecided op first v m

-- the operation's descent is over
abbrev pub IsPastDescent : State → Type 0
IsPastDescent Start = ⊥
IsPastDescent (Going page level) = ⊥
IsPastDescent state = Unit {0}

-- the greatest number of steps that the operation takes until it has let go the latch that it holds
abbrev pub steps_to_leave : State → ℕ
steps_to_leave (Held page) = 7
steps_to_leave (SplitNew page before) = 6
steps_to_leave (SplitOld page lower debt) = 5
steps_to_leave (AskPrime page debt) = 4
steps_to_leave (Root page debt prime) = 3
steps_to_leave (NewPrime page debt root prime) = 2
steps_to_leave (Change page changed kept) = 2
steps_to_leave (Leave page next) = 1
steps_to_leave state = 0

-- where it holds a latch, the operation comes nearer to letting it go
abbrev pub ComesNearer : PlainMachine → PlainMachine → Type 0
ComesNearer m after = latch_of m ≢ None → steps_to_leave after.state < steps_to_leave m.state

-- what the call and the shelf have left is enough: a row for each write of a page or of the prime block, and the page numbers. And
-- the shelf has room for the rows that these writes take out
pub record HasLeft (shelf : Option Shelf) (first call : Call) (m : PlainMachine) : Type 0 where
  pub rows : call.rows.next + (writes_left m + primes_left m) ≤ call.rows.stop + free_in shelf
  pub space : HasSpaceFor shelf (writes_left m + primes_left m)
  pub in_order : call.rows.next ≤ call.rows.stop
  pub pages : call.pages.next + numbers_left m ≤ call.pages.stop
  pub later : (first.rows.next ≤ call.rows.next) × (first.pages.next ≤ call.pages.next)
  pub same_stop : (call.rows.stop ≡ first.rows.stop) × (call.pages.stop ≡ first.pages.stop)
  pub blank : call.staged ≡ no_words

-- the seat knows what it knew when the operation began, except for what the operation has done since
pub record IsUpdating (op : Op) (first me : SeatState) (m : PlainMachine) : Type 0 where
  pub same : SameBesideCall first.0 me.0 × (me.1 ≡ first.1)
  pub saw : IsPrefix first.0.seen me.0.seen
  pub knows_own : KnowsItsOwn me.0
  pub operation : me.0.operation ≡ goes_on m m.state
  pub same_op : m.op ≡ op
  pub next : CanGoOn first.0.plan m
  pub has_decided : HasDecided op first.0 me.0 m
  pub past_descent : IsPastDescent m.state
  pub answers_at_end : m.state ≡ Ended → IsSome m.answer

-- the operation has ended with this answer. The seat is as it was at the beginning, except for the rows and page numbers that the
-- operation takes, for its change of the share, and for what the seat has seen since
pub record HasEnded (op : Op) (first seat : Seat ℕ View) (answer : Answer) : Type 0 where
  pub answers : AnswersInOrder op first.me.0 (Some answer) seat.me.0.share seat.me.0.seen
  pub idle : seat.me.0.operation ≡ None
  pub same_number : HasSameNumber first seat
  pub knows_own : KnowsItsOwn seat.me.0
  pub saw : IsPrefix first.me.0.seen seat.me.0.seen
  pub same : SameBesideCall (for_call first.me.0 op) seat.me.0
  pub same_slots : seat.me.1 ≡ first.me.1

-- the rows that the operation takes and the shelf's free ones are as many as it may need, and the shelf has room for as many more
pub record HasRowsFor (op : Op) (rows : Span) (shelf : Option Shelf) : Type 0 where
  pub enough : rows_of op ≤ rows_taken op rows + free_in shelf
  pub space : HasSpaceFor shelf (rows_of op)

-- the seat can make such a call
pub record CanUpdate (live : Live) (op : Op) (first : Seat ℕ View) : Type 0 where
  pub seat : IsPassSeat live first.table_id first.me
  pub updates : IsUpdate op
  pub fits : FitsWords op
  pub some_latch : 1 ≤ latch_number_by first.me.0
  pub may_change : MayChange first.me.0 (key_of op)
  pub can_begin : CanBegin first.me.0 op
  pub rows : AreRowsIn live.counts first.me.0.rows
  pub pages : AreNumbersIn live.counts first.me.0.pages

-- the seat's call can write this row for the operation: the row is the first that it may use, and nothing is stored there yet
pub record CanWrite (live : Live) (m : PlainMachine) (row : ℕ) (its : Seat ℕ View) : Type 0 where
  pub seat : IsPassSeat live its.table_id its.me
  pub at : its.me.0.operation ≡ Some m
  pub fits : FitsWords m.op
  pub first_row : IsFirst row its.me.0.call.rows × IsRowNumber live.counts row
  pub blank : its.me.0.call.staged ≡ no_words
  pub may : MayChange its.me.0 (key_of m.op)

-- a session uses spare page numbers first: while some are left, the call has all that it began with
abbrev pub UsesSpareFirst : View → View → Type 0
UsesSpareFirst first v = IsCommon v.plan → HasAny v.stock.spare → (v.call.pages.next ≡ first.pages.next) × HasAny first.stock.spare

-- the state between two turns of the operation: the seat was `first` when the operation began, and has the rows and page numbers
-- that its call has left
pub record IsUnderWay (live : Live) (op : Op) (first seat : Seat ℕ View) (m : PlainMachine) (room : Room) : Type 0 where
  pub can : CanUpdate live op first
  pub same_number : HasSameNumber first seat
  pub updating : IsUpdating op (for_call first.me.0 op, first.me.1) seat.me m
  pub room_is : (room.rows ≡ seat.me.0.call.rows) × (room.pages ≡ seat.me.0.call.pages)
  pub latch_number : room.latch_number ≡ latch_number_by first.me.0
  pub shelved : IsShelved room.shelf seat.me.0
  pub left : HasLeft room.shelf (for_call first.me.0 op).call seat.me.0.call m
  pub spare_first : UsesSpareFirst first.me.0 seat.me.0
