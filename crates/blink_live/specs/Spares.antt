-- The page numbers that a session keeps beside its span, left of an earlier draw. A new page takes its number from these first: for that
-- write the call's numbers and the spare ones are exchanged.
use Rattle.std.specs.Prelude.{◌≡◌, ℕ, suc, ◌+◌, ◌<◌, ◌≤◌, Option, Some, None}
use Rattle.atomic_table.specs.Table.{Step}
use Rattle.blink_rows.specs.{PlainCounts}
use Rattle.blink_rows.specs.declared.span.Span.{Span}
use Rattle.blink_machine.specs.{PlainMachine, done, write_page}
use Rattle.blink_live.specs.declared.room.Room.{Room}
use Rattle.blink_live.specs.declared.shelf.Shelf.{Shelf}
use Rattle.blink_live.specs.declared.view.View.{View}
use Rattle.blink_live.specs.Allowed.{length_of}
use Rattle.blink_live.specs.AtomicSteps.{PublishesFrom}
use Rattle.blink_live.specs.Views.{IsCommon, IsOwned, SeatState, span, with_spare}
use Rattle.blink_live.specs.Words.{AreNumbersIn}

-- there is a number in the span
abbrev pub HasAny : Span → Type 0
HasAny numbers = numbers.next < numbers.stop

-- ---- the step

-- the call's numbers are beside, and those that were are the call's
abbrev pub exchanges : View → View
exchanges v = record v {
  call = record { rows = v.call.rows; pages = v.stock.spare; staged = v.call.staged };
  stock = with_spare v.call.pages v.stock;
}

pub record ExchangesNumbers (me then : SeatState) : Type 0 where
  pub is : then ≡ (exchanges me.0, me.1)
  pub in_range : AreNumbersIn me.0.plan.counts me.0.stock.spare

abbrev pub exchanges_numbers : Step ℕ → SeatState → ℕ → SeatState → Type 0
exchanges_numbers st me found then = HasAny me.0.stock.spare → ExchangesNumbers me then

-- ---- the shelf's spare numbers

abbrev pub spare_on : Option Shelf → Span
spare_on None = span 1 1
spare_on (Some shelf) = shelf.spare

abbrev pub with_spare_on : Span → Option Shelf → Option Shelf
with_spare_on spare None = None
with_spare_on spare (Some shelf) = Some (record shelf { spare = spare })

-- they are those of the seat's stock; a pass has no shelf
abbrev pub HasSpareOf : Option Shelf → View → Type 0
HasSpareOf None v = IsOwned v.plan
HasSpareOf (Some shelf) v = v.stock.spare ≡ shelf.spare

-- the room's numbers and the shelf's are exchanged, and so are the seat's
pub record HasExchanged (counts : PlainCounts) (me then : SeatState) (room after : Room) : Type 0 where
  pub is : then ≡ (exchanges me.0, me.1)
  pub some : HasAny me.0.stock.spare
  pub in_range : AreNumbersIn counts me.0.stock.spare
  pub pages : after.pages ≡ me.0.stock.spare
  pub shelf : after.shelf ≡ with_spare_on me.0.call.pages room.shelf
  pub same : (after.rows ≡ room.rows) × (after.latch_number ≡ room.latch_number)

-- ---- a new page

-- the operation has written its new page at this number, the first of the spare ones, or of the call's where a session has none. No
-- other is used
pub record WritesNew (m : PlainMachine) (number : ℕ) (me then : SeatState) (room after : Room) : Type 0 where
  pub pages : Span
  pub spare : Span
  pub published : PublishesFrom (write_page number) (span (suc me.0.call.rows.next) me.0.call.rows.stop) pages (with_spare spare me.0.stock) m (done m number) me then
  pub one_less : suc (length_of pages + length_of spare) ≡ length_of me.0.call.pages + length_of me.0.stock.spare
  pub spare_first : IsCommon me.0.plan → HasAny spare → (pages.next ≡ me.0.call.pages.next) × HasAny me.0.stock.spare
  pub left : (pages.stop ≡ me.0.call.pages.stop) × (me.0.call.pages.next ≤ pages.next) × (pages.next ≤ suc me.0.call.pages.next)
  pub same_pages : after.pages ≡ pages
  pub shelf : after.shelf ≡ with_spare_on spare room.shelf
  pub same : (after.rows ≡ room.rows) × (after.latch_number ≡ room.latch_number)
