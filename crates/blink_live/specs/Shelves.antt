-- Where a session keeps the rows and the page numbers of its stock between the steps of its operations.
use Rattle.std.specs.Prelude.{◌≡◌, ℕ, suc, ◌+◌, ◌≤◌, Option, Some, None, List, reverse, ⊤}
use Rattle.std.specs.Coded.{×_prop, le_prop}
use Rattle.std.proofs.Props.{props}
use Rattle.blink_rows.specs.declared.span.Span.{Span}
use Rattle.blink_live.specs.declared.room.Room.{Room}
use Rattle.blink_live.specs.declared.shelf.Shelf.{Shelf}
use Rattle.blink_live.specs.declared.view.Stock.{Stock}
use Rattle.blink_live.specs.declared.view.View.{View}
use Rattle.blink_live.specs.ComingBack.{takes_in, with_stock}
use Rattle.blink_live.specs.Views.{IsCommon, IsOwned, SeatState, no_aside, takes_out}

-- the stock that stands on the shelf: of its rows what came last is taken first
abbrev pub stock_of : Shelf → Stock
stock_of shelf = record {
  free = reverse shelf.free.items;
  retired = reverse shelf.retired.items;
  waiting = reverse shelf.waiting.items;
  before = shelf.before.items;
  passed = shelf.passed;
  aside = no_aside;
  spare = shelf.spare;
}

-- the number of the shelf's free rows
abbrev pub free_in : Option Shelf → ℕ
free_in None = 0
free_in (Some shelf) = shelf.free.len

-- and of all its rows, also those that are on their way back
abbrev pub rows_on : Option Shelf → ℕ
rows_on None = 0
rows_on (Some shelf) = shelf.free.len + shelf.waiting.len + shelf.retired.len

-- the shelf has room for so many more rows that are taken out; what a pass takes out needs none
abbrev pub HasSpaceFor : Option Shelf → ℕ → Type 0
HasSpaceFor None count = ⊤
HasSpaceFor (Some shelf) count = shelf.retired.len + count ≤ shelf.retired.cap

-- the shelf has still room for so many rows as before, or for one less
abbrev pub KeepsSpace : Option Shelf → Option Shelf → Type 0
KeepsSpace old new = (count : ℕ) → HasSpaceFor old count → HasSpaceFor new count

abbrev pub KeepsSpaceButOne : Option Shelf → Option Shelf → Type 0
KeepsSpaceButOne old new = (count : ℕ) → HasSpaceFor old (suc count) → HasSpaceFor new count

-- a session's shelf has its stock; a pass has no shelf, and is of a table whose keys passes own
abbrev pub IsShelved : Option Shelf → View → Type 0
IsShelved None v = IsOwned v.plan
IsShelved (Some shelf) v = IsCommon v.plan × (v.stock ≡ stock_of shelf)

pub IsShelved-prop : (shelf : Option Shelf) (v : View) → IsProp (IsShelved shelf v)
IsShelved-prop None v = let same : IsProp (v.plan.places ≡ 0) = hlevel (props) in same
IsShelved-prop (Some shelf) v = let same : IsProp (v.stock ≡ stock_of shelf) = hlevel (props) in ×_prop le_prop same

-- but for this row, which the seat has taken out since
abbrev pub IsShelvedBut : ℕ → Option Shelf → View → Type 0
IsShelvedBut out None v = IsOwned v.plan
IsShelvedBut out (Some shelf) v = IsCommon v.plan × (v.stock ≡ takes_out out (stock_of shelf))

-- the shelf has lent its last free row to the call
pub record IsLent (row : ℕ) (me then : SeatState) (after : Room) : Type 0 where
  pub rest : List ℕ
  pub shelf : Shelf
  pub is : then ≡ (takes_in me.0 row rest, me.1)
  pub common : IsCommon me.0.plan
  pub stock : record me.0.stock { free = rest; aside = no_aside } ≡ stock_of shelf
  pub same_shelf : after.shelf ≡ Some shelf

-- the seat has another stock, and is else as it was
pub record HasOtherStock (me then : SeatState) : Type 0 where
  pub stock : Stock
  pub is : then ≡ (with_stock me.0 stock, me.1)

-- the seat has another stock and other rows in its span, and is else as it was
pub record HasOtherRows (me then : SeatState) : Type 0 where
  pub rows : Span
  pub stock : Stock
  pub is : then ≡ (record me.0 { rows = rows; stock = stock }, me.1)

-- the room is as it was, but for its shelf
pub record IsSameBesideShelf (room after : Room) : Type 0 where
  pub rows : after.rows ≡ room.rows
  pub pages : after.pages ≡ room.pages
  pub latch_number : after.latch_number ≡ room.latch_number
