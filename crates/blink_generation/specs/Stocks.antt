-- What a session has of rows and page numbers.
use Rattle.std.specs.Prelude.{ℕ, ◌-◌, ◌^◌, min, Option, Some, None}
use Rattle.blink_live.specs.declared.shelf.Shelf.{Shelf}
use Rattle.blink_live.specs.{free_in, length_of, spare_on}
use Rattle.blink_generation.specs.declared.map.Session.{Session}
use Rattle.blink_generation.specs.Drawing.{numbers_in}
use Rattle.blink_generation.specs.declared.stock.Stock.{Stock}

-- the rows that were taken out and don't wait yet
abbrev pub taken_out_in : Option Shelf → ℕ
taken_out_in None = 0
taken_out_in (Some shelf) = shelf.retired.len

-- the rows that wait
abbrev pub waiting_in : Option Shelf → ℕ
waiting_in None = 0
waiting_in (Some shelf) = shelf.waiting.len

-- the numbers of its rows and page numbers, as far as 64 bits tell
abbrev pub stock_of : Session → Stock
stock_of session = record {
  pages = min (numbers_in session.member.pages (spare_on session.member.room.shelf)) (2 ^ 64 - 1);
  unwritten = length_of session.member.rows;
  free = free_in session.member.room.shelf;
  taken_out = taken_out_in session.member.room.shelf;
  waiting = waiting_in session.member.room.shelf;
}
