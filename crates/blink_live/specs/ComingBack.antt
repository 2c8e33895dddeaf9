-- The steps by which the rows that a session has taken out come back to it: they wait until no seat can still read them, are free then,
-- and are written one by one.
use Rattle.std.specs.Prelude.{◌≡◌, ◌≢◌, ◌⊎◌, ℕ, suc, ◌≤◌, List, [], ◌∷◌, ◌++◌, slice_index}
use Rattle.atomic_table.specs.Table.{Step}
use Rattle.blink_live.specs.declared.view.Stock.{Stock}
use Rattle.blink_live.specs.declared.view.View.{View}
use Rattle.blink_live.specs.Views.{SeatState, no_aside, no_words, span}
use Rattle.blink_live.specs.Words.{IsRowNumber}

abbrev pub with_stock : View → Stock → View
with_stock v stock = record v { stock = stock }

-- the rows that were taken out begin to wait
abbrev pub begins_to_wait : Stock → Stock
begins_to_wait stock = record stock { waiting = stock.retired; retired = []; before = []; passed = 0 }

abbrev pub begins_wait : Step ℕ → SeatState → ℕ → SeatState → Type 0
begins_wait st me found then = then ≡ (with_stock me.0 (begins_to_wait me.0.stock), me.1)

-- a first look at the mark of one place more
abbrev pub sees_mark : ℕ → Stock → Stock
sees_mark mark stock = record stock { before = stock.before ++ mark ∷ [] }

abbrev pub sees_place : Step ℕ → SeatState → ℕ → SeatState → Type 0
sees_place st me found then = then ≡ (with_stock me.0 (sees_mark found me.0.stock), me.1)

-- and a second: the session of the place reads nothing, or has begun another call since
abbrev pub IsPast : Stock → ℕ → Type 0
IsPast stock mark = (mark ≤ 1) ⊎ (mark ≢ slice_index stock.before stock.passed)

abbrev pub finds_past : Stock → Stock
finds_past stock = record stock { passed = suc stock.passed }

pub record ChecksPlace (me : SeatState) (found : ℕ) (then : SeatState) : Type 0 where
  pub past : IsPast me.0.stock found → then ≡ (with_stock me.0 (finds_past me.0.stock), me.1)
  pub not_yet : ¬ IsPast me.0.stock found → then ≡ me

abbrev pub checks_place : Step ℕ → SeatState → ℕ → SeatState → Type 0
checks_place st me found then = ChecksPlace me found then

-- the waiting rows are free
abbrev pub gets_waiting : Stock → Stock
gets_waiting stock = record stock { free = stock.waiting ++ stock.free; waiting = [] }

abbrev pub collects : Step ℕ → SeatState → ℕ → SeatState → Type 0
collects st me found then = then ≡ (with_stock me.0 (gets_waiting me.0.stock), me.1)

-- the last row of the session's span is a free one
abbrev pub frees_last : View → ℕ → View
frees_last v row = record v { rows = span v.rows.next row; stock = record v.stock { free = row ∷ v.stock.free } }

abbrev pub frees_row : Step ℕ → SeatState → ℕ → SeatState → Type 0
frees_row st me found then = (row : ℕ) → me.0.rows.next ≤ row → me.0.rows.stop ≡ suc row → then ≡ (frees_last me.0 row, me.1)

-- the call may use a free row, and that row alone: the others are set aside
abbrev pub takes_in : View → ℕ → List ℕ → View
takes_in v row rest = record v {
  rows = span (suc row) (suc row);
  call = record { rows = span row (suc row); pages = v.call.pages; staged = no_words };
  stock = record v.stock { free = rest; aside = record { rows = v.rows; call = v.call.rows } };
}

abbrev pub takes_row_in : Step ℕ → SeatState → ℕ → SeatState → Type 0
takes_row_in st me found then = (row : ℕ) (rest : List ℕ) → me.0.stock.free ≡ row ∷ rest → (then ≡ (takes_in me.0 row rest, me.1)) × IsRowNumber me.0.plan.counts row

-- the rows that were set aside are back
abbrev pub puts_back : View → View
puts_back v = record v {
  rows = v.stock.aside.rows;
  call = record { rows = v.stock.aside.call; pages = v.call.pages; staged = no_words };
  stock = record v.stock { aside = no_aside };
}

abbrev pub puts_rows_back : Step ℕ → SeatState → ℕ → SeatState → Type 0
puts_rows_back st me found then = then ≡ (puts_back me.0, me.1)
