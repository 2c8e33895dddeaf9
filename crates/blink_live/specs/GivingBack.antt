-- How a seat takes back what its last call hasn't used of its rows and page numbers.
use Rattle.std.specs.Prelude.{◌≡◌, ℕ, ◌≤◌}
use Rattle.atomic_table.specs.Table.{Step}
use Rattle.blink_live.specs.declared.view.View.{View}
use Rattle.blink_live.specs.Views.{SeatState, no_call, span}

-- the call's room ends where what its seat may still use begins
pub record CanGiveBack (v : View) : Type 0 where
  pub rows : (v.call.rows.next ≤ v.call.rows.stop) × (v.call.rows.stop ≡ v.rows.next)
  pub pages : (v.call.pages.next ≤ v.call.pages.stop) × (v.call.pages.stop ≡ v.pages.next)

abbrev pub gives_back : View → View
gives_back v = record v { rows = span v.call.rows.next v.rows.stop; pages = span v.call.pages.next v.pages.stop; call = no_call }

abbrev pub giving_back : Step ℕ → SeatState → ℕ → SeatState → Type 0
giving_back st me row then = then ≡ (gives_back me.0, me.1)
