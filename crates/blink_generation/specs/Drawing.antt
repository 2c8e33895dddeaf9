-- How page numbers that a session draws join those that it has, and what a draw gives.
use Rattle.std.specs.Prelude.{◌⊎◌, ℕ, ◌+◌, ◌/◌, ◌≤◌}
use Rattle.atomic_table.specs.Table.{Step}
use Rattle.blink_rows.specs.declared.span.Span.{Span}
use Rattle.blink_live.specs.{Draws, IsWithin, SeatState, has_pages, length_of, span}

-- the numbers drawn follow those that the seat has, and it has both; those beside stay
abbrev pub joins_pages : Step ℕ → SeatState → ℕ → SeatState → Type 0
joins_pages st me found then = Draws (has_pages me.0 (span me.0.pages.next st.second) me.0.stock.spare) st.first me found then

-- what a seat has of page numbers: its own, and those beside
abbrev pub numbers_in : Span → Span → ℕ
numbers_in pages spare = length_of pages + length_of spare

-- whichever number was one of these is one of those
abbrev pub KeepsNumbers : Span → Span → Span → Span → Type 0
KeepsNumbers pages spare then beside = (number : ℕ) → IsWithin pages number ⊎ IsWithin spare number → IsWithin then number ⊎ IsWithin beside number

-- so many drawn are no more than a place's part of what there is: this over twice the number of places, or else what is needed
abbrev pub IsPart : ℕ → ℕ → ℕ → ℕ → Type 0
IsPart count places least drawn = (drawn ≤ least) ⊎ (drawn ≤ count / 2 / places)
