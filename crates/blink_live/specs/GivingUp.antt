-- How a seat gives up an operation that has changed nothing.
use Rattle.std.specs.Prelude.{◌≡◌, ℕ, Option, Some, None}
use Rattle.atomic_table.specs.Table.{Step}
use Rattle.atomic_table.specs.declared.Seat.{Seat}
use Rattle.blink_batch.specs.declared.Op.{Op}
use Rattle.blink_machine.specs.{PlainMachine, latch_of}
use Rattle.blink_machine.specs.Owned.{debt_of, split_of, unlinked_of}
use Rattle.blink_live.specs.declared.live.Live.{Live}
use Rattle.blink_live.specs.declared.room.Room.{Room}
use Rattle.blink_live.specs.declared.view.View.{View}
use Rattle.blink_live.specs.Seats.{HasSameNumber}
use Rattle.blink_live.specs.Updating.{IsUnderWay}
use Rattle.blink_live.specs.Views.{SeatState}

-- the operation owes no posting, has written no page that nothing leads to yet, and has split none
pub record OwesNothing (m : PlainMachine) : Type 0 where
  pub no_debt : debt_of m ≡ None
  pub no_page : unlinked_of m ≡ None
  pub no_split : split_of m ≡ None

-- the seat has no operation now
abbrev pub gives_up : View → View
gives_up v = record v { operation = None; descent_bound = 0; appends = None }

-- any load will do, where the operation holds no latch
abbrev pub giving_up : Step ℕ → SeatState → ℕ → SeatState → Type 0
giving_up st me found then = then ≡ (gives_up me.0, me.1)

-- the operation of the seat may be given up, with this latch or with none
pub record MayGiveUp (v : View) (held : Option ℕ) : Type 0 where
  pub m : PlainMachine
  pub at : v.operation ≡ Some m
  pub owes : OwesNothing m
  pub latch : latch_of m ≡ held

-- an operation that the seat began when it was `first` was given up: it had answered nothing, so it had changed nothing
pub record HasGivenUp (live : Live) (op : Op) (first seat : Seat ℕ View) (room : Room) : Type 0 where
  pub m : PlainMachine
  pub last : Seat ℕ View
  pub under_way : IsUnderWay live op first last m room
  pub no_answer : m.answer ≡ None
  pub same_number : HasSameNumber last seat
  pub idle : seat.me ≡ (gives_up last.me.0, last.me.1)
