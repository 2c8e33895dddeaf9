-- What a call needs to write a row: one that the shelf has lent to it, or the first of its own.
use Rattle.std.proofs.Common.{◌≡◌, ◌≢◌, ℕ, refl, sym, ap, ◌∙◌, subst, arith}
use Rattle.atomic_table.specs.declared.Seat.{Seat}
use Rattle.atomic_table.specs.Seated.{TableId}
use Rattle.blink_batch.specs.{key_of}
use Rattle.blink_batch.specs.declared.Op.{Op}
use Rattle.blink_rows.specs.declared.span.Span.{Span}
use Rattle.blink_machine.specs.{PlainMachine}
use Rattle.blink_machine.specs.declared.machine.State.TheVariants.{Ended}
use Rattle.blink_live.specs.declared.live.Live.{Live}
use Rattle.blink_live.specs.declared.room.Room.{Room}
use Rattle.blink_live.specs.declared.view.View.{View}
use Rattle.blink_live.specs.Seats.{HasSameNumber, IsFirst, IsPassSeat}
use Rattle.blink_live.specs.Shelves.{IsLent, IsSameBesideShelf}
use Rattle.blink_live.specs.Updating.{CanWrite, IsUnderWay}
use Rattle.blink_live.specs.Views.{MayChange, SeatState}
use Rattle.blink_live.specs.Words.{IsRowNumber}
use Rattle.blink_live.proofs.changed.RowsAreLent.{lent_seat}
use Rattle.blink_live.proofs.changed.UpdatesGoOn as on

module _ (live : Live) (op : Op) (first seat next : Seat ℕ View) (m : PlainMachine) (room then : Room) (is : IsUnderWay live op first seat m room) (goes_on : m.state ≢ Ended) (same : HasSameNumber seat next) where
  its_table : IsPassSeat live next.table_id seat.me
  its_table = subst (λ (table : TableId). IsPassSeat live table seat.me) (sym same.0) (on.is_its_seat is)

  pub writes_lent : (row : ℕ) → IsLent row seat.me next.me then → IsRowNumber live.counts row → CanWrite live m row next
  writes_lent row lent in_range = record {
    seat = lent_seat live next.table_id row lent.rest seat.me next.me lent.is its_table;
    at = ap (λ (x : SeatState). x.0.operation) lent.is ∙ on.is_its_operation is goes_on;
    fits = on.its_words_fit is;
    first_row = (subst (λ (x : SeatState). IsFirst row x.0.call.rows) (sym lent.is) (refl, omega arith), in_range);
    blank = ap (λ (x : SeatState). x.0.call.staged) lent.is;
    may = subst (λ (x : SeatState). MayChange x.0 (key_of m.op)) (sym lent.is) (on.may_change is);
  }

  -- the first of its own rows, where the shelf has lent none
  pub writes_own : next.me ≡ seat.me → IsSameBesideShelf room then → IsFirst room.rows.next seat.me.0.call.rows × IsRowNumber live.counts room.rows.next → CanWrite live m then.rows.next next
  writes_own none same_room row = record {
    seat = subst (IsPassSeat live next.table_id) (sym none) its_table;
    at = ap (λ (x : SeatState). x.0.operation) none ∙ on.is_its_operation is goes_on;
    fits = on.its_words_fit is;
    first_row = subst (λ (x : SeatState × Span). IsFirst x.1.next x.0.0.call.rows × IsRowNumber live.counts x.1.next) (λ i. (sym none i, sym same_room.rows i)) row;
    blank = ap (λ (x : SeatState). x.0.call.staged) none ∙ is.left.blank;
    may = subst (λ (x : SeatState). MayChange x.0 (key_of m.op)) (sym none) (on.may_change is);
  }
