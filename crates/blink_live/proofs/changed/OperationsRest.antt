-- An operation under way stays so where its seat is marked: the mark is one of those that it might have begun with.
use Rattle.std.proofs.Common.{◌≡◌, ℕ, ◌≤◌, sym, ap, ◌∙◌, subst}
use Rattle.atomic_table.specs.declared.Seat.{Seat}
use Rattle.blink_batch.specs.declared.Op.{Op}
use Rattle.blink_machine.specs.{PlainMachine}
use Rattle.blink_live.specs.declared.live.Live.{Live}
use Rattle.blink_live.specs.declared.room.Room.{Room}
use Rattle.blink_live.specs.declared.view.Call.{Call}
use Rattle.blink_live.specs.declared.view.View.{View}
use Rattle.blink_live.specs.Seats.{HasSameNumber}
use Rattle.blink_live.specs.Spares.{HasAny}
use Rattle.blink_live.specs.Updating.{CanUpdate, HasDecided, HasLeft, IsUnderWay, IsUpdating, decided, not_yet}
use Rattle.blink_live.specs.Views.{IsCommon, SeatState, for_call, is_busy}
use Rattle.blink_live.proofs.changed.RowsAreLent.{shelved_so}

-- the seat with another mark
abbrev pub marked : ℕ → Seat ℕ View → Seat ℕ View
marked mark seat = record seat { me = (is_busy seat.me.0 mark, seat.me.1) }

module _ (live : Live) (op : Op) (first seat : Seat ℕ View) (m : PlainMachine) (room : Room) (is : IsUnderWay live op first seat m room) (mark : ℕ) (works : 2 ≤ mark) where
  its_decision : HasDecided op (for_call first.me.0 op) seat.me.0 m → HasDecided op (for_call (is_busy first.me.0 mark) op) (is_busy seat.me.0 mark) m
  its_decision (not_yet none same) = not_yet none same
  its_decision (decided given) = decided (record { before = given.before; saw = given.saw; answers = given.answers; goes_on = given.goes_on; keys = given.keys; changes = given.changes; own = given.own })

  can : CanUpdate live op (marked mark first)
  can = record {
    seat = record { same_table = is.can.seat.same_table; same_plan = is.can.seat.same_plan; role = is.can.seat.role };
    updates = is.can.updates;
    fits = is.can.fits;
    some_latch = is.can.some_latch;
    may_change = is.can.may_change;
    can_begin = record { rows = is.can.can_begin.rows; pages = is.can.can_begin.pages; announced = λ common. works };
    rows = is.can.rows;
    pages = is.can.pages;
  }

  updating : IsUpdating op (for_call (is_busy first.me.0 mark) op, first.me.1) (is_busy seat.me.0 mark, seat.me.1) m
  updating = record {
    same = (ap (λ (v : View). is_busy v mark) is.updating.same.0, is.updating.same.1);
    saw = is.updating.saw;
    knows_own = record { state = is.updating.knows_own.state; changes = is.updating.knows_own.changes };
    operation = is.updating.operation;
    same_op = is.updating.same_op;
    next = is.updating.next;
    has_decided = its_decision is.updating.has_decided;
    past_descent = is.updating.past_descent;
    answers_at_end = is.updating.answers_at_end;
  }

  pub under_way_marked : (then : Seat ℕ View) → HasSameNumber seat then → then.me ≡ (is_busy seat.me.0 mark, seat.me.1) → IsUnderWay live op (marked mark first) then m room
  under_way_marked then same now = record {
    can = can;
    same_number = (same.0 ∙ is.same_number.0, same.1 ∙ is.same_number.1);
    updating = subst (λ (x : SeatState). IsUpdating op (for_call (is_busy first.me.0 mark) op, first.me.1) x m) (sym now) updating;
    room_is = (is.room_is.0 ∙ ap (λ (x : SeatState). x.0.call.rows) (sym now), is.room_is.1 ∙ ap (λ (x : SeatState). x.0.call.pages) (sym now));
    latch_number = is.latch_number;
    shelved = shelved_so room.shelf seat.me.0 then.me.0 (ap (λ (x : SeatState). x.0.plan) now) (ap (λ (x : SeatState). x.0.stock) now) is.shelved;
    left = subst (λ (c : Call). HasLeft room.shelf (for_call first.me.0 op).call c m) (ap (λ (x : SeatState). x.0.call) (sym now)) is.left;
    spare_first = λ common some. let was = is.spare_first (subst IsCommon (ap (λ (x : SeatState). x.0.plan) now) common) (subst HasAny (ap (λ (x : SeatState). x.0.stock.spare) now) some) in (ap (λ (x : SeatState). x.0.call.pages.next) now ∙ was.0, was.1);
  }
