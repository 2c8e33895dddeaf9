-- What a call that changes the table makes of a member's operation.
use Rattle.std.proofs.Common.{◌≡◌, ℕ, ◌+◌, ◌≤◌, sym, ap, subst, arith}
use Rattle.atomic_table.specs.declared.Seat.{Seat}
use Rattle.blink_batch.specs.declared.Op.{Op}
use Rattle.blink_machine.specs.{PlainMachine}
use Rattle.blink_rows.specs.declared.span.Span.{Span}
use Rattle.blink_live.specs.declared.descent.Changed.{Changed}
use Rattle.blink_live.specs.declared.descent.Changed.TheVariants.{Ended, Rests}
use Rattle.blink_live.specs.declared.live.Live.{Live}
use Rattle.blink_live.specs.declared.room.Room.{Room as CallRoom}
use Rattle.blink_live.specs.declared.view.View.{View}
use Rattle.blink_live.specs.{CanBegin, HasCome, HasSameNumber, SeatState, is_busy, pages_of, rows_taken}
use Rattle.blink_live.proofs.Offered.{taken_in_order}
use Rattle.blink_generation.specs.declared.member.Member.{Member}
use Rattle.blink_generation.specs.Changing.{HasComeOut, HasSetOut}
use Rattle.blink_generation.specs.Sessions.{HasRoom}

pub come_out : (live : Live) (op : Op) (old : Member) (first seat : Seat ℕ View) (room : CallRoom) (changed : Changed) (mark : ℕ) → first.me ≡ (is_busy old.seat.me.0 mark, old.seat.me.1) → HasSameNumber old.seat first → HasCome live op first seat room changed → HasComeOut live op old seat room changed
come_out live op old first seat room (Ended answer) mark marked same came = (came.0, record { first = first; mark = mark; marked = marked; same_number = same; under_way = came.1 }, came.2, came.3)
come_out live op old first seat room (Rests resting) mark marked same came = (record { first = first; mark = mark; marked = marked; same_number = same; under_way = came.0 }, came.1)

-- and of one that was under way
pub comes_on : {live : Live} {op : Op} {old : Member} {before : Seat ℕ View} {m : PlainMachine} {was : CallRoom} → (out : HasSetOut live op old before m was) → (seat : Seat ℕ View) (room : CallRoom) (changed : Changed) → HasCome live op out.first seat room changed → HasComeOut live op old seat room changed
comes_on {live} {op} {old} {before} {m} {was} out seat room changed came = come_out live op old out.first seat room changed out.mark out.marked out.same_number came

-- a member with the room for it can begin
pub can_begin : (op : Op) (old : Member) (mark : ℕ) (me : SeatState) → HasRoom op old → 2 ≤ mark → me ≡ (is_busy old.seat.me.0 mark, old.seat.me.1) → CanBegin me.0 op
can_begin op old mark me has works marked =
    let order = old.in_order in
    let enough = has.enough_pages in
    let begun : me.0 ≡ is_busy old.seat.me.0 mark = ap (λ (x : SeatState). x.0) marked in
    subst (λ (v : View). CanBegin v op) (sym begun) (record {
      rows = subst (λ (s : Span). s.next + rows_taken op s ≤ s.stop) old.rows_are (taken_in_order op old.rows order.0);
      pages = subst (λ (s : Span). s.next + pages_of op ≤ s.stop) old.pages_are (omega (arith, order, enough));
      announced = λ common. works;
    })
