-- A member's operation rests, and goes on: only the mark of its place is another.
use Rattle.std.proofs.Common.{◌≡◌, ℕ, ◌<◌, ◌≤◌, sym, ap, ◌∙◌}
use Rattle.atomic_table.specs.declared.Seat.{Seat}
use Rattle.blink_batch.specs.declared.Op.{Op}
use Rattle.blink_machine.specs.{PlainMachine}
use Rattle.blink_live.specs.declared.live.Live.{Live}
use Rattle.blink_live.specs.declared.room.Room.{Room as CallRoom}
use Rattle.blink_live.specs.declared.view.View.{View}
use Rattle.blink_live.specs.{HasSameNumber, IsPassSeat, IsUnderWay, SeatState, is_busy}
use Rattle.blink_live.proofs.Offered.{marked, under_way_marked}
use Rattle.blink_generation.specs.declared.member.Member.{Member}
use Rattle.blink_generation.specs.Changing.{HasComeToRest, HasSetOut}
use Rattle.blink_generation.specs.Places.{IsMemberOf}
use Rattle.blink_generation.proofs.MembersComeBack.{its_place, its_seat}

abbrev with_mark : ℕ → SeatState → SeatState
with_mark mark me = (is_busy me.0 mark, me.1)

module _ {live : Live} {op : Op} {old : Member} {seat : Seat ℕ View} {m : PlainMachine} {room : CallRoom} where
  -- its steps go on
  pub steps_on : {then : Seat ℕ View} {after : PlainMachine} {left : CallRoom} → (out : HasSetOut live op old seat m room) → IsUnderWay live op out.first then after left → HasSetOut live op old then after left
  steps_on out under_way = record { first = out.first; mark = out.mark; marked = out.marked; same_number = out.same_number; under_way = under_way }

  -- it rests where its place is marked so
  pub comes_to_rest : HasSetOut live op old seat m room → (then : Seat ℕ View) → HasSameNumber seat then → then.me ≡ (is_busy seat.me.0 1, seat.me.1) → HasComeToRest live op old then m room
  comes_to_rest out then same now = record { awake = seat; set_out = out; same_number = same; rests = now }

  -- and goes on where it is marked as at work
  pub goes_on_from_rest : HasComeToRest live op old seat m room → (mark : ℕ) → 2 ≤ mark → (then : Seat ℕ View) → HasSameNumber seat then → then.me ≡ (is_busy seat.me.0 mark, seat.me.1) → HasSetOut live op old then m room
  goes_on_from_rest rests mark works then same now = record {
    first = marked mark rests.set_out.first;
    mark = mark;
    marked = ap (with_mark mark) rests.set_out.marked;
    same_number = rests.set_out.same_number;
    under_way = under_way_marked live op rests.set_out.first rests.awake m room rests.set_out.under_way mark works then (same.0 ∙ rests.same_number.0, same.1 ∙ rests.same_number.1) (now ∙ ap (with_mark mark) rests.rests);
  }

  -- the seat and the place of an operation that rests are the member's
  pub seat_at_rest : HasComeToRest live op old seat m room → IsPassSeat live seat.table_id seat.me
  seat_at_rest rests =
      let awake = its_seat rests.set_out in record {
        same_table = rests.same_number.0 ∙ awake.same_table;
        same_plan = ap (λ (x : SeatState). x.0.plan) rests.rests ∙ awake.same_plan;
        role = ap (λ (x : SeatState). x.0.role) rests.rests ∙ awake.role;
      }

  pub place_at_rest : (rests : HasComeToRest live op old seat m room) → IsMemberOf live old → (old.place ≡ seat.me.0.place) × (old.place < live.places)
  place_at_rest rests its =
      let place = its_place rests.set_out its in
      (place.0 ∙ sym (ap (λ (x : SeatState). x.0.place) rests.rests), place.1)
