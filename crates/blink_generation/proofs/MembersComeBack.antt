-- A member whose operation has ended is idle again.
use Rattle.std.proofs.Common.{◌≡◌, ℕ, ◌+◌, ◌<◌, ◌≤◌, Some, None, List, [], sym, ap, ◌∙◌, subst, arith}
use mathlib.Core.List.{IsPrefix}
use Rattle.atomic_table.specs.declared.Seat.{Seat}
use Rattle.blink_batch.specs.declared.Answer.{Answer}
use Rattle.blink_batch.specs.declared.Op.{Op}
use Rattle.blink_rows.specs.declared.span.Span.{Span}
use Rattle.blink_machine.specs.{PlainMachine}
use Rattle.blink_machine.specs.declared.machine.State.TheVariants.{Ended}
use Rattle.blink_live.specs.declared.live.Live.{Live}
use Rattle.blink_live.specs.declared.room.Room.{Room as CallRoom}
use Rattle.blink_live.specs.declared.view.Plan.{Plan}
use Rattle.blink_live.specs.declared.view.Role.TheVariants.{Pass}
use Rattle.blink_live.specs.declared.view.Change.{Change}
use Rattle.blink_live.specs.declared.view.Share.{Share}
use Rattle.blink_live.specs.declared.view.View.{View}
use Rattle.blink_live.specs.{CanGiveBack, HasDecided, HasEnded, HasSameNumber, IsCommon, IsPassSeat, IsShelved, SeatState, decided, gives_back, gives_up, is_busy, not_yet, pages_of, rows_of, span}
use Rattle.blink_live.proofs.Offered.{shelved_so}
use Rattle.blink_live.proofs.Offered.{at_end, few_taken, is_its_seat}
use Rattle.blink_generation.specs.declared.member.Member.{Member}
use Rattle.blink_generation.specs.Changing.{HasChanged, HasOnlySeen, HasSetOut}
use Rattle.blink_generation.specs.Places.{IsMemberOf}
use Rattle.blink_generation.proofs.ChangesOfMembers.{can_give_back, few_pages, few_rows, in_order, pages_back, pages_stop, rows_back, rows_stop, used}

-- the ghost fields of a member with this seat, which has what its operation hasn't used of its rows and page numbers
pub record IsIdleAgain (old : Member) (room : CallRoom) (seat : Seat ℕ View) : Type 0 where
  pub rows_are : span room.rows.next old.rows.stop ≡ seat.me.0.rows
  pub pages_are : span room.pages.next old.pages.stop ≡ seat.me.0.pages
  pub place_is : (old.place ≡ seat.me.0.place) × (old.place < seat.me.0.plan.places)
  pub in_order : (room.rows.next ≤ old.rows.stop) × (room.pages.next ≤ old.pages.stop)
  pub role_is : seat.me.0.role ≡ Pass
  pub common : IsCommon seat.me.0.plan
  pub no_key : seat.me.0.share.keys ≡ []
  pub none_told : seat.me.0.told ≡ []
  pub idle : seat.me.0.operation ≡ None
  pub no_slot : seat.me.1 ≡ []
  pub shelved : IsShelved room.shelf seat.me.0

-- an operation that has answered nothing has changed nothing
undecided : {op : Op} {first v : View} {m : PlainMachine} → HasDecided op first v m → m.answer ≡ None → v.share ≡ first.share
undecided (not_yet none same) undone = same
undecided (decided answers) undone = absurd (let is = answers.answers in cc)

module _ {live : Live} {op : Op} {old : Member} {seat : Seat ℕ View} {m : PlainMachine} {room : CallRoom} (out : HasSetOut live op old seat m room) where
  begun : out.first.me.0 ≡ is_busy old.seat.me.0 out.mark
  begun = ap (λ (x : SeatState). x.0) out.marked

  pub its_seat : IsPassSeat live seat.table_id seat.me
  its_seat = is_its_seat out.under_way

  pub gives : CanGiveBack seat.me.0
  gives = can_give_back out.under_way

  plan_then : seat.me.0.plan ≡ old.seat.me.0.plan
  plan_then = ap (λ (v : View). v.plan) out.under_way.updating.same.0 ∙ ap (λ (v : View). v.plan) begun

  place_then : old.place ≡ seat.me.0.place
  place_then = old.place_is.0 ∙ (sym (ap (λ (v : View). v.place) begun) ∙ sym (ap (λ (v : View). v.place) out.under_way.updating.same.0))

  pub its_place : IsMemberOf live old → (old.place ≡ seat.me.0.place) × (old.place < live.places)
  its_place its =
      let inside = old.place_is.1 in
      let same : old.seat.me.0.plan.places ≡ live.places = ap (λ (p : Plan). p.places) its.same_plan ∙ sym live.places_are in
      (place_then, omega (arith, inside, same))

  pub its_end : (answer : Answer) → m.state ≡ Ended → m.answer ≡ Some answer → HasEnded op out.first seat answer
  its_end answer ends given = at_end live op out.first seat m room answer out.under_way ends given

  stop_of_rows : old.rows.stop ≡ seat.me.0.rows.stop
  stop_of_rows = ap (λ (s : Span). s.stop) old.rows_are ∙ (sym (ap (λ (v : View). v.rows.stop) begun) ∙ sym (rows_stop out.under_way))

  stop_of_pages : old.pages.stop ≡ seat.me.0.pages.stop
  stop_of_pages = ap (λ (s : Span). s.stop) old.pages_are ∙ (sym (ap (λ (v : View). v.pages.stop) begun) ∙ sym (pages_stop out.under_way))

  few_rows_used : room.rows.next ≤ old.rows.next + rows_of op
  few_rows_used =
      let few = few_rows out.under_way in
      let taken = few_taken op out.first.me.0.rows in
      let same : out.first.me.0.rows.next ≡ old.rows.next = ap (λ (v : View). v.rows.next) begun ∙ sym (ap (λ (s : Span). s.next) old.rows_are) in
      omega (arith, few, taken, same)

  few_pages_used : room.pages.next ≤ old.pages.next + pages_of op
  few_pages_used =
      let few = few_pages out.under_way in
      let same : out.first.me.0.pages.next ≡ old.pages.next = ap (λ (v : View). v.pages.next) begun ∙ sym (ap (λ (s : Span). s.next) old.pages_are) in
      omega (arith, few, same)

  rows_in_order : room.rows.next ≤ old.rows.stop
  rows_in_order =
      let few = few_rows out.under_way in
      let enough = out.under_way.can.can_begin.rows in
      let one = stop_of_rows in
      let two = rows_stop out.under_way in
      omega (arith, few, enough, one, two)

  pages_in_order : room.pages.next ≤ old.pages.stop
  pages_in_order =
      let few = few_pages out.under_way in
      let enough = out.under_way.can.can_begin.pages in
      let one = stop_of_pages in
      let two = pages_stop out.under_way in
      omega (arith, few, enough, one, two)

  -- and its seat then
  pub is_idle_again : (answer : Answer) (new : Seat ℕ View) → HasEnded op out.first seat answer → new.me ≡ (is_busy (gives_back seat.me.0) 0, seat.me.1) → IsIdleAgain old room new
  is_idle_again answer new ended back =
      let now : new.me.0 ≡ is_busy (gives_back seat.me.0) 0 = ap (λ (x : SeatState). x.0) back in
      let same_places : new.me.0.plan.places ≡ old.seat.me.0.plan.places = ap (λ (v : View). v.plan.places) now ∙ ap (λ (p : Plan). p.places) plan_then in
      let inside = old.place_is.1 in
      let common = old.common in record {
        rows_are = (λ i. span (rows_back out.under_way i) (stop_of_rows i)) ∙ sym (ap (λ (v : View). v.rows) now);
        pages_are = (λ i. span (pages_back out.under_way i) (stop_of_pages i)) ∙ sym (ap (λ (v : View). v.pages) now);
        place_is = (place_then ∙ sym (ap (λ (v : View). v.place) now), omega (arith, inside, same_places));
        in_order = (rows_in_order, pages_in_order);
        role_is = ap (λ (v : View). v.role) now ∙ ((used out.under_way).role ∙ (ap (λ (v : View). v.role) begun ∙ old.role_is));
        common = omega (arith, common, same_places);
        no_key = ap (λ (v : View). v.share.keys) now ∙ (ended.answers.keys ∙ (ap (λ (v : View). v.share.keys) begun ∙ old.no_key));
        none_told = ap (λ (v : View). v.told) now ∙ ((used out.under_way).told ∙ (ap (λ (v : View). v.told) begun ∙ old.none_told));
        idle = ap (λ (v : View). v.operation) now ∙ ended.idle;
        no_slot = ap (λ (x : SeatState). x.1) back ∙ (ended.same_slots ∙ (ap (λ (x : SeatState). x.1) out.marked ∙ old.no_slot));
        shelved = shelved_so room.shelf seat.me.0 new.me.0 (ap (λ (v : View). v.plan) now) (ap (λ (v : View). v.stock) now) out.under_way.shelved;
      }

  pub has_changed : (answer : Answer) (new : Member) → IsMemberOf live old → HasEnded op out.first seat answer → HasSameNumber seat new.seat → new.seat.me ≡ (is_busy (gives_back seat.me.0) 0, seat.me.1)
      → new.rows ≡ span room.rows.next old.rows.stop → new.pages ≡ span room.pages.next old.pages.stop → HasChanged live op old new answer
  has_changed answer new its ended same back rows pages =
      let now : new.seat.me.0 ≡ is_busy (gives_back seat.me.0) 0 = ap (λ (x : SeatState). x.0) back in
      let next_row = ap (λ (s : Span). s.next) rows in
      let next_page = ap (λ (s : Span). s.next) pages in
      let some_rows = few_rows_used in
      let some_pages = few_pages_used in record {
        in_order = in_order out.under_way answer old new out.mark ended its begun now;
        rows = (ap (λ (s : Span). s.stop) rows, omega (arith, next_row, some_rows));
        pages = (ap (λ (s : Span). s.stop) pages, omega (arith, next_page, some_pages));
        same_member = record {
          same_table = same.0 ∙ (out.under_way.same_number.0 ∙ out.same_number.0);
          same_plan = ap (λ (v : View). v.plan) now ∙ plan_then;
          same_place = ap (λ (v : View). v.place) now ∙ (sym place_then ∙ old.place_is.0);
        };
      }

  -- ---- the same of an operation that was given up

  module _ (undone : m.answer ≡ None) (left : Seat ℕ View) (same_left : HasSameNumber seat left) (idle : left.me ≡ (gives_up seat.me.0, seat.me.1)) where
    same_share : seat.me.0.share ≡ out.first.me.0.share
    same_share = undecided out.under_way.updating.has_decided undone

    pub left_seat : IsPassSeat live left.table_id left.me
    left_seat = record {
      same_table = same_left.0 ∙ its_seat.same_table;
      same_plan = ap (λ (x : SeatState). x.0.plan) idle ∙ its_seat.same_plan;
      role = ap (λ (x : SeatState). x.0.role) idle ∙ its_seat.role;
    }

    pub left_gives : CanGiveBack left.me.0
    left_gives = subst (λ (x : SeatState). CanGiveBack x.0) (sym idle) (record { rows = gives.rows; pages = gives.pages })

    pub left_idle : left.me.0.operation ≡ None
    left_idle = ap (λ (x : SeatState). x.0.operation) idle

    pub left_place : IsMemberOf live old → (old.place ≡ left.me.0.place) × (old.place < live.places)
    left_place its = (place_then ∙ sym (ap (λ (x : SeatState). x.0.place) idle), (its_place its).1)

    module _ (new : Seat ℕ View) (back : new.me ≡ (is_busy (gives_back left.me.0) 0, left.me.1)) where
      now : new.me.0 ≡ is_busy (gives_back (gives_up seat.me.0)) 0
      now = ap (λ (x : SeatState). x.0) back ∙ ap (λ (x : SeatState). is_busy (gives_back x.0) 0) idle

      pub is_idle_given_up : IsIdleAgain old room new
      is_idle_given_up =
          let same_places : new.me.0.plan.places ≡ old.seat.me.0.plan.places = ap (λ (v : View). v.plan.places) now ∙ ap (λ (p : Plan). p.places) plan_then in
          let inside = old.place_is.1 in
          let common = old.common in record {
            rows_are = (λ i. span (rows_back out.under_way i) (stop_of_rows i)) ∙ sym (ap (λ (v : View). v.rows) now);
            pages_are = (λ i. span (pages_back out.under_way i) (stop_of_pages i)) ∙ sym (ap (λ (v : View). v.pages) now);
            place_is = (place_then ∙ sym (ap (λ (v : View). v.place) now), omega (arith, inside, same_places));
            in_order = (rows_in_order, pages_in_order);
            role_is = ap (λ (v : View). v.role) now ∙ ((used out.under_way).role ∙ (ap (λ (v : View). v.role) begun ∙ old.role_is));
            common = omega (arith, common, same_places);
            no_key = ap (λ (v : View). v.share.keys) now ∙ (ap (λ (s : Share). s.keys) same_share ∙ (ap (λ (v : View). v.share.keys) begun ∙ old.no_key));
            none_told = ap (λ (v : View). v.told) now ∙ ((used out.under_way).told ∙ (ap (λ (v : View). v.told) begun ∙ old.none_told));
            idle = ap (λ (v : View). v.operation) now;
            no_slot = ap (λ (x : SeatState). x.1) back ∙ (ap (λ (x : SeatState). x.1) idle ∙ (out.under_way.updating.same.1 ∙ (ap (λ (x : SeatState). x.1) out.marked ∙ old.no_slot)));
            shelved = shelved_so room.shelf seat.me.0 new.me.0 (ap (λ (v : View). v.plan) now) (ap (λ (v : View). v.stock) now) out.under_way.shelved;
          }

    pub has_only_seen : (new : Member) → HasSameNumber left new.seat → new.seat.me ≡ (is_busy (gives_back left.me.0) 0, left.me.1) → HasOnlySeen old new
    has_only_seen new same back =
        let at = now new.seat back in record {
          saw = subst (λ (t : List Change × List Change). IsPrefix t.0 t.1) (λ i. (ap (λ (v : View). v.seen) begun i, sym (ap (λ (v : View). v.seen) at) i)) out.under_way.updating.saw;
          made = ap (λ (v : View). v.share.changes) at ∙ (ap (λ (s : Share). s.changes) same_share ∙ ap (λ (v : View). v.share.changes) begun);
          same_member = record {
            same_table = same.0 ∙ (same_left.0 ∙ (out.under_way.same_number.0 ∙ out.same_number.0));
            same_plan = ap (λ (v : View). v.plan) at ∙ plan_then;
            same_place = ap (λ (v : View). v.place) at ∙ (sym place_then ∙ old.place_is.0);
          };
        }
