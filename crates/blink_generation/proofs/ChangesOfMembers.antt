-- What an operation that has ended leaves to its member: rows and page numbers that it hasn't used.
use Rattle.std.proofs.Common.{◌≡◌, ℕ, zero, suc, ◌+◌, ◌≤◌, Some, List, ◌++◌, refl, sym, ap, ◌∙◌, subst, arith}
use mathlib.Core.List.{IsPrefix}
use Rattle.atomic_table.specs.declared.Seat.{Seat}
use Rattle.blink_batch.specs.{answer_at, key_of, pointer_of}
use Rattle.blink_batch.specs.declared.Answer.{Answer}
use Rattle.blink_batch.specs.declared.Op.{Op}
use Rattle.blink_rows.specs.declared.span.Span.{Span}
use Rattle.blink_machine.specs.{PlainMachine}
use Rattle.blink_live.specs.declared.live.Live.{Live}
use Rattle.blink_live.specs.declared.room.Room.{Room as CallRoom}
use Rattle.blink_live.specs.declared.view.Plan.{Plan}
use Rattle.blink_live.specs.declared.view.View.{View}
use Rattle.blink_live.specs.declared.view.Change.{Change}
use Rattle.blink_live.specs.{CanGiveBack, HasEnded, IsUnderWay, after, changes_made, gives_back, is_busy, latch_in, opening_of, pages_of, plan_of, rows_taken}
use Rattle.blink_live.proofs.Offered.{IsAfterCall, after_call}
use Rattle.blink_generation.specs.declared.member.Member.{Member}
use Rattle.blink_generation.specs.Places.{IsMemberOf}
use Rattle.blink_generation.specs.Sessions.{AnswersInOrder, place_of_member}

-- a session's latch number
pub latch_common : (places stop : ℕ) → 1 ≤ places → latch_in places stop ≡ 1
latch_common zero stop some = absurd (omega (arith, some))
latch_common (suc places) stop some = refl

module _ {live : Live} {op : Op} {first last : Seat ℕ View} {m : PlainMachine} {room : CallRoom} (is : IsUnderWay live op first last m room) where
  pub used : IsAfterCall op first.me.0 last.me.0
  used = after_call op first.me.0 last.me.0 is.updating.same.0

  pub can_give_back : CanGiveBack last.me.0
  can_give_back =
      let left = is.left in
      let pages = left.pages in
      record {
        rows = (left.in_order, left.same_stop.0 ∙ sym (ap (λ (s : Span). s.next) used.rows));
        pages = (omega (arith, pages), left.same_stop.1 ∙ sym (ap (λ (s : Span). s.next) used.pages));
      }

  -- what the member has then
  pub rows_back : room.rows.next ≡ last.me.0.call.rows.next
  rows_back = ap (λ (s : Span). s.next) is.room_is.0

  pub pages_back : room.pages.next ≡ last.me.0.call.pages.next
  pages_back = ap (λ (s : Span). s.next) is.room_is.1

  pub rows_stop : last.me.0.rows.stop ≡ first.me.0.rows.stop
  rows_stop = ap (λ (s : Span). s.stop) used.rows

  pub pages_stop : last.me.0.pages.stop ≡ first.me.0.pages.stop
  pages_stop = ap (λ (s : Span). s.stop) used.pages

  pub few_rows : room.rows.next ≤ first.me.0.rows.next + rows_taken op first.me.0.rows
  few_rows =
      let at = rows_back in
      let inside = can_give_back.rows in
      let next = ap (λ (s : Span). s.next) used.rows in
      omega (arith, at, inside, next)

  pub few_pages : room.pages.next ≤ first.me.0.pages.next + pages_of op
  few_pages =
      let at = pages_back in
      let inside = can_give_back.pages in
      let next = ap (λ (s : Span). s.next) used.pages in
      omega (arith, at, inside, next)

  -- what the operation has answered, where the seat was the member's before, and is again
  pub in_order : (answer : Answer) (old new : Member) (mark : ℕ) → HasEnded op first last answer → IsMemberOf live old → first.me.0 ≡ is_busy old.seat.me.0 mark → new.seat.me.0 ≡ is_busy (gives_back last.me.0) 0
      → AnswersInOrder (opening_of live) op old new answer
  in_order answer old new mark ended its begun now =
      let told = ended.answers in
      let same_plan : first.me.0.plan ≡ plan_of live.table.shared.key = ap (λ (v : View). v.plan) begun ∙ its.same_plan in
      let same_place : first.me.0.place ≡ place_of_member old = ap (λ (v : View). v.place) begun in
      subst (λ (p : Plan × ℕ). (Some answer ≡ Some (answer_at op (after (pointer_of p.0.opening) told.before (key_of op))))
      × IsPrefix (told.before ++ changes_made p.1 op (after (pointer_of p.0.opening) told.before (key_of op))) last.me.0.seen
      × (last.me.0.share.changes ≡ first.me.0.share.changes ++ changes_made p.1 op (after (pointer_of p.0.opening) told.before (key_of op)))
      → AnswersInOrder (opening_of live) op old new answer) (λ i. (sym same_plan i, sym same_place i))
      (λ t. record {
        before = told.before;
        saw = subst (λ (seen : List Change). IsPrefix seen told.before) (ap (λ (v : View). v.seen) begun) told.saw;
        answers = let same = t.0 in cc;
        goes_on = subst (λ (seen : List Change). IsPrefix (told.before ++ changes_made (place_of_member old) op (after (pointer_of (opening_of live)) told.before (key_of op))) seen) (sym (ap (λ (v : View). v.seen) now)) t.1;
        made =
            ap (λ (v : View). v.share.changes) now
            ∙ (t.2 ∙ ap (λ (v : View). v.share.changes ++ changes_made (place_of_member old) op (after (pointer_of (opening_of live)) told.before (key_of op))) begun);
      })
      (told.answers, told.goes_on, told.changes)
