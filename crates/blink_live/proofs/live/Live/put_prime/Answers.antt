use Rattle.std.proofs.Common.{◌≡◌, suc, ◌+◌, refl, sym, ap, ◌∙◌, subst, true, false, arith}
use Rattle.blink_rows.specs.declared.span.Span.{Span}
use Rattle.blink_machine.specs.{write_prime, done}
use Rattle.blink_live.specs.AtomicSteps.{PublishesPrime}
use Rattle.blink_live.specs.ComingBack.{takes_in}
use Rattle.blink_live.specs.Views.{SeatState, no_aside, span, takes_out}
use Rattle.blink_live.specs.Updating.{IsUnderWay}
use Rattle.blink_live.proofs.changed.CallsWrite.{writes_lent, writes_own}
use Rattle.blink_live.proofs.changed.RowsAreLent.{lent_and_back}
use Rattle.blink_live.proofs.changed.UpdatesGoOn as on
use Rattle.blink_live.proofs.live.Live.put_prime.Goals as goal

pub write_prime-out-requires-clause-can : goal.write_prime-out-requires-clause-can
write_prime-out-requires-clause-can c =
    let under_way = c.requires.under_way in
    writes_lent c.args.self.now under_way.0 under_way.1 c.args.seat.now c.lend.new.seat c.args.machine.now c.args.room.now c.lend.new.room under_way.2 c.requires.goes_on c.lend.ensures.same c.in-Some.row c.in-Some.ensures.lent c.in-Some.ensures.in_range

pub write_prime-out-requires-2-clause-can : goal.write_prime-out-requires-2-clause-can
write_prime-out-requires-2-clause-can c =
    let under_way = c.requires.under_way in
    let is : IsUnderWay c.args.self.now under_way.0 under_way.1 c.args.seat.now c.args.machine.now c.args.room.now = under_way.2 in
    writes_own c.args.self.now under_way.0 under_way.1 c.args.seat.now c.lend.new.seat c.args.machine.now c.args.room.now c.lend.new.room is c.requires.goes_on c.lend.ensures.same c.in_default.ensures.none c.lend.ensures.same_room (on.row_for_prime is c.requires.needs c.in_default.ensures.none_free)

pub returns-in-Some-clause-under_way : goal.returns-in-Some-clause-under_way
returns-in-Some-clause-under_way c op first is =
    let me : SeatState = c.args.seat.now.me in
    let m = c.args.machine.now in
    let lent = c.in-Some.ensures.lent in
    let row = c.in-Some.row in
    let out = c.write_prime-out.result in
    let does = subst (λ (x : SeatState). PublishesPrime out m x c.write_prime-out.new.seat.me) lent.is c.write_prime-out.ensures.published in
    let back = lent_and_back write_prime (span (suc row) (suc row)) me.0.call.pages (takes_out out (takes_in me.0 row lent.rest).stock) m (done m 0) me c.write_prime-out.new.seat.me c.put_rows_back.new.seat.me row lent.rest refl does c.put_rows_back.ensures.back in
    let one = c.lend.ensures.same in
    let two = c.write_prime-out.ensures.same in
    let three = c.put_rows_back.ensures.same in
    let room = c.lend.ensures.same_room in
    let then = c.keep_out.ensures.same_room in
    on.after_write_prime is (three.0 ∙ (two.0 ∙ one.0), three.1 ∙ (two.1 ∙ one.1)) true (record (takes_out out (takes_in me.0 row lent.rest).stock) { aside = no_aside }) refl c.keep_out.new.room c.write_prime-out.ensures.machine back
    (then.rows ∙ (room.rows ∙ is.room_is.0)) (then.pages ∙ room.pages) (then.latch_number ∙ room.latch_number) c.keep_out.ensures.shelved (c.in-Some.ensures.one_less ∙ ap suc (sym c.keep_out.ensures.same_free)) (λ count has. c.keep_out.ensures.space count (c.lend.ensures.space (suc count) has))

pub overflow_add-room : goal.overflow_add-room
overflow_add-room c =
    let is = c.requires.under_way.2 in
    let same : c.lend.new.room.rows.next ≡ c.args.room.now.rows.next = ap (λ (s : Span). s.next) c.lend.ensures.same_room.rows in
    let left = on.rows_left is (on.row_for_prime is c.requires.needs c.in_default.ensures.none_free).0 in
    omega (arith, left, same)

pub returns-clause-under_way : goal.returns-clause-under_way
returns-clause-under_way c op first is =
    let me : SeatState = c.args.seat.now.me in
    let m = c.args.machine.now in
    let out = c.write_prime-out-2.result in
    let none = c.in_default.ensures.none in
    let does = subst (λ (x : SeatState). PublishesPrime out m x c.write_prime-out-2.new.seat.me) none c.write_prime-out-2.ensures.published in
    let one = c.lend.ensures.same in
    let two = c.write_prime-out-2.ensures.same in
    let room = c.lend.ensures.same_room in
    let then = c.keep_out-2.ensures.same_room in
    on.after_write_prime is (two.0 ∙ one.0, two.1 ∙ one.1) false (takes_out out me.0.stock) refl c.keep_out-2.new.room c.write_prime-out-2.ensures.machine does
    (then.rows ∙ ((λ i. span ((room.rows i).next + 1) (room.rows i).stop) ∙ on.first_row_used is)) (then.pages ∙ room.pages) (then.latch_number ∙ room.latch_number) c.keep_out-2.ensures.shelved c.in_default.ensures.none_free (λ count has. c.keep_out-2.ensures.space count (c.lend.ensures.space (suc count) has))

pub keep_out-requires-clause-space : goal.keep_out-requires-clause-space
keep_out-requires-clause-space c = c.lend.ensures.space 1 (on.space_for_prime c.requires.under_way.2 c.requires.needs)

pub keep_out-requires-2-clause-space : goal.keep_out-requires-2-clause-space
keep_out-requires-2-clause-space c = c.lend.ensures.space 1 (on.space_for_prime c.requires.under_way.2 c.requires.needs)
