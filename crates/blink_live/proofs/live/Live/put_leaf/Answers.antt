use Rattle.std.proofs.Common.{◌≡◌, suc, ◌+◌, refl, sym, ap, ◌∙◌, subst, true, false, arith}
use Rattle.blink_page.specs.{PlainPage}
use Rattle.blink_page.specs.declared.limits.TheConstants.{MAX_FAN}
use Rattle.blink_rows.specs.{Fits, page_after}
use Rattle.blink_rows.specs.declared.span.Span.{Span}
use Rattle.blink_machine.specs.{write_page, done}
use Rattle.blink_live.specs.AtomicSteps.{PublishesPage}
use Rattle.blink_live.specs.ComingBack.{takes_in}
use Rattle.blink_live.specs.Views.{SeatState, no_aside, span, takes_out}
use Rattle.blink_live.proofs.changed.LeavesAreChanged.{its_operation, lent_leaf, own_leaf, seat_published, shelved_but, shelved_lent, under_way_still, writing}
use Rattle.blink_live.proofs.changed.RowsAreLent.{lent_and_back}
use Rattle.blink_live.proofs.changed.UpdatesGoOn as on
use Rattle.blink_live.proofs.live.Live.put_leaf.Goals as goal

pub apply-requires : goal.apply-requires
apply-requires c = let to = c.requires.changes.1 in subst (λ (p : PlainPage). Fits MAX_FAN p c.args.change.now) (sym (c.page_in_row-page.ensures.page to.page to.version)) to.fits

pub write_leaf-out-requires-clause-can : goal.write_leaf-out-requires-clause-can
write_leaf-out-requires-clause-can c = lent_leaf c.requires.changes.1 c.page_in_row-page.new.seat c.page_in_row-page.ensures.same c.lend.new.seat c.lend.ensures.same c.lend.new.room c.in-Some.row _ (c.apply.ensures ∙ ap (λ (p : PlainPage). page_after p c.args.change.now) (c.page_in_row-page.ensures.page c.requires.changes.1.page c.requires.changes.1.version)) c.in-Some.ensures.lent c.in-Some.ensures.in_range

pub put_rows_back-requires-clause-seat : goal.put_rows_back-requires-clause-seat
put_rows_back-requires-clause-seat c =
    let to = c.requires.changes.1 in
    let lent = c.in-Some.ensures.lent in
    let does = c.write_leaf-out.ensures.published (writing to) (ap (λ (x : SeatState). x.0.operation) lent.is ∙ its_operation to c.page_in_row-page.new.seat c.page_in_row-page.ensures.same) refl in
    seat_published to c.page_in_row-page.new.seat c.page_in_row-page.ensures.same c.lend.new.seat c.write_leaf-out.new.seat c.args.descent.now.leaf c.write_leaf-out.result (writing to) c.lend.ensures.same c.write_leaf-out.ensures.same (ap (λ (x : SeatState). x.0.plan) lent.is) (ap (λ (x : SeatState). x.0.role) lent.is) does

pub keep_out-requires-clause-shelved : goal.keep_out-requires-clause-shelved
keep_out-requires-clause-shelved c =
    let to = c.requires.changes.1 in
    let lent = c.in-Some.ensures.lent in
    let does = c.write_leaf-out.ensures.published (writing to) (ap (λ (x : SeatState). x.0.operation) lent.is ∙ its_operation to c.page_in_row-page.new.seat c.page_in_row-page.ensures.same) refl in
    shelved_lent c.args.descent.now.leaf c.write_leaf-out.result c.in-Some.row (writing to) c.lend.new.room c.page_in_row-page.new.seat.me c.lend.new.seat.me c.write_leaf-out.new.seat.me c.put_rows_back.new.seat.me lent does c.put_rows_back.ensures.back

pub keep_out-requires-clause-space : goal.keep_out-requires-clause-space
keep_out-requires-clause-space c = c.lend.ensures.space 1 (on.space_for_page (under_way_still c.requires.changes.1 c.page_in_row-page.new.seat c.page_in_row-page.ensures.same) c.args.descent.now.leaf refl)

pub returns-in-Some : goal.returns-in-Some
returns-in-Some c = λ first to.
    let me : SeatState = c.page_in_row-page.new.seat.me in
    let m = writing to in
    let is = under_way_still to c.page_in_row-page.new.seat c.page_in_row-page.ensures.same in
    let number = c.args.descent.now.leaf in
    let lent = c.in-Some.ensures.lent in
    let row = c.in-Some.row in
    let out = c.write_leaf-out.result in
    let given = c.write_leaf-out.ensures.published m (ap (λ (x : SeatState). x.0.operation) lent.is ∙ its_operation to c.page_in_row-page.new.seat c.page_in_row-page.ensures.same) refl in
    let does = subst (λ (x : SeatState). PublishesPage number out m x c.write_leaf-out.new.seat.me) lent.is given in
    let back = lent_and_back (write_page number) (span (suc row) (suc row)) me.0.call.pages (takes_out out (takes_in me.0 row lent.rest).stock) m (done m 0) me c.write_leaf-out.new.seat.me c.put_rows_back.new.seat.me row lent.rest refl does c.put_rows_back.ensures.back in
    let one = c.lend.ensures.same in
    let two = c.write_leaf-out.ensures.same in
    let three = c.put_rows_back.ensures.same in
    let room = c.lend.ensures.same_room in
    let then = c.keep_out.ensures.same_room in
    on.after_write_page is (three.0 ∙ (two.0 ∙ one.0), three.1 ∙ (two.1 ∙ one.1)) true number (record (takes_out out (takes_in me.0 row lent.rest).stock) { aside = no_aside }) refl c.keep_out.new.room refl back
    (then.rows ∙ (room.rows ∙ is.room_is.0)) (then.pages ∙ room.pages) (then.latch_number ∙ room.latch_number) c.keep_out.ensures.shelved (c.in-Some.ensures.one_less ∙ ap suc (sym c.keep_out.ensures.same_free)) (λ count has. c.keep_out.ensures.space count (c.lend.ensures.space (suc count) has))

pub write_leaf-out-requires-2-clause-can : goal.write_leaf-out-requires-2-clause-can
write_leaf-out-requires-2-clause-can c = own_leaf c.requires.changes.1 c.page_in_row-page.new.seat c.page_in_row-page.ensures.same c.lend.new.seat c.lend.ensures.same c.lend.new.room _ (c.apply.ensures ∙ ap (λ (p : PlainPage). page_after p c.args.change.now) (c.page_in_row-page.ensures.page c.requires.changes.1.page c.requires.changes.1.version)) c.in_default.ensures.none c.lend.ensures.same_room c.in_default.ensures.none_free

pub overflow_add-room : goal.overflow_add-room
overflow_add-room c =
    let is = (under_way_still c.requires.changes.1 c.page_in_row-page.new.seat c.page_in_row-page.ensures.same) in
    let same : c.lend.new.room.rows.next ≡ c.args.room.now.rows.next = ap (λ (s : Span). s.next) c.lend.ensures.same_room.rows in
    let left = on.rows_left is (on.row_for_page is c.args.descent.now.leaf refl c.in_default.ensures.none_free).0 in
    omega (arith, left, same)

pub keep_out-requires-2-clause-shelved : goal.keep_out-requires-2-clause-shelved
keep_out-requires-2-clause-shelved c =
    let to = c.requires.changes.1 in
    let none = c.in_default.ensures.none in
    let does = c.write_leaf-out-2.ensures.published (writing to) (ap (λ (x : SeatState). x.0.operation) none ∙ its_operation to c.page_in_row-page.new.seat c.page_in_row-page.ensures.same) refl in
    shelved_but c.lend.new.room.shelf c.write_leaf-out-2.result c.lend.new.seat.me.0 c.write_leaf-out-2.new.seat.me.0 (ap (λ (x : SeatState). x.0.plan) does.is) (ap (λ (x : SeatState). x.0.stock) does.is) c.in_default.ensures.shelved

pub keep_out-requires-2-clause-space : goal.keep_out-requires-2-clause-space
keep_out-requires-2-clause-space c = c.lend.ensures.space 1 (on.space_for_page (under_way_still c.requires.changes.1 c.page_in_row-page.new.seat c.page_in_row-page.ensures.same) c.args.descent.now.leaf refl)

pub returns : goal.returns
returns c = λ first to.
    let me : SeatState = c.page_in_row-page.new.seat.me in
    let m = writing to in
    let is = under_way_still to c.page_in_row-page.new.seat c.page_in_row-page.ensures.same in
    let number = c.args.descent.now.leaf in
    let out = c.write_leaf-out-2.result in
    let none = c.in_default.ensures.none in
    let given = c.write_leaf-out-2.ensures.published m (ap (λ (x : SeatState). x.0.operation) none ∙ its_operation to c.page_in_row-page.new.seat c.page_in_row-page.ensures.same) refl in
    let does = subst (λ (x : SeatState). PublishesPage number out m x c.write_leaf-out-2.new.seat.me) none given in
    let one = c.lend.ensures.same in
    let two = c.write_leaf-out-2.ensures.same in
    let room = c.lend.ensures.same_room in
    let then = c.keep_out-2.ensures.same_room in
    on.after_write_page is (two.0 ∙ one.0, two.1 ∙ one.1) false number (takes_out out me.0.stock) refl c.keep_out-2.new.room refl does
    (then.rows ∙ ((λ i. span ((room.rows i).next + 1) (room.rows i).stop) ∙ on.first_row_used is)) (then.pages ∙ room.pages) (then.latch_number ∙ room.latch_number) c.keep_out-2.ensures.shelved c.in_default.ensures.none_free (λ count has. c.keep_out-2.ensures.space count (c.lend.ensures.space (suc count) has))
