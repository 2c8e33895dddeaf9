use Rattle.std.proofs.Common.{◌≡◌, ℕ, suc, ◌+◌, Option, refl, sym, ap, ◌∙◌, subst, true, false}
use Rattle.blink_machine.specs.{done, write_page}
use Rattle.blink_live.specs.declared.shelf.Shelf.{Shelf}
use Rattle.blink_live.specs.declared.view.Stock.{Stock}
use Rattle.blink_live.specs.ComingBack.{takes_in}
use Rattle.blink_live.specs.Shelves.{HasSpaceFor, IsShelved, free_in}
use Rattle.blink_live.specs.Spares.{HasAny, HasSpareOf, WritesNew, with_spare_on}
use Rattle.blink_live.specs.Views.{IsCommon, SeatState, no_aside, span, with_spare}
use Rattle.blink_live.specs.Words.{AreNumbersIn}
use Rattle.blink_live.specs.Updating.{IsUnderWay}
use Rattle.blink_live.proofs.changed.CallsWrite.{writes_lent, writes_own}
use Rattle.blink_live.proofs.reuse.NumbersAreSpare.{free_beside, shelved_beside, space_beside, spare_of_shelved}
use Rattle.blink_live.proofs.changed.RowsAreLent.{lent_and_back}
use Rattle.blink_live.proofs.changed.UpdatesGoOn as on
use Rattle.blink_live.proofs.live.Live.put_new.Goals as goal

pub write_new-requires : goal.write_new-requires
write_new-requires c =
    let under_way = c.requires.under_way in
    let is : IsUnderWay c.args.self.now under_way.0 under_way.1 c.args.seat.now c.args.machine.now c.args.room.now = under_way.2 in
    let number = on.number_for_new is c.requires.needs in
    let pages = c.lend.ensures.same_room.pages in
    let lent = c.in-Some.ensures.lent in record {
      can = writes_lent c.args.self.now under_way.0 under_way.1 c.args.seat.now c.lend.new.seat c.args.machine.now c.args.room.now c.lend.new.room is c.requires.goes_on c.lend.ensures.same c.in-Some.row lent c.in-Some.ensures.in_range;
      needs = c.requires.needs;
      pages = pages ∙ (is.room_is.1 ∙ sym (ap (λ (x : SeatState). x.0.call.pages) lent.is));
      some = subst HasAny (sym pages) number.0;
      in_range = subst (AreNumbersIn c.args.self.now.counts) (sym pages) number.1;
      spare = subst (λ (x : Option Shelf). HasSpareOf x c.lend.new.seat.me.0) (sym lent.same_shelf) (ap (λ (x : SeatState). x.0.stock.spare) lent.is ∙ ap (λ (x : Stock). x.spare) lent.stock);
    }

pub write_new-requires-2 : goal.write_new-requires-2
write_new-requires-2 c =
    let under_way = c.requires.under_way in
    let is : IsUnderWay c.args.self.now under_way.0 under_way.1 c.args.seat.now c.args.machine.now c.args.room.now = under_way.2 in
    let number = on.number_for_new is c.requires.needs in
    let pages = c.lend.ensures.same_room.pages in record {
      can = writes_own c.args.self.now under_way.0 under_way.1 c.args.seat.now c.lend.new.seat c.args.machine.now c.args.room.now c.lend.new.room is c.requires.goes_on c.lend.ensures.same c.in_default.ensures.none c.lend.ensures.same_room (on.row_for_new is c.requires.needs c.in_default.ensures.none_free);
      needs = c.requires.needs;
      pages = pages ∙ (is.room_is.1 ∙ sym (ap (λ (x : SeatState). x.0.call.pages) c.in_default.ensures.none));
      some = subst HasAny (sym pages) number.0;
      in_range = subst (AreNumbersIn c.args.self.now.counts) (sym pages) number.1;
      spare = spare_of_shelved c.lend.new.room.shelf c.lend.new.seat.me.0 c.in_default.ensures.shelved;
    }

pub returns-in-Some-clause-under_way : goal.returns-in-Some-clause-under_way
returns-in-Some-clause-under_way c op first is =
    let me : SeatState = c.args.seat.now.me in
    let m = c.args.machine.now in
    let lent = c.in-Some.ensures.lent in
    let row = c.in-Some.row in
    let written = c.write_new.ensures.written in
    let number : ℕ = written.0 in
    let new : WritesNew m number (takes_in me.0 row lent.rest, me.1) c.write_new.new.seat.me c.lend.new.room c.write_new.new.room = subst (λ (x : SeatState). WritesNew m number x c.write_new.new.seat.me c.lend.new.room c.write_new.new.room) lent.is written.2 in
    let stock : Stock = with_spare new.spare (takes_in me.0 row lent.rest).stock in
    let last = lent_and_back (write_page number) (span (suc row) (suc row)) new.pages stock m (done m number) me c.write_new.new.seat.me c.put_rows_back.new.seat.me row lent.rest refl new.published c.put_rows_back.ensures.back in
    let one = c.lend.ensures.same in
    let two = c.write_new.ensures.same in
    let three = c.put_rows_back.ensures.same in
    let room = c.lend.ensures.same_room in
    let plan : c.put_rows_back.new.seat.me.0.plan ≡ me.0.plan = ap (λ (x : SeatState). x.0.plan) last.is in
    let same_stock = ap (λ (x : SeatState). x.0.stock) last.is in
    let shelved : IsShelved c.write_new.new.room.shelf c.put_rows_back.new.seat.me.0 = subst (λ (x : Option Shelf). IsShelved x c.put_rows_back.new.seat.me.0) (sym (new.shelf ∙ ap (with_spare_on new.spare) lent.same_shelf))
    (subst IsCommon (sym plan) lent.common, same_stock ∙ ap (with_spare new.spare) lent.stock) in
    on.after_write_new is (three.0 ∙ (two.0 ∙ one.0), three.1 ∙ (two.1 ∙ one.1)) true number new.pages (record stock { aside = no_aside }) _ new.spare_first c.requires.needs written.1 last new.left
    (new.same.0 ∙ (room.rows ∙ is.room_is.0)) new.same_pages (new.same.1 ∙ room.latch_number) shelved (c.in-Some.ensures.one_less ∙ ap suc (sym (ap free_in new.shelf ∙ free_beside new.spare c.lend.new.room.shelf)))
    (λ count has. subst (λ (x : Option Shelf). HasSpaceFor x count) (sym new.shelf) (space_beside new.spare c.lend.new.room.shelf count (c.lend.ensures.space count has)))

pub returns-in-Some-clause-machine : goal.returns-in-Some-clause-machine
returns-in-Some-clause-machine c = let written = c.write_new.ensures.written in (written.0, written.1)

pub returns-clause-under_way : goal.returns-clause-under_way
returns-clause-under_way c op first is =
    let me : SeatState = c.args.seat.now.me in
    let m = c.args.machine.now in
    let none = c.in_default.ensures.none in
    let written = c.write_new-2.ensures.written in
    let number : ℕ = written.0 in
    let new : WritesNew m number me c.write_new-2.new.seat.me c.lend.new.room c.write_new-2.new.room = subst (λ (x : SeatState). WritesNew m number x c.write_new-2.new.seat.me c.lend.new.room c.write_new-2.new.room) none written.2 in
    let one = c.lend.ensures.same in
    let two = c.write_new-2.ensures.same in
    let room = c.lend.ensures.same_room in
    let rows = new.same.0 ∙ room.rows in
    let published = new.published.is in
    let shelved : IsShelved c.write_new-2.new.room.shelf c.write_new-2.new.seat.me.0 = subst (λ (x : Option Shelf). IsShelved x c.write_new-2.new.seat.me.0) (sym new.shelf)
    (shelved_beside new.spare c.lend.new.room.shelf me.0 c.write_new-2.new.seat.me.0 (ap (λ (x : SeatState). x.0.plan) published) (ap (λ (x : SeatState). x.0.stock) published) (subst (λ (x : SeatState). IsShelved c.lend.new.room.shelf x.0) none c.in_default.ensures.shelved)) in
    on.after_write_new is (two.0 ∙ one.0, two.1 ∙ one.1) false number new.pages (with_spare new.spare me.0.stock) _ new.spare_first c.requires.needs written.1 new.published new.left
    ((λ i. span ((rows i).next + 1) (rows i).stop) ∙ on.first_row_used is) new.same_pages (new.same.1 ∙ room.latch_number) shelved c.in_default.ensures.none_free
    (λ count has. subst (λ (x : Option Shelf). HasSpaceFor x count) (sym new.shelf) (space_beside new.spare c.lend.new.room.shelf count (c.lend.ensures.space count has)))

pub returns-clause-machine : goal.returns-clause-machine
returns-clause-machine c = let written = c.write_new-2.ensures.written in (written.0, written.1)
