use Rattle.std.proofs.Common.{◌≡◌, ℕ, suc, ◌+◌, refl, ap, ◌∙◌, subst, arith}
use Rattle.blink_rows.specs.declared.span.Span.{Span}
use Rattle.blink_machine.specs.{done, write_page}
use Rattle.blink_live.specs.AtomicSteps.{PublishesNew}
use Rattle.blink_live.specs.Spares.{with_spare_on}
use Rattle.blink_live.specs.Views.{SeatState, span}
use Rattle.blink_live.proofs.reuse.NumbersAreSpare.{exchanged_and_back, none_spare, spare_same, spare_twice, writes_exchanged}
use Rattle.blink_live.proofs.live.Live.write_new.Goals as goal

pub write_numbered-requires-clause-can : goal.write_numbered-requires-clause-can
write_numbered-requires-clause-can c = writes_exchanged c.args.self.now c.args.machine.now c.args.row c.args.seat.now c.exchange_spare.new.seat c.exchange_spare.ensures.same c.exchange_spare.ensures.exchanged.is c.requires.can

-- one of the spare numbers is used
pub returns-then-has_spare-clause-written : goal.returns-then-has_spare-clause-written
returns-then-has_spare-clause-written c =
    let me : SeatState = c.args.seat.now.me in
    let m = c.args.machine.now in
    let one = c.exchange_spare.ensures.exchanged in
    let two = c.exchange_spare-then-has_spare.ensures.exchanged in
    let number : ℕ = me.0.stock.spare.next in
    let at : c.exchange_spare.new.room.pages.next ≡ number = ap (λ (s : Span). s.next) one.pages in
    let left : Span = span (suc number) me.0.stock.spare.stop in
    let rows : Span = span (suc me.0.call.rows.next) me.0.call.rows.stop in
    let does = subst (λ (x : SeatState). PublishesNew m x c.write_numbered.new.seat.me) one.is c.write_numbered.ensures.published in
    let some = one.some in (
      number,
      c.write_numbered.ensures.machine ∙ ap (done m) at,
      record {
        pages = me.0.call.pages;
        spare = left;
        published = exchanged_and_back (write_page number) rows left m (done m number) me c.write_numbered.new.seat.me c.exchange_spare-then-has_spare.new.seat.me does two.is;
        one_less = omega (arith, some);
        spare_first = λ common more. (refl, some);
        left = (refl, omega arith, omega arith);
        same_pages = two.pages ∙ ap (λ (x : SeatState). x.0.stock.spare) does.is;
        shelf = two.shelf ∙ (ap (λ (x : SeatState). with_spare_on x.0.call.pages c.exchange_spare.new.room.shelf) does.is ∙ (ap (with_spare_on left) one.shelf ∙ spare_twice me.0.call.pages left c.args.room.now.shelf));
        same = (two.same.0 ∙ one.same.0, two.same.1 ∙ one.same.1);
      },
    )

-- or none is spare
pub returns-clause-written : goal.returns-clause-written
returns-clause-written c =
    let me : SeatState = c.args.seat.now.me in
    let m = c.args.machine.now in
    let number : ℕ = me.0.call.pages.next in
    let pages = c.requires.pages in
    let at : c.args.room.now.pages.next ≡ number = ap (λ (s : Span). s.next) pages in
    let stop = ap (λ (s : Span). s.stop) pages in
    let some = c.requires.some in
    let next : c.args.room.now.pages.next + 1 ≡ suc number = omega (arith, at) in (
      number,
      c.write_numbered-2.ensures.machine ∙ ap (done m) at,
      record {
        pages = span (suc number) me.0.call.pages.stop;
        spare = me.0.stock.spare;
        published = c.write_numbered-2.ensures.published;
        one_less = omega (arith, some, at, stop);
        spare_first = λ common more. absurd (none_spare c.args.room.now.shelf me.0 c.requires.spare (λ there. let told = c.if-has_spare.ensures.1 there in absurd (cc)) common more);
        left = (refl, omega arith, omega arith);
        same_pages = λ i. span (next i) (stop i);
        shelf = spare_same c.args.room.now.shelf me.0 c.requires.spare;
        same = (refl, refl);
      },
    )
