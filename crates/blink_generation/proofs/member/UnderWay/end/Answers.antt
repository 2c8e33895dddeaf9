use Rattle.std.proofs.Common.{◌<◌, ◌≤◌, ℕ, sym, ap, subst, ◌∙◌}
use Rattle.blink_rows.specs.declared.span.Span.{Span}
use Rattle.blink_live.specs.{SeatState, span}
use Rattle.blink_generation.proofs.MembersComeBack.{gives, has_changed, is_idle_again, its_end, its_place, its_seat}
use Rattle.blink_generation.proofs.member.UnderWay.end.Goals as goal

pub come_back-requires : goal.come_back-requires
come_back-requires c =
    let work = c.requires.ended in
    let came = work.4 in
    let out = came.1 in
    let place = its_place out work.3 in record {
      seat = its_seat out;
      can = gives out;
      ended = (its_end out work.2 came.2 came.3).idle;
      place = (work.5.place ∙ place.0, subst (λ (n : ℕ). n < c.args.live.now.places) (sym work.5.place) place.1);
    }

pub invariant_of-result : goal.invariant_of-result
invariant_of-result c =
    let work = c.requires.ended in
    let came = work.4 in
    let out = came.1 in
    let again = is_idle_again out work.2 c.come_back.new.seat (its_end out work.2 came.2 came.3) c.come_back.ensures.idle in record {
      rows_are = ap (λ (s : Span). span c.args.self.room.rows.next s.stop) work.5.rows ∙ again.rows_are;
      pages_are = ap (λ (s : Span). span c.args.self.room.pages.next s.stop) work.5.pages ∙ again.pages_are;
      place_is = (work.5.place ∙ again.place_is.0, subst (λ (n : ℕ). n < c.come_back.new.seat.me.0.plan.places) (sym work.5.place) again.place_is.1);
      in_order = (subst (λ (s : Span). c.args.self.room.rows.next ≤ s.stop) (sym work.5.rows) again.in_order.0, subst (λ (s : Span). c.args.self.room.pages.next ≤ s.stop) (sym work.5.pages) again.in_order.1);
      role_is = again.role_is;
      common = again.common;
      no_key = again.no_key;
      none_told = again.none_told;
      idle = again.idle;
      rests = ap (λ (x : SeatState). x.0.busy) c.come_back.ensures.idle;
      authors = c.come_back.ensures.authors;
      no_slot = again.no_slot;
      shelved = again.shelved;
    }

pub returns : goal.returns
returns c op old answer its came beside =
    has_changed came.1 answer _ its (its_end came.1 answer came.2 came.3) c.come_back.ensures.same c.come_back.ensures.idle (ap (λ (s : Span). span c.args.self.room.rows.next s.stop) beside.rows) (ap (λ (s : Span). span c.args.self.room.pages.next s.stop) beside.pages)
