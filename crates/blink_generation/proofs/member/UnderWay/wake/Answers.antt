use Rattle.std.proofs.Common.{◌<◌, ℕ, inr, ◌∙◌, subst, sym, arith}
use Rattle.blink_generation.proofs.OperationsRest.{goes_on_from_rest, place_at_rest, seat_at_rest}
use Rattle.blink_generation.proofs.member.UnderWay.wake.Goals as goal

pub mark_place-requires : goal.mark_place-requires
mark_place-requires c =
    let is = c.requires.at_rest in
    let place = place_at_rest is.3.rest is.2 in record {
      seat = seat_at_rest is.3.rest;
      place = (is.3.beside.place ∙ place.0, subst (λ (n : ℕ). n < c.args.live.now.places) (sym is.3.beside.place) place.1);
      idle = inr (let works = c.next_mark.ensures.works in omega (arith, works));
    }

pub returns-clause-at_work : goal.returns-clause-at_work
returns-clause-at_work c op old its is = record {
  set_out = goes_on_from_rest is.rest c.next_mark.result c.next_mark.ensures.works c.mark_place.new.seat c.mark_place.ensures.same c.mark_place.ensures.marked;
  beside = record { rows = is.beside.rows; pages = is.beside.pages; place = is.beside.place };
}
