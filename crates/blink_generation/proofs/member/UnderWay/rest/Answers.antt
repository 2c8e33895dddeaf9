use Rattle.std.proofs.Common.{◌<◌, ℕ, inr, ◌∙◌, subst, sym, arith}
use Rattle.blink_generation.proofs.MembersComeBack.{its_place, its_seat}
use Rattle.blink_generation.proofs.OperationsRest.{comes_to_rest}
use Rattle.blink_generation.proofs.member.UnderWay.rest.Goals as goal

pub mark_place-requires : goal.mark_place-requires
mark_place-requires c =
    let is = c.requires.at_work in
    let place = its_place is.3.set_out is.2 in record {
      seat = its_seat is.3.set_out;
      place = (is.3.beside.place ∙ place.0, subst (λ (n : ℕ). n < c.args.live.now.places) (sym is.3.beside.place) place.1);
      idle = inr (omega arith);
    }

pub returns-clause-at_rest : goal.returns-clause-at_rest
returns-clause-at_rest c op old its is = record {
  rest = comes_to_rest is.set_out c.mark_place.new.seat c.mark_place.ensures.same c.mark_place.ensures.marked;
  beside = record { rows = is.beside.rows; pages = is.beside.pages; place = is.beside.place };
}
