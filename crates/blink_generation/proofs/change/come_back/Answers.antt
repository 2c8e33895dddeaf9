use Rattle.std.proofs.Common.{inl, sym, ap, ◌∙◌}
use Rattle.blink_live.specs.{SeatState}
use Rattle.blink_generation.proofs.change.come_back.Goals as goal

pub mark_place-requires : goal.mark_place-requires
mark_place-requires c =
    let back = c.give_back.ensures.back in record {
      seat = record {
        same_table = c.give_back.ensures.same.0 ∙ c.requires.seat.same_table;
        same_plan = ap (λ (x : SeatState). x.0.plan) back ∙ c.requires.seat.same_plan;
        role = ap (λ (x : SeatState). x.0.role) back ∙ c.requires.seat.role;
      };
      place = (c.requires.place.0 ∙ ap (λ (x : SeatState). x.0.place) (sym back), c.requires.place.1);
      idle = inl (ap (λ (x : SeatState). x.0.operation) back ∙ c.requires.ended);
    }
