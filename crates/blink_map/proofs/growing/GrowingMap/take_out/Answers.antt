use Rattle.std.proofs.Common.{Some, sym, ap, ◌∙◌}
use Rattle.atomic_table.specs.Table.{rest}
use Rattle.blink_map.specs.Rule.{SlotSeat}
use Rattle.blink_map.proofs.OutSlots.{first_is_full, head_rest, taken_out}
use Rattle.blink_map.proofs.growing.GrowingMap.take_out.Goals as goal

pub exchange-requires : goal.exchange-requires
exchange-requires c =
    let taken = c.requires.taken in
    let held = taken.1.0 in
    (c.requires.its_own, (Some held, head_rest c.args.slot (Some held) c.args.seat.now.me.1 taken.0.1 (ap (λ (m : SlotSeat). m.1) taken.1.1.is)))

pub returns-clause-taken : goal.returns-clause-taken
returns-clause-taken c me taken =
    taken_out c.args.slot taken.0 c.in-Some.held c.exchange.result me c.args.seat.now.me c.exchange.new.seat.me taken.1 c.exchange.ensures.2 c.in-Some.is c.exchange.ensures.3

pub unreachable-requires : goal.unreachable-requires
unreachable-requires c =
    let taken = c.requires.taken in
    first_is_full c.args.slot taken.1.0 c.exchange.result taken.0.1 (rest c.args.seat.now.me.1) (sym (ap (λ (m : SlotSeat). m.1) taken.1.1.is) ∙ c.exchange.ensures.2) c.in-None.is
