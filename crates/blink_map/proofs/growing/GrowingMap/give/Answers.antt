use Rattle.std.proofs.Common.{ℕ, Option, List, refl, ap, ◌∙◌, subst, sym}
use Rattle.atomic_table.specs.Table.{rest}
use Rattle.blink_map.specs.declared.slots.Current.{Current}
use Rattle.blink_map.specs.Rule.{SlotSeat}
use Rattle.blink_map.specs.Steps.{CanGive, given}
use Rattle.blink_map.specs.Taking.{CanGiveBack}
use Rattle.blink_map.proofs.growing.GrowingMap.give.Goals as goal

pub give_back-requires-clause-can : goal.give_back-requires-clause-can
give_back-requires-clause-can c =
    let slot = c.args.slot in
    let me = c.args.seat.now.me in
    let can = c.requires.can in
    subst (CanGiveBack slot) (sym c.exchange.ensures.3) record { held = c.args.held; there = refl; can = subst (λ (l : List (ℕ × Option Current)). CanGive slot (me.0, l) c.args.held) can.out can }

pub returns-clause-given : goal.returns-clause-given
returns-clause-given c = c.give_back.ensures.back ∙ ap (λ (m : SlotSeat). let then : SlotSeat = (given m.0 m.1, rest m.1) in then) c.exchange.ensures.3
