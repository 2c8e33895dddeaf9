use Rattle.std.proofs.Common.{ap, arith}
use Rattle.atomic_table.specs.Seated.{TableId}
use Rattle.blink_map.proofs.Gathers.{can_give_first}
use Rattle.blink_map.proofs.growing.GrowingMap.give_all.Goals as goal

pub give-requires-clause-in_range : goal.give-requires-clause-in_range
give-requires-clause-in_range c =
    let r = c.give_others.ensures.renewing in
    let inside = r.in_range in
    let same = ap (λ (t : TableId). t.slots) r.same_table in
    omega (arith, inside, same)

pub give-requires-clause-can : goal.give-requires-clause-can
give-requires-clause-can c = can_give_first c.args.self.now c.give_others.new.seat c.args.copier c.args.lead c.give_others.ensures.renewing
