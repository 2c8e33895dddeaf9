use Rattle.std.proofs.Common.{sym, subst}
use Rattle.blink_map.specs.Renewing.{IsRenewing}
use Rattle.blink_map.proofs.Gathers.{begun}
use Rattle.blink_map.proofs.growing.GrowingMap.begin.Goals as goal

pub returns-clause-renewing : goal.returns-clause-renewing
returns-clause-renewing c =
    let map = c.args.self.now in
    let seat = c.enter-seat.ensures in
    subst (IsRenewing map c.take_patiently.new.seat c.args.copier c.in-Some.lead) (sym c.in-Ok.ensures.items)
    (begun map c.enter-seat.result c.take_patiently.new.seat c.args.copier c.in-Some.lead seat.its_own c.in-Some.ensures.same seat.first seat.slots seat.no_account seat.none_taken.0 seat.none_out c.requires.in_range c.in-Some.ensures.taken)
