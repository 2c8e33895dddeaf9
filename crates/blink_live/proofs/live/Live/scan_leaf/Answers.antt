use Rattle.std.proofs.Common.{sym, subst}
use Rattle.blink_live.specs.Scanning.{HasScanned, stop_of}
use Rattle.blink_live.specs.Views.{SeatState}
use Rattle.blink_live.proofs.scanned.ReportsGoOn.{scanned_leaf}
use Rattle.blink_live.proofs.live.Live.scan_leaf.Goals as goal

pub returns-clause-scanned : goal.returns-clause-scanned
returns-clause-scanned c =
    let come = c.come_along-word.ensures in
    let at_leaf : SeatState = c.come_along-word.new.seat.me in
    let copied = c.copy_leaf.ensures.copied in (
      copied.0,
      copied.1,
      copied.2,
      subst (HasScanned c.args.from (stop_of c.args.hi c.copy_leaf.result.next) copied.0 c.args.seat.now.me) (sym c.copy_leaf.ensures.same.2)
          (scanned_leaf c.args.from (stop_of c.args.hi c.copy_leaf.result.next) copied.0 c.args.seat.now.me at_leaf come.searched copied.3),
    )
