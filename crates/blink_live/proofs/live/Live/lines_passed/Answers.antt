use Rattle.std.proofs.Common.{arith}
use Rattle.blink_page.proofs.Offered.{place_at_most}
use Rattle.blink_live.proofs.live.Live.lines_passed.Goals as goal

pub returns-clause-lines : goal.returns-clause-lines
returns-clause-lines c row page begins reads many =
    let lines = c.loop-line.invariant.lines row page begins reads many in
    let few = c.loop-line.invariant.few in
    grind (arith, lines, few, many, c.loop-line-test.false, place_at_most c.args.key page.entries)
