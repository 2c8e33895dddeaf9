use Rattle.std.proofs.Common.{arith}
use Rattle.blink_live.proofs.scanned.EntriesAreEdited.{lesser_within}
use Rattle.blink_live.proofs.edit.lines_below.Goals as goal

pub returns-clause-lines : goal.returns-clause-lines
returns-clause-lines c ascends =
    let lines = c.loop-line.invariant.lines ascends in
    let few = c.loop-line.invariant.few in
    grind (arith, lines, few, c.loop-line-test.false, lesser_within c.args.key c.args.entries.now)
