use Rattle.std.proofs.Common.{arith}
use Rattle.blink_page.proofs.WhereSearchesEnd.{place_at_most}
use Rattle.blink_page.proofs.search.lines_passed.Goals as goal

pub returns-clause-reached : goal.returns-clause-reached
returns-clause-reached c =
    grind (arith, c.loop-line.invariant, c.loop-line-test.false, place_at_most c.args.key c.args.entries.now)
