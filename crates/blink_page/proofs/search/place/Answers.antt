use Rattle.std.proofs.Common.{arith}
use Rattle.blink_page.proofs.WhereSearchesEnd.{place_at_most}
use Rattle.blink_page.proofs.search.place.Goals as goal

pub overflow_mul-lines_passed : goal.overflow_mul-lines_passed
overflow_mul-lines_passed c = omega (arith, c.lines_passed.ensures.passed, place_at_most c.args.key c.args.entries.now)

pub returns-clause-place : goal.returns-clause-place
returns-clause-place c =
    let most = place_at_most c.args.key c.args.entries.now in
    grind (arith, most, c.lines_passed.ensures, c.min-first.ensures, c.one_if_before.ensures, c.one_if_before-2.ensures, c.one_if_before-3.ensures, c.one_if_before-4.ensures)
