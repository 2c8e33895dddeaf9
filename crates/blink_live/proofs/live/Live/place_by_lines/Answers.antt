use Rattle.std.proofs.Common.{◌-◌, ◌≤◌, ◌∙◌, arith}
use Rattle.blink_page.proofs.Offered.{place_at_most}
use Rattle.blink_live.proofs.found.VersionsAreRead.{page_still}
use Rattle.blink_live.proofs.live.Live.place_by_lines.Goals as goal

pub returns-clause-place : goal.returns-clause-place
returns-clause-place c row page begins reads many =
    let lines = c.lines_passed.ensures.lines row page begins reads many in
    let first : c.min-first.result ≤ c.args.count - 4 = grind (arith, c.min-first.ensures) in
    let line = c.requires.line in
    let passed = c.lines_passed.ensures.same.2 in
    let one_same = c.one_if_below.ensures.same.2 ∙ passed in
    let two_same = c.one_if_below-2.ensures.same.2 ∙ one_same in
    let three_same = c.one_if_below-3.ensures.same.2 ∙ two_same in
    let one = c.one_if_below.ensures.one row page begins (page_still passed reads) (omega (arith, first, line, many)) in
    let two = c.one_if_below-2.ensures.one row page begins (page_still one_same reads) (omega (arith, first, line, many)) in
    let three = c.one_if_below-3.ensures.one row page begins (page_still two_same reads) (omega (arith, first, line, many)) in
    let four = c.one_if_below-4.ensures.one row page begins (page_still three_same reads) (omega (arith, first, line, many)) in
    grind (arith, place_at_most c.args.key page.entries, lines, many, line, c.min-first.ensures, one, two, three, four)
