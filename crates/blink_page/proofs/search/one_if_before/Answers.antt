use Rattle.std.proofs.Common.{arith}
use Rattle.std.proofs.lemmas.Bool.Decides.{nat_tests}
use Rattle.blink_page.proofs.WhereSearchesEnd.{place-at_or_above, place-below}
use Rattle.blink_page.proofs.search.one_if_before.Goals as goal

pub returns-clause-before : goal.returns-clause-before
returns-clause-before c before =
    let reached = place-at_or_above c.args.key (0, 0) c.args.at c.args.entries.now c.requires.inside in
    grind (arith, nat_tests, c.from.ensures, reached, before)

pub returns-clause-not_before : goal.returns-clause-not_before
returns-clause-not_before c reached =
    let before = place-below c.args.key (0, 0) 0 c.args.at c.args.entries.now _ c.requires.rise c.requires.inside in
    grind (arith, nat_tests, c.from.ensures, before, reached)
