use Rattle.std.proofs.Common.{◌≡◌, take, drop, true, ◌∙◌, ap, subst, sym}
use Rattle.blink_rows.specs.Row.{AreZero}
use Rattle.blink_rows.proofs.RowsOfContent.{all_behind_head}
use Rattle.blink_rows.proofs.words.content.Goals as goal

pub returns-then-are_zero-clause-found : goal.returns-then-are_zero-clause-found
returns-then-are_zero-clause-found c = c.split_at.ensures.front ∙ ap (take c.args.count) (all_behind_head c.args.words.now c.told-words)

pub returns-then-are_zero-clause-rest : goal.returns-then-are_zero-clause-rest
returns-then-are_zero-clause-rest c =
    let back = c.split_at.ensures.back ∙ ap (drop c.args.count) (all_behind_head c.args.words.now c.told-words) in
    subst AreZero back (c.are_zero.ensures.0 c.if-are_zero.true)

pub returns-else-are_zero-clause-none : goal.returns-else-are_zero-clause-none
returns-else-are_zero-clause-none c =
    let back = c.split_at.ensures.back ∙ ap (drop c.args.count) (all_behind_head c.args.words.now c.told-words) in
    λ zero.
    let yes : c.are_zero.result ≡ true = c.are_zero.ensures.1 (subst AreZero (sym back) zero) in
    cc
