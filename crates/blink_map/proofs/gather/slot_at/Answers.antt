use Rattle.std.proofs.Common.{◌≡◌, ◌-◌, suc, sym, ◌∙◌, arith}
use Rattle.blink_map.proofs.NoChangeMore.{behind_above, behind_below}
use Rattle.blink_map.proofs.gather.slot_at.Goals as goal

pub returns-then-level-copier : goal.returns-then-level-copier
returns-then-level-copier c =
    let test = c.if-level-copier.true in
    let behind = c.requires.behind in
    sym (behind_below c.args.copier (c.args.level - 1) (omega (arith, test, behind)))

pub returns-else-level-copier : goal.returns-else-level-copier
returns-else-level-copier c =
    let test = c.if-level-copier.false in
    let behind = c.requires.behind in
    let next : c.args.level ≡ suc (c.args.level - 1) = omega (arith, behind) in
    next ∙ sym (behind_above c.args.copier (c.args.level - 1) (omega (arith, test, behind)))
