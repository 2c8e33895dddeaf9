use Rattle.std.proofs.Common.{◌≡◌, ◌-◌, ◌∙◌, Some, length, ap, subst, sym, arith}
use Rattle.blink_page.specs.{IsLawfulPage, PlainPage, last_key}
use Rattle.blink_page.specs.declared.limits.TheConstants.{MAX_FAN}
use Rattle.blink_entries.proofs.packed.LeavesGrow.{last_key-there, lawful_closed}
use Rattle.blink_entries.proofs.pack.close.Goals as goal

pub returns-clause-key : goal.returns-clause-key
returns-clause-key c =
    let own : c.deref.result.now ≡ c.args.leaf.now.entries = c.deref.ensures.0 ∙ ap (λ (p : PlainPage). p.entries) c.leaf.view_is in
    let some = c.requires.some in
    let long = ap length own in
    let many = ap (λ (p : PlainPage). length p.entries) c.leaf.view_is in
    let count = c.len.ensures.value in
    last_key-there 0 (0, 0) (c.len.result - 1) c.deref.result.now (omega (arith, some, long, many, count)) ∙ ap last_key own

pub returns-clause-closed : goal.returns-clause-closed
returns-clause-closed c = λ i. record {
  level = (c.leaf.view_is i).level;
  floor = (c.leaf.view_is i).floor;
  high = returns-clause-key c i;
  right = Some c.args.next;
  entries = (c.leaf.view_is i).entries;
}

pub invariant_of-leaf : goal.invariant_of-leaf
invariant_of-leaf c =
    let lawful = subst (IsLawfulPage MAX_FAN) c.leaf.view_is c.leaf.invariant in
    subst (IsLawfulPage MAX_FAN) (sym (returns-clause-closed c))
    (lawful_closed MAX_FAN c.args.leaf.now c.args.next lawful c.requires.leaf c.requires.some c.requires.not_last c.requires.next)
