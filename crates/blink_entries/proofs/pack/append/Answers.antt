use Rattle.std.proofs.Common.{◌≡◌, ◌≤◌, ◌++◌, [], ◌∷◌, ap, subst, sym, ◌∙◌, arith}
use Rattle.blink_page.specs.{IsLawfulPage, PlainPage, with_entries}
use Rattle.blink_page.specs.declared.limits.TheConstants.{GREATEST_KEY, MAX_FAN}
use Rattle.blink_entries.proofs.packed.LeavesGrow.{lawful_appended}
use Rattle.blink_entries.proofs.pack.append.Goals as goal

pub invariant_of-leaf : goal.invariant_of-leaf
invariant_of-leaf c =
    let lawful = subst (IsLawfulPage MAX_FAN) c.leaf.view_is c.leaf.invariant in
    let fits : c.args.pointer ≤ GREATEST_KEY = let range = c.ranges.pointer.fits in omega (arith, range) in
    let items : c.push.new.self.items ≡ c.args.leaf.now.entries ++ (c.args.key, c.args.pointer) ∷ []
    = c.push.ensures.items ∙ ap (λ (p : PlainPage). p.entries ++ (c.args.key, c.args.pointer) ∷ []) c.leaf.view_is in
    let same : record { level = c.leaf.inside.level; floor = c.leaf.inside.floor; high = c.leaf.inside.high; right = c.leaf.inside.right; entries = c.push.new.self.items }
    ≡ with_entries c.args.leaf.now (c.args.leaf.now.entries ++ (c.args.key, c.args.pointer) ∷ []) = λ i. record {
      level = (c.leaf.view_is i).level;
      floor = (c.leaf.view_is i).floor;
      high = (c.leaf.view_is i).high;
      right = (c.leaf.view_is i).right;
      entries = items i;
    } in
    subst (IsLawfulPage MAX_FAN) (sym same)
    (lawful_appended MAX_FAN MAX_FAN c.args.leaf.now c.args.key c.args.pointer lawful c.requires.leaf c.requires.above c.requires.below_high fits c.requires.room)
