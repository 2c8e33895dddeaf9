use Rattle.std.proofs.Common.{◌≡◌, ◌+◌, ◌-◌, ◌<◌, ◌++◌, ℕ, List, ap, sym, ◌∙◌, arith}
use Rattle.std.specs.Mem.Slots.{slots_items}
use Rattle.blink_machine.specs.{entries_from}
use Rattle.blink_page.specs.{PlainPage, least_above}
use Rattle.blink_page.specs.declared.limits.TheConstants.{GREATEST_KEY}
use Rattle.blink_live.proofs.gathered.LeavesAreRead.{found_leaf, leaf_to_come, left_none, left_on}
use Rattle.blink_live.proofs.leaves.entries_along.Goals as goal

pub page_at-leaf-requires-clause-kept : goal.page_at-leaf-requires-clause-kept
page_at-leaf-requires-clause-kept c =
    let leaves = c.requires.leaves in
    let left = c.loop-next.invariant.left leaves.0 leaves.1 in
    leaf_to_come c.args.counts.now (slots_items c.args.closed.now.words) c.loop-next.next.0 c.loop-next.next.1 c.in-Some.number left.rest c.in-Some.is left.to_come

pub loop-next-smaller : goal.loop-next-smaller
loop-next-smaller c =
    let page = c.page_at-leaf.result in
    let leaves = c.requires.leaves in
    let left = c.loop-next.invariant.left leaves.0 leaves.1 in
    let found = found_leaf c.args.counts.now (slots_items c.args.closed.now.words) c.loop-next.next.0 c.loop-next.next.1 c.in-Some.number left.rest page c.in-Some.is left.to_come c.page_at-leaf.ensures in
    let high : page.high ≡ c.leaf.inside.high = ap (λ (p : PlainPage). p.high) (sym c.leaf.view_is) in
    let rises = found.rises in
    let in_range = found.in_range in
    let smaller : GREATEST_KEY + 1 - (c.leaf.inside.high + 1) < GREATEST_KEY + 1 - least_above c.loop-next.next.0 = omega (arith, rises, in_range, high) in
    smaller

pub loop-next-preserved : goal.loop-next-preserved
loop-next-preserved c =
    let page = c.page_at-leaf.result in
    let before = c.loop-next.entries.items in
    let same : c.deref.result.now ≡ page.entries = c.deref.ensures.0 ∙ ap (λ (p : PlainPage). p.entries) c.leaf.view_is in
    let high : page.high ≡ c.leaf.inside.high = ap (λ (p : PlainPage). p.high) (sym c.leaf.view_is) in
    let right : page.right ≡ c.leaf.inside.right = ap (λ (p : PlainPage). p.right) (sym c.leaf.view_is) in
    let added : before ++ entries_from page.entries ≡ c.add_entries.new.entries.items
    = ap (λ (pairs : List (ℕ × ℕ)). before ++ entries_from pairs) (sym same) ∙ sym c.in_ok-add_entries.ensures in
    record {
      left = λ cells are.
          let on = left_on c.args.counts.now (slots_items c.args.closed.now.words) c.loop-next.next.0 c.loop-next.next.1 c.in-Some.number before _ page c.in-Some.is c.page_at-leaf.ensures
          (c.loop-next.invariant.left cells are) in
          rw (← high, ← right, ← added) on;
    }

pub returns : goal.returns
returns c = λ cells are.
    left_none c.args.counts.now (slots_items c.args.closed.now.words) c.loop-next.next.0 c.loop-next.next.1 c.loop-next.entries.items _ c.in_default.is (c.loop-next.invariant.left cells are)
