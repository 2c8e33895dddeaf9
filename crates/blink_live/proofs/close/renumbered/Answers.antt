use Rattle.std.proofs.Common.{◌≡◌, ap, sym, subst, arith, ◌∙◌}
use Rattle.blink_page.specs.declared.limits.TheConstants.{MAX_FAN}
use Rattle.blink_page.specs.{PlainPage, IsLawfulPage}
use Rattle.blink_live.specs.Renumbered.{entries_anew, link_anew, page_anew}
use Rattle.blink_live.proofs.gathered.RenumberedPageIsLawful.{lawful-page_anew}
use Rattle.blink_live.proofs.gathered.ChildrenAreWritten.{inner_entries, leaf_entries}
use Rattle.blink_live.proofs.close.renumbered.Goals as goal
use Rattle.blink_live.proofs.close.renumbered.Goals.{then-level-gt0, else-level-gt0}

pub invariant_of-result : goal.invariant_of-result
invariant_of-result c =
    let level : c.page.inside.level ≡ c.args.page.level = ap (λ (p : PlainPage). p.level) c.page.view_is in
    let own : c.page.inside.items.items ≡ c.args.page.entries = ap (λ (p : PlainPage). p.entries) c.page.view_is in
    let entries : c.if-level-gt0.items.items ≡ entries_anew c.args.page.level c.args.child c.args.page.entries
    = elim c.if-level-gt0.branch [
      | then-level-gt0 w ↦ inner_entries c.args.page.level c.args.child c.args.page.entries c.page.inside.items.items w.deref_mut.result.now w.renumber.new.entries c.if-level-gt0.items.items
          (omega (arith, w.if-level-gt0.true, level)) own w.deref_mut.ensures.value w.renumber.ensures (λ i. (w.items-is i).items)
      | else-level-gt0 w ↦ leaf_entries c.args.page.level c.args.child c.args.page.entries c.if-level-gt0.items.items (omega (arith, w.if-level-gt0.false, level)) ((λ i. (w.items-is i).items) ∙ own)
    ] in
    let link : c.led_to.result ≡ link_anew c.args.next c.args.page.right
    = c.led_to.ensures ∙ ap (λ (p : PlainPage). link_anew c.args.next p.right) c.page.view_is in
    let page : PlainPage = record { level = c.page.inside.level; floor = c.page.inside.floor; high = c.page.inside.high; right = c.led_to.result; entries = c.if-level-gt0.items.items } in
    let same : page ≡ page_anew c.args.next c.args.child c.args.page = λ i. record {
      level = (c.page.view_is i).level;
      floor = (c.page.view_is i).floor;
      high = (c.page.view_is i).high;
      right = link i;
      entries = entries i;
    } in
    let lawful = subst (IsLawfulPage MAX_FAN) c.page.view_is c.page.invariant in
    subst (IsLawfulPage MAX_FAN) (sym same) (lawful-page_anew MAX_FAN c.args.next c.args.child c.args.page lawful c.requires.next c.requires.first_child c.requires.room_for_children)
