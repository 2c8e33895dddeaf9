-- A leaf is split, or an inner page.
use Rattle.std.proofs.Common.{◌≡◌, ◌+◌, ◌<◌, ap, ◌∙◌, arith}
use Rattle.blink_page.specs.{posted, IsPageNumber}
use Rattle.blink_page.proofs.Offered.{entries_with-leaf, entries_with-inner}
use Rattle.blink_rest.specs.{entries_along}
use Rattle.blink_machine.proofs.tree.TreeStatements.{LeafSplitKeeps}
use Rattle.blink_machine.proofs.tree.TreeStatements.{InnerSplitKeeps}
use Rattle.blink_machine.proofs.tree.WherePagesStand.{stands_so}
use Rattle.blink_machine.proofs.tree.PageGivesWay.{levels_after-same}
use Rattle.blink_machine.proofs.tree.EntriesAcross.{added_across}
use Rattle.blink_machine.proofs.tree.PostingChanges.{posted_refers, gains_separator, leaves_same}
use Rattle.blink_machine.proofs.tree.SplitLevel.{halves, levels_split, entries_of_halves, is_split}

-- the halves of a leaf have its entries, and the new one
pub leaf_split_keeps : LeafSplitKeeps
leaf_split_keeps fan prime pages after levels c entry number tree split =
    let here = stands_so fan prime pages levels tree 0 c split.stands in
    let level = here.has_level in
    let leads : 0 < c.page.level → IsPageNumber entry.1 = λ inner. absurd (omega arith) in
    let parts = halves fan prime pages after levels 0 c entry number tree here split leads in
    record {
      new = levels_split fan prime pages after levels 0 c entry number tree here split leads;
      split = is_split fan prime pages after levels 0 c entry number tree here split leads (λ below never. absurd (omega arith));
      entries = ap entries_along (levels_after-same here parts)
          ∙ added_across fan prime pages levels 0 c here parts entry.0 split.belongs entry.1
          (entries_of_halves fan prime pages after levels 0 c entry number tree here split leads ∙ entries_with-leaf c.page entry level);
    }

-- so does an inner page that is split, with the posted separator
pub inner_split_keeps : InnerSplitKeeps
inner_split_keeps fan prime pages after levels level c entry number tree split leads_below is_number =
    let here = stands_so fan prime pages levels tree (level + 1) c split.stands in
    let own_level = here.has_level in
    let inner : 0 < c.page.level = omega arith in
    let leads : 0 < c.page.level → IsPageNumber entry.1 = λ above. is_number in
    let parts = halves fan prime pages after levels (level + 1) c entry number tree here split leads in
    let own : entries_along parts ≡ posted entry c.page.entries = entries_of_halves fan prime pages after levels (level + 1) c entry number tree here split leads ∙ entries_with-inner c.page entry inner in
    record {
      new = levels_split fan prime pages after levels (level + 1) c entry number tree here split leads;
      split = is_split fan prime pages after levels (level + 1) c entry number tree here split leads
          (posted_refers fan prime pages levels level c tree here parts entry.0 entry.1 split.belongs own leads_below.is_high_key leads_below.begins);
      separators = gains_separator fan prime pages levels level c tree here parts entry.0 entry.1 split.belongs own;
      same_entries = leaves_same fan prime pages levels level c tree here parts entry.0 entry.1 split.belongs own;
    }
