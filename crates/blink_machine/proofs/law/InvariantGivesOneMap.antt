-- Where the invariant holds, the entries of the tree are one plain map.
use Rattle.std.proofs.Common.{◌+◌, ap, sym, subst, ◌∙◌}
use Rattle.blink_page.specs.declared.limits.TheConstants.{GREATEST_KEY}
use Rattle.blink_rest.specs.{AreEntries, entries_along}
use Rattle.blink_rest.proofs.Offered.{ascending_from, entries_ascend, entries_from-pairs_of, pairs_of-entries_from}
use Rattle.blink_machine.specs.StepLaw.{InvariantGivesOneMap}
use Rattle.blink_machine.specs.TreeMap.{entries_from, pairs_of}
use Rattle.blink_machine.proofs.tree_state.EntriesOfATree.{are_entries, entries_are}

-- the entries of level 0, and no others
pub invariant_gives_one_map : InvariantGivesOneMap
invariant_gives_one_map tree_state invariant =
    let levels = invariant.0 in
    let tree = invariant.1.lawful.tree in
    let pairs = entries_along (levels 0) in
    let kept = are_entries tree_state.fan tree_state.prime tree_state.pages levels tree in
    let rising = entries_ascend tree_state.fan tree_state.prime tree_state.pages pairs kept in
    record {
      entries = entries_from pairs;
      is_map = record {
        ascending = ascending_from 0 pairs (GREATEST_KEY + 1) rising;
        kept = subst (AreEntries tree_state.fan tree_state.prime tree_state.pages) (sym (pairs_of-entries_from pairs)) kept;
      };
      only = λ others is. sym (entries_from-pairs_of others) ∙ ap entries_from (entries_are tree_state.fan tree_state.prime tree_state.pages levels tree (pairs_of others) is.kept);
    }
