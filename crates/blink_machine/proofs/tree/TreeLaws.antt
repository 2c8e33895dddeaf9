-- The laws of trees, each proved.
use Rattle.blink_machine.proofs.tree.TreeStatements.{TreeLaws}
use Rattle.blink_machine.proofs.tree.PagesOfLevels.{cells_are_of_level, numbers_differ, levels_are_named, leftmost_begins, only_is_leftmost, right_begins, level_keeps, top_debt_has_two}
use Rattle.blink_machine.proofs.tree.ChildrenBegin.{separators_are_high_keys, children_begin}
use Rattle.blink_machine.proofs.tree.KeysAreReached.{keys_are_reached}
use Rattle.blink_machine.proofs.tree.RestIsQuiet.{rest_is_quiet}
use Rattle.blink_machine.proofs.tree.QuietIsRest.{quiet_is_rest}
use Rattle.blink_machine.proofs.tree.FewLevels.{few_levels}
use Rattle.blink_machine.proofs.tree.FreeWriteKeepsTree.{free_write_keeps}
use Rattle.blink_machine.proofs.tree.LeafChanges.{leaf_gain_keeps, leaf_loss_keeps, leaf_exchange_keeps}
use Rattle.blink_machine.proofs.tree.PostingChanges.{posting_keeps}
use Rattle.blink_machine.proofs.tree.SplitChanges.{leaf_split_keeps, inner_split_keeps}
use Rattle.blink_machine.proofs.tree.GrowthChanges.{growth_keeps}

pub tree_laws : TreeLaws
tree_laws = record {
  cells_are_of_level = cells_are_of_level;
  numbers_differ = numbers_differ;
  levels_are_named = levels_are_named;
  leftmost_begins = leftmost_begins;
  only_is_leftmost = only_is_leftmost;
  right_begins = right_begins;
  children_begin = children_begin;
  level_keeps = level_keeps;
  separators_are_high_keys = separators_are_high_keys;
  top_debt_has_two = top_debt_has_two;
  few_levels = few_levels;
  keys_are_reached = keys_are_reached;
  rest_is_quiet = rest_is_quiet;
  quiet_is_rest = quiet_is_rest;
  free_write_keeps = free_write_keeps;
  leaf_gain_keeps = leaf_gain_keeps;
  leaf_loss_keeps = leaf_loss_keeps;
  leaf_exchange_keeps = leaf_exchange_keeps;
  posting_keeps = posting_keeps;
  leaf_split_keeps = leaf_split_keeps;
  inner_split_keeps = inner_split_keeps;
  growth_keeps = growth_keeps few_levels;
}
