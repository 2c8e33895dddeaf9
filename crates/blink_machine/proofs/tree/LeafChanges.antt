-- An entry is added to a leaf, or removed from one, or its value is replaced.
use Rattle.std.proofs.Common.{◌≢◌, ◌+◌, List, [], ◌∷◌, ap, ◌∙◌, arith, append-nil}
use Rattle.blink_rest.specs.Chain.{Cell}
use Rattle.blink_rest.specs.{entries_along}
use Rattle.blink_machine.proofs.tree.TreeStatements.{LeafGainKeeps, LeafLossKeeps, LeafExchangeKeeps}
use Rattle.blink_machine.proofs.tree.WherePagesStand.{stands_so}
use Rattle.blink_machine.proofs.tree.PageGivesWay.{levels_after, levels_after-same, levels_after-other}
use Rattle.blink_machine.proofs.tree.EntriesAcross.{added_across, removed_across, replaced_across}
use Rattle.blink_machine.proofs.tree.PageReplaced.{is_replaced}

-- one more entry in a leaf is one more in its level
pub leaf_gain_keeps : LeafGainKeeps
leaf_gain_keeps fan prime pages after levels c page entry tree stands writes replaces belongs absent entries =
    let here = stands_so fan prime pages levels tree 0 c stands in
    let now : List Cell = record { number = c.number; page = page } ∷ [] in
    record {
      new = levels_after here now;
      replaced = is_replaced fan prime pages after levels 0 c page tree here writes replaces (λ below never. absurd (omega arith));
      same_above = λ level. (let apart : level + 1 ≢ 0 = omega arith in ap entries_along (levels_after-other here now (level + 1) apart));
      entries = ap entries_along (levels_after-same here now)
          ∙ added_across fan prime pages levels 0 c here now entry.0 belongs entry.1 (append-nil page.entries ∙ entries);
    }

-- one entry less in a leaf is one less in its level
pub leaf_loss_keeps : LeafLossKeeps
leaf_loss_keeps fan prime pages after levels c page key pointer tree stands writes replaces belongs found entries =
    let here = stands_so fan prime pages levels tree 0 c stands in
    let now : List Cell = record { number = c.number; page = page } ∷ [] in
    record {
      new = levels_after here now;
      replaced = is_replaced fan prime pages after levels 0 c page tree here writes replaces (λ below never. absurd (omega arith));
      same_above = λ level. (let apart : level + 1 ≢ 0 = omega arith in ap entries_along (levels_after-other here now (level + 1) apart));
      entries = ap entries_along (levels_after-same here now)
          ∙ removed_across fan prime pages levels 0 c here now key belongs (append-nil page.entries ∙ entries);
    }

-- another value in a leaf is another in its level
pub leaf_exchange_keeps : LeafExchangeKeeps
leaf_exchange_keeps fan prime pages after levels c page entry pointer tree stands writes replaces belongs found entries =
    let here = stands_so fan prime pages levels tree 0 c stands in
    let now : List Cell = record { number = c.number; page = page } ∷ [] in
    record {
      new = levels_after here now;
      page_replaced = is_replaced fan prime pages after levels 0 c page tree here writes replaces (λ below never. absurd (omega arith));
      same_above = λ level. (let apart : level + 1 ≢ 0 = omega arith in ap entries_along (levels_after-other here now (level + 1) apart));
      entries = ap entries_along (levels_after-same here now)
          ∙ replaced_across fan prime pages levels 0 c here now entry.0 belongs entry.1 (append-nil page.entries ∙ entries);
    }
