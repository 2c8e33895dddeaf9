-- A page at a free number changes no chain.
use Rattle.std.proofs.Common.{ap}
use Rattle.blink_machine.proofs.tree.TreeStatements.{FreeWriteKeeps}
use Rattle.blink_machine.proofs.tree.WherePagesStand.{standing_there}
use Rattle.blink_machine.proofs.tree.PageGivesWay.{among_kept}

-- a page written at a free number leaves the tree as it is
pub free_write_keeps : FreeWriteKeeps
free_write_keeps fan prime pages after levels number page tree free writes = record {
  chains = record {
    some_level = tree.chains.some_level;
    named = λ level leftmost first. let chain = tree.chains.named level leftmost first in record {
      pages_there = among_kept pages after number page (levels level) writes
          (λ d stands same. cc (standing_there fan prime pages levels tree level d stands, free, ap pages same)) chain.pages_there;
      in_line = chain.in_line;
    };
    unnamed = tree.chains.unnamed;
  };
  refers = tree.refers;
}
