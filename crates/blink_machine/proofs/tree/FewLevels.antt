-- Few levels: each has at least twice as many pages as the one above, so a tree has at most 20.
use Rattle.std.proofs.Common.{ℕ, ◌+◌, ◌<◌, ◌≤◌, zero, suc, Option, Some, None, List, [], ◌∷◌, length, inl, inr, refl, ap, arith}
use Rattle.std.proofs.lemmas.Bool.{cases_lt}
use Rattle.std.proofs.lemmas.List.{length-map}
use Rattle.blink_page.specs.{least_above, IsRising}
use Rattle.blink_page.specs.declared.limits.TheConstants.{GREATEST_KEY, MAX_PAGE}
use Rattle.blink_page.proofs.Offered.{from_at_most_to, rising_from_below}
use Rattle.blink_rest.specs.{Pages, InLine, IsChain, IsMember, entries_along, numbers_of, Refers}
use Rattle.blink_rest.specs.Chain.{Cell}
use Rattle.blink_rest.proofs.Offered.{at_most_n, cells_within, chain_differs, chain_rising, two_each, two_to}
use Rattle.blink_machine.specs.Tree.{IsTree}
use Rattle.blink_machine.specs.TreeWithDebts.{Levels}
use Rattle.blink_machine.proofs.tree.TreeStatements.{FewLevels}
use Rattle.blink_machine.proofs.tree.PagesOfLevels.{some_stand, high_key_past, named_below, leftmost_begins}

module _ (fan level leftmost : ℕ) (pages : Pages) (lower : List Cell) (chain : IsChain fan pages level leftmost lower) where
  -- separators that rise from a floor of a chain, and are high keys there, are no more than its pages from that floor on
  no_more : (entries : List (ℕ × ℕ)) (before floor link : Option ℕ) (cells : List Cell) → Refers lower before entries → IsRising (least_above floor) entries (GREATEST_KEY + 1)
      → InLine fan level floor link cells (Some GREATEST_KEY) None → ((c : Cell) → IsMember c cells → IsMember c lower) → length entries ≤ length cells
  no_more [] before floor link cells refers rising line inside = omega arith
  no_more ((separator, child) ∷ rest) before floor link [] refers rising line inside =
      absurd (omega (arith, rising.0, ap least_above line.0, from_at_most_to (separator + 1) rest (GREATEST_KEY + 1) rising.1))
  no_more ((separator, child) ∷ rest) before floor link (x ∷ cells) refers rising line inside =
      let floors = ap least_above line.1 in
      let first = rising.0 in
      let past = high_key_past fan level leftmost pages lower chain separator x (inside x (inl refl)) refers.0 (omega arith) in
      let more = no_more rest (Some separator) (Some x.page.high) x.page.right cells refers.2
      (rising_from_below (x.page.high + 1) (separator + 1) rest (GREATEST_KEY + 1) (omega arith) rising.1) line.4 (λ c later. inside c (inr later)) in
      omega arith

module _ (fan : ℕ) (prime : List ℕ) (pages : Pages) (levels : Levels) (tree : IsTree fan prime pages levels) where
  -- a level has at least twice as many pages as the one above
  twice_as_many : (level : ℕ) → level + 1 < length prime → length (levels (level + 1)) + length (levels (level + 1)) ≤ length (levels level)
  twice_as_many level inside =
      let low = named_below fan prime pages levels tree level (omega arith) in
      let high = named_below fan prime pages levels tree (level + 1) inside in
      let two = two_each fan (level + 1) None (Some high.leftmost) (levels (level + 1)) (Some GREATEST_KEY) None (omega arith) high.chain.in_line in
      let fewer = no_more fan level low.leftmost pages (levels level) low.chain (entries_along (levels (level + 1))) None None (Some low.leftmost) (levels level)
      (tree.refers level) (chain_rising fan (level + 1) high.leftmost pages (levels (level + 1)) high.chain) low.chain.in_line (λ c stands. stands) in
      omega arith

  -- so a level that has `height` levels above it has at least two to that power
  many_below : (height level : ℕ) → level + height < length prime → two_to height ≤ length (levels level)
  many_below zero level inside =
      let it = named_below fan prime pages levels tree level (omega arith) in
      let begins = leftmost_begins fan prime pages levels level it.leftmost tree it.is_there in
      omega (arith, some_stand begins.cell (levels level) begins.stands)
  many_below (suc height) level inside =
      omega (arith, twice_as_many level (omega arith), many_below height (level + 1) (omega arith))

-- 21 levels would have more leaves than there are page numbers
pub few_levels : FewLevels
few_levels fan prime pages levels tree within =
    let some = tree.chains.some_level in
    let low = named_below fan prime pages levels tree 0 (omega arith) in
    let most = at_most_n MAX_PAGE (numbers_of (levels 0)) (chain_differs fan pages 0 low.leftmost (levels 0) low.chain) (cells_within MAX_PAGE pages (levels 0) low.chain.pages_there within) in
    elim (cases_lt 20 (length prime)) [
      | inr few ↦ few
      | inl many ↦ absurd (omega (arith, length-map (levels 0) (λ (c : Cell). c.number), many_below fan prime pages levels tree 20 0 (omega arith)))
    ]
