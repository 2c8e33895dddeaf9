-- The levels of a kept tree: each page is kept, and they are as few as page numbers.
use Rattle.std.proofs.Common.{◌≡◌, ℕ, ◌+◌, ◌-◌, ◌≤◌, Some, None, List, [], ◌∷◌, ◌++◌, length, arith}
use Rattle.std.specs.List.{flat_map}
use Rattle.blink_page.specs.declared.limits.TheConstants.{MAX_PAGE}
use Rattle.blink_page.specs.{PlainPage}
use Rattle.blink_rest.specs.{AreAmong, IsChain, Pages, entries_along, numbers_of, AreWithin, AreChains}
use Rattle.blink_rest.specs.Chain.{Cell}
use Rattle.blink_rest.proofs.Offered.{at_most_n, cells_within, levels_differ}
use Rattle.blink_rows.specs.{PlainCounts}
use Rattle.blink_live.specs.ToCome.{AreKept, AreToCome}
use Rattle.blink_live.specs.Renumbered.{child_count}
use Rattle.blink_live.specs.Words.{KeepsPages}

-- two lists of numbers from 1 to n joined
within_both : (n : ℕ) (xs ys : List ℕ) → AreWithin n xs → AreWithin n ys → AreWithin n (xs ++ ys)
within_both n [] ys before after = after
within_both n (x ∷ xs) ys before after = (before.0, before.1, within_both n xs ys before.2 after)

module _ (counts : PlainCounts) (words : List ℕ) (fan : ℕ) (pages : Pages) (kept : KeepsPages counts words pages) where
  -- pages of the tree are kept
  pub kept_cells : (cells : List Cell) → AreAmong pages cells → AreKept counts words cells
  kept_cells [] among = tt
  kept_cells (c ∷ cells) among = (kept c.number c.page among.0, kept_cells cells among.1)

  -- the pages of a chain can be added where there is room
  pub chain_to_come : (level leftmost count child : ℕ) (cells : List Cell) → IsChain fan pages level leftmost cells → count + length cells ≤ MAX_PAGE → 1 ≤ child
      → child + child_count level (entries_along cells) ≤ MAX_PAGE + 1 → AreToCome counts words fan level None (Some leftmost) count child cells
  chain_to_come level leftmost count child cells chain room from fits = record {
    kept = kept_cells cells chain.pages_there;
    in_line = chain.in_line;
    room = room;
    first_child = from;
    room_for_children = fits;
  }

  module _ (n : ℕ) (within : (number : ℕ) (page : PlainPage) → pages number ≡ Some page → (1 ≤ number) × (number ≤ n)) where
    levels_within : (level : ℕ) (prime : List ℕ) (levels : List (List Cell)) → AreChains fan pages level prime levels → AreWithin n (flat_map numbers_of levels)
    levels_within level [] [] chains = tt
    levels_within level [] (cells ∷ above) chains = absurd chains
    levels_within level (leftmost ∷ prime) [] chains = absurd chains
    levels_within level (leftmost ∷ prime) (cells ∷ above) chains =
        within_both n (numbers_of cells) (flat_map numbers_of above) (cells_within n pages cells chains.0.pages_there within) (levels_within (level + 1) prime above chains.1)

    at_most : (prime : List ℕ) (levels : List (List Cell)) → AreChains fan pages 0 prime levels → length (flat_map numbers_of levels) ≤ n
    at_most prime levels chains = at_most_n n (flat_map numbers_of levels) (levels_differ fan pages 0 prime levels chains) (levels_within 0 prime levels chains)

  -- all levels together have no more pages than there are numbers
  pub levels_in_numbers : (prime : List ℕ) (levels : List (List Cell)) → AreChains fan pages 0 prime levels → length (flat_map numbers_of levels) ≤ counts.numbers - 1
  levels_in_numbers = at_most (counts.numbers - 1) (λ number page there. let range = (kept number page there).number_in_range in (range.0, omega (arith, range.1)))

  pub levels_fit : counts.numbers ≤ MAX_PAGE + 1 → (prime : List ℕ) (levels : List (List Cell)) → AreChains fan pages 0 prime levels → length (flat_map numbers_of levels) ≤ MAX_PAGE
  levels_fit bounded prime levels chains = let few = levels_in_numbers prime levels chains in omega (arith, few, bounded)
