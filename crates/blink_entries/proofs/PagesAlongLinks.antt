-- Pages met along right links: they are those of the line that begins there.
use Rattle.std.proofs.Common.{◌≡◌, ℕ, ◌≤◌, zero, suc, Option, Some, None, List, [], ◌∷◌, length, refl, ap, ◌∙◌, arith}
use Rattle.blink_page.specs.{PlainPage}
use Rattle.blink_page.specs.declared.limits.TheConstants.{GREATEST_KEY}
use Rattle.blink_store.specs.{PlainStore, page_of}
use Rattle.blink_rest.specs.{Pages, AreAmong, InLine, IsChain}
use Rattle.blink_rest.specs.Chain.{Cell, cell}
use Rattle.blink_rest.proofs.Offered.{store_numbered, walked_within}
use Rattle.blink_entries.specs.Index.{cells_from, cells_of}

module _ (pages : Pages) where
  -- no link leads nowhere
  pub cells_from-none : (most : ℕ) → cells_from pages most None ≡ []
  cells_from-none zero = refl
  cells_from-none (suc most) = refl

  -- a link leads to its page first, and on from there
  pub cells_from-page : (most number : ℕ) (page : PlainPage) → pages number ≡ Some page
      → cells_from pages (suc most) (Some number) ≡ cell number page ∷ cells_from pages most page.right
  cells_from-page most number page there =
      ap (λ (found : Option PlainPage). elim found as (λ _. List Cell) [ None ↦ [] | Some p ↦ cell number p ∷ cells_from pages most p.right ]) there

  -- a line that ends at no link is what its link leads to
  pub cells_from-line : (fan level most : ℕ) (floor link last : Option ℕ) (cells : List Cell) → AreAmong pages cells → InLine fan level floor link cells last None
      → length cells ≤ most → cells_from pages most link ≡ cells
  cells_from-line fan level most floor link last [] among line few =
      ap (cells_from pages most) line.1 ∙ cells_from-none most
  cells_from-line fan level zero floor link last (c ∷ cells) among line few = absurd (omega arith)
  cells_from-line fan level (suc most) floor link last (c ∷ cells) among line few =
      ap (cells_from pages (suc most)) line.0 ∙ cells_from-page most c.number c.page among.0
      ∙ ap (λ (rest : List Cell). c ∷ rest) (cells_from-line fan level most (Some c.page.high) c.page.right last cells among.1 line.4 (omega arith))

module _ (store : PlainStore) where
  -- no line in a store has more pages than the store
  pub line_within : (level leftmost : ℕ) (cells : List Cell) (floor link : Option ℕ) → AreAmong (page_of store) cells → InLine store.fan level None (Some leftmost) cells floor link
      → length cells ≤ length store.pages
  line_within level leftmost cells floor link among line =
      walked_within store.fan (page_of store) level leftmost (length store.pages) (length cells) floor link (store_numbered store)
      (record { prefix = cells; among = among; line = line; counted = refl })

  -- the chain of a level is what its leftmost page leads to
  pub cells_of-chain : (level leftmost : ℕ) (cells : List Cell) → IsChain store.fan (page_of store) level leftmost cells → cells_of store (Some leftmost) ≡ cells
  cells_of-chain level leftmost cells chain =
      cells_from-line (page_of store) store.fan level (length store.pages) None (Some leftmost) (Some GREATEST_KEY) cells chain.pages_there chain.in_line
      (line_within level leftmost cells (Some GREATEST_KEY) None chain.pages_there chain.in_line)
