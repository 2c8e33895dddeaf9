-- What a walk along a level says of its chain.
use Rattle.std.proofs.Common.{◌≡◌, ℕ, ◌+◌, ◌≤◌, suc, Option, is_some, Some, None, List, [], ◌∷◌, ◌++◌, length, refl, sym, ap, ◌∙◌, subst, arith, length-append}
use Rattle.blink_page.specs.{PlainPage, IsLawfulPage}
use Rattle.blink_page.specs.declared.limits.TheConstants.{GREATEST_KEY}
use Rattle.blink_store.specs.{PlainStore, page_of}
use Rattle.blink_store.proofs.Offered.{has_page, page_there}
use Rattle.blink_rest.specs.Chain.{Pages, Cell, AreAmong, InLine, cell}
use Rattle.blink_rest.specs.Level.{numbers_of}
use Rattle.blink_rest.specs.Walk.{IsInLine, HasChain, HasNoChain}
use Rattle.blink_rest.proofs.LinesOfPages.{AreAmong-append, InLine-append}
use Rattle.blink_rest.proofs.HowManyNumbers.{at_most_n}
use Rattle.blink_rest.proofs.PagesOfChainsDiffer.{line_differs}
use Rattle.blink_rest.proofs.OneListOfLevels.{walked}
use Rattle.blink_rest.proofs.NoPageLeftOut.{AreNumbered, cells_within}

-- the pages met so far from the leftmost page on, how many they are, and the floor and the link after them
pub record Walked (fan : ℕ) (pages : Pages) (level leftmost : ℕ) (floor link : Option ℕ) (count : ℕ) : Type 0 where
  pub prefix : List Cell
  pub among : AreAmong pages prefix
  pub line : InLine fan level None (Some leftmost) prefix floor link
  pub counted : length prefix ≡ count

-- a line that has a page and ends at no link ends at the greatest key
line_closed : (fan level : ℕ) (floor link : Option ℕ) (cells : List Cell) (last : Option ℕ) (number : ℕ) → link ≡ Some number
    → InLine fan level floor link cells last None → last ≡ Some GREATEST_KEY
line_closed fan level floor link [] last number is line = absurd (cc (is, line.1))
line_closed fan level floor link (c ∷ []) last number is line =
    sym line.4.0 ∙ ap Some (line.3.right_unless_last.0 (ap is_some line.4.1))
line_closed fan level floor link (c ∷ d ∷ cells) last number is line =
    line_closed fan level (Some c.page.high) c.page.right (d ∷ cells) last d.number line.4.0 line.4

pub length-numbers : (cells : List Cell) → length (numbers_of cells) ≡ length cells
length-numbers [] = refl
length-numbers (c ∷ cells) = ap suc (length-numbers cells)

module _ (fan : ℕ) (pages : Pages) (level leftmost : ℕ) where
  -- nothing is met yet
  pub walked_none : Walked fan pages level leftmost None (Some leftmost) 0
  walked_none = record { prefix = []; among = tt; line = (refl, refl); counted = refl }

  -- one page more
  pub walked_on : (floor : Option ℕ) (number count : ℕ) (page : PlainPage) → Walked fan pages level leftmost floor (Some number) count
      → pages number ≡ Some page → page.level ≡ level → page.floor ≡ floor → IsLawfulPage fan page
      → Walked fan pages level leftmost (Some page.high) page.right (count + 1)
  walked_on floor number count page so_far there same_level same_floor lawful =
      record {
        prefix = so_far.prefix ++ cell number page ∷ [];
        among = AreAmong-append pages so_far.prefix (cell number page ∷ []) so_far.among (there, tt);
        line = InLine-append fan level None (Some leftmost) so_far.prefix (cell number page ∷ []) floor (Some number) (Some page.high) page.right so_far.line (refl, same_floor, same_level, lawful, (refl, refl));
        counted = omega (arith, length-append so_far.prefix (cell number page ∷ []), so_far.counted);
      }

  -- the last page was met
  pub walked_whole : (floor : Option ℕ) (count : ℕ) → Walked fan pages level leftmost floor None count → HasChain fan pages level leftmost count
  walked_whole floor count so_far = record {
    cells = so_far.prefix;
    chain = record {
      pages_there = so_far.among;
      in_line = subst (λ (last : Option ℕ). InLine fan level None (Some leftmost) so_far.prefix last None) (line_closed fan level None (Some leftmost) so_far.prefix floor leftmost refl so_far.line) so_far.line;
    };
    counted = so_far.counted;
  }

  -- where the next page isn't in line, there is no chain
  pub walked_out : (floor : Option ℕ) (number count : ℕ) → Walked fan pages level leftmost floor (Some number) count → (IsInLine pages number level floor → ⊥) → HasNoChain fan pages level leftmost
  walked_out floor number count so_far out cells chain =
      let more = walked fan pages level None None (Some leftmost) (Some leftmost) so_far.prefix cells floor (Some number) (Some GREATEST_KEY) refl refl so_far.among chain.pages_there so_far.line chain.in_line in
      next more.0 more.2 more.3
    where
      next : (rest : List Cell) → AreAmong pages rest → InLine fan level floor (Some number) rest (Some GREATEST_KEY) None → ⊥
      next [] among line = absurd (cc (line.1))
      next (c ∷ rest) among line =
          let same : number ≡ c.number = cc (line.0) in
          out (record { page = c.page; there = ap pages same ∙ among.0; same_level = line.2; same_floor = line.1 })

  -- no more pages are met than there are
  pub walked_within : (n count : ℕ) (floor link : Option ℕ) → AreNumbered n pages → Walked fan pages level leftmost floor link count → count ≤ n
  walked_within n count floor link numbered so_far =
      omega (
        arith,
        so_far.counted,
        length-numbers so_far.prefix,
        at_most_n n (numbers_of so_far.prefix)
            (line_differs fan pages level None (Some leftmost) so_far.prefix floor link so_far.among so_far.line)
            (cells_within n pages so_far.prefix so_far.among numbered.within),
      )

-- the pages of a store are those from 1 to the last
pub store_numbered : (store : PlainStore) → AreNumbered (length store.pages) (page_of store)
store_numbered store = record {
  there = λ number least most. page_there store number (least, most);
  within = λ number page there. has_page store number page there;
}
