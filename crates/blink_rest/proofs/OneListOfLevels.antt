-- A tree has only one list of levels, and only one list of entries.
use Rattle.std.proofs.Common.{◌≡◌, ℕ, ◌+◌, Option, Some, None, List, [], ◌∷◌, ◌++◌, refl, sym, subst, ap, ◌∙◌}
use Rattle.blink_page.specs.{PlainPage}
use Rattle.blink_rest.specs.Chain.{Pages, Cell, AreAmong, InLine, IsChain}
use Rattle.blink_rest.specs.Numbers.{IsMember}
use Rattle.blink_rest.specs.Level.{entries_along}
use Rattle.blink_rest.specs.Rest.{AreChains, AreLevels}
use Rattle.blink_rest.specs.Entries.{AreEntries}
use Rattle.blink_rest.proofs.LinesOfPages.{stands_there}

-- two cells with the same number and page
pub same_cell : (c d : Cell) → c.number ≡ d.number → c.page ≡ d.page → c ≡ d
same_cell c d numbers pages = λ i. record { number = numbers i; page = pages i }

module _ (fan : ℕ) (pages : Pages) where
  -- two pages of a tree with the same number are one
  pub stands_same : (cells others : List Cell) (c d : Cell) → AreAmong pages cells → AreAmong pages others → IsMember c cells → IsMember d others → c.number ≡ d.number → c ≡ d
  stands_same cells others c d among among_too stands stands_too same =
      same_cell c d same (cc (stands_there pages cells c among stands, stands_there pages others d among_too stands_too, ap pages same))

  -- what has been walked of a line to no link is its beginning, and the rest goes on from there
  pub walked : (level : ℕ) (floor floor_too link link_too : Option ℕ) (prefix cells : List Cell) (middle_floor middle_link last : Option ℕ) → floor ≡ floor_too → link ≡ link_too
      → AreAmong pages prefix → AreAmong pages cells → InLine fan level floor link prefix middle_floor middle_link → InLine fan level floor_too link_too cells last None
      → (rest : List Cell) × (cells ≡ prefix ++ rest) × AreAmong pages rest × InLine fan level middle_floor middle_link rest last None
  walked level floor floor_too link link_too [] cells middle_floor middle_link last same_floor same among among_too line line_too =
      (cells, refl, among_too, rw (← line.0, ← line.1, same_floor, same) line_too)
  walked level floor floor_too link link_too (c ∷ prefix) [] middle_floor middle_link last same_floor same among among_too line line_too = absurd (cc (sym line.0, same, line_too.1))
  walked level floor floor_too link link_too (c ∷ prefix) (d ∷ cells) middle_floor middle_link last same_floor same among among_too line line_too =
      let numbers : c.number ≡ d.number = cc (line.0, same, line_too.0) in
      let contents : c.page ≡ d.page = cc (among.0, among_too.0, ap pages numbers) in
      let rest = walked level (Some c.page.high) (Some d.page.high) c.page.right d.page.right prefix cells middle_floor middle_link last
      (ap (λ (p : PlainPage). Some p.high) contents) (ap (λ (p : PlainPage). p.right) contents) among.1 among_too.1 line.4 line_too.4 in
      (rest.0, (λ i. same_cell d c (sym numbers) (sym contents) i ∷ rest.1 i), rest.2, rest.3)

  -- two lines from the same link to no link have the same pages
  pub same_line : (level other : ℕ) (floor floor_too link link_too : Option ℕ) (cells others : List Cell) (last last_too : Option ℕ) → link ≡ link_too
      → AreAmong pages cells → AreAmong pages others → InLine fan level floor link cells last None → InLine fan other floor_too link_too others last_too None → cells ≡ others
  same_line level other floor floor_too link link_too [] [] last last_too same among among_too line line_too = refl
  same_line level other floor floor_too link link_too [] (d ∷ others) last last_too same among among_too line line_too = absurd (cc (sym line.1, same, line_too.0))
  same_line level other floor floor_too link link_too (c ∷ cells) [] last last_too same among among_too line line_too = absurd (cc (sym line.0, same, line_too.1))
  same_line level other floor floor_too link link_too (c ∷ cells) (d ∷ others) last last_too same among among_too line line_too =
      let numbers : c.number ≡ d.number = cc (line.0, same, line_too.0) in
      let contents : c.page ≡ d.page = cc (among.0, among_too.0, ap pages numbers) in
      let rest : cells ≡ others = same_line level other (Some c.page.high) (Some d.page.high) c.page.right d.page.right cells others last last_too (ap (λ (p : PlainPage). p.right) contents) among.1 among_too.1 line.4 line_too.4 in
      λ i. same_cell c d numbers contents i ∷ rest i

  -- the chain of a level is determined by its leftmost page
  pub same_chain : (level leftmost : ℕ) (cells others : List Cell) → IsChain fan pages level leftmost cells → IsChain fan pages level leftmost others → cells ≡ others
  same_chain level leftmost cells others chain too =
      same_line level level None None (Some leftmost) (Some leftmost) cells others _ _ refl chain.pages_there too.pages_there chain.in_line too.in_line

  -- the chains of a prime block are determined
  pub same_chains : (level : ℕ) (prime : List ℕ) (levels others : List (List Cell)) → AreChains fan pages level prime levels → AreChains fan pages level prime others → levels ≡ others
  same_chains level [] [] [] chains too = refl
  same_chains level [] [] (cells ∷ others) chains too = absurd too
  same_chains level [] (cells ∷ levels) others chains too = absurd chains
  same_chains level (leftmost ∷ prime) [] others chains too = absurd chains
  same_chains level (leftmost ∷ prime) (cells ∷ levels) [] chains too = absurd too
  same_chains level (leftmost ∷ prime) (cells ∷ levels) (more ∷ others) chains too =
      let first = same_chain level leftmost cells more chains.0 too.0 in
      let rest = same_chains (level + 1) prime levels others chains.1 too.1 in
      λ i. first i ∷ rest i

  -- a tree at rest has one list of levels
  pub same_levels : (prime : List ℕ) (levels others : List (List Cell)) → AreLevels fan prime pages levels → AreLevels fan prime pages others → levels ≡ others
  same_levels prime levels others at_rest too = same_chains 0 prime levels others at_rest.chains too.chains

  -- a tree has one list of entries
  pub same_entries : (prime : List ℕ) (entries others : List (ℕ × ℕ)) → AreEntries fan prime pages entries → AreEntries fan prime pages others → entries ≡ others
  same_entries prime entries others are too =
      let same : are.leftmost ≡ too.leftmost = cc (are.is_first, too.is_first) in
      let C : ℕ → Type 0 = λ n. IsChain fan pages 0 n are.leaves in
      are.joined ∙ ap entries_along (same_chain 0 too.leftmost are.leaves too.leaves (subst C same are.chain) too.chain) ∙ sym too.joined
