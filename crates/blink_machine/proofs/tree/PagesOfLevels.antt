-- What a tree says of the pages of its levels: which levels have pages, where they begin, and what follows a page.
use Rattle.std.proofs.Common.{◌≡◌, ℕ, ◌<◌, ◌≤◌, Option, Some, None, List, [], ◌∷◌, length, get_or, inl, inr, ap, arith}
use Rattle.std.specs.List.{slice_get}
use Rattle.std.proofs.lemmas.Bool.{cases_lt}
use Rattle.std.proofs.lemmas.Option.{slice_get-get_or}
use Rattle.blink_page.specs.{least_above, PlainPage}
use Rattle.blink_page.specs.declared.limits.TheConstants.{GREATEST_KEY}
use Rattle.blink_rest.specs.{Pages, InLine, IsChain, IsMember, IsHighKey}
use Rattle.blink_rest.specs.Chain.{Cell}
use Rattle.blink_rest.proofs.Offered.{chain_begins, chain_spans_once, chain_value, line_right, only_page, same_cell, stands_of, stands_there}
use Rattle.blink_machine.specs.Tree.{IsTree}
use Rattle.blink_machine.specs.TreeWithDebts.{Levels}
use Rattle.blink_machine.proofs.tree.TreeStatements.{CellsAreOfLevel, NumbersDiffer, LevelsAreNamed, LeftmostBegins, OnlyIsLeftmost, RightBegins, LevelKeeps, TopDebtHasTwo}
use Rattle.blink_machine.proofs.tree.WherePagesStand.{level_named}

-- where a cell stands there is one
pub some_stand : (c : Cell) (cells : List Cell) → IsMember c cells → 0 < length cells
some_stand c [] stands = absurd stands
some_stand c (d ∷ cells) stands = omega arith

module _ (fan level : ℕ) where
  -- a page that ends before its line does is not the only one
  line_two : (floor link : Option ℕ) (cells : List Cell) (last : ℕ) (last_link : Option ℕ) (c : Cell)
      → InLine fan level floor link cells (Some last) last_link → IsMember c cells → c.page.high < last → 2 ≤ length cells
  line_two floor link [] last last_link c line stands below = absurd stands
  line_two floor link (d ∷ []) last last_link c line (inl same) below =
      let ends : d.page.high ≡ last = cc (line.4.0) in absurd (omega (arith, ap (λ (x : Cell). x.page.high) same))
  line_two floor link (d ∷ []) last last_link c line (inr later) below = absurd later
  line_two floor link (d ∷ e ∷ cells) last last_link c line stands below = omega arith

module _ (fan level leftmost : ℕ) (pages : Pages) (lower : List Cell) (chain : IsChain fan pages level leftmost lower) where
  -- two pages of a chain with the same floor are one
  pub same_floor_same : (c d : Cell) → IsMember c lower → IsMember d lower → c.page.floor ≡ d.page.floor → c ≡ d
  same_floor_same c d stands too same =
      let it = stands_of fan level None (Some leftmost) lower (Some GREATEST_KEY) None c chain.in_line stands in
      let is = stands_of fan level None (Some leftmost) lower (Some GREATEST_KEY) None d chain.in_line too in
      chain_spans_once fan level leftmost pages lower chain (least_above c.page.floor) c d stands too
      (omega arith, it.lawful.floor_below_high) (omega (arith, ap least_above same), omega (arith, ap least_above same, is.lawful.floor_below_high))

  -- a high key from a page's floor on is that page's or above it
  pub high_key_past : (key : ℕ) (x : Cell) → IsMember x lower → IsHighKey lower key → least_above x.page.floor ≤ key → x.page.high ≤ key
  high_key_past key x stands is_high above =
      let of_line = stands_of fan level None (Some leftmost) lower (Some GREATEST_KEY) None is_high.cell chain.in_line is_high.stands in
      let same_high = is_high.same_high in
      let lowest = of_line.lawful.floor_below_high in
      elim (cases_lt key x.page.high) [
        | inr past ↦ past
        | inl below ↦ (let same = chain_spans_once fan level leftmost pages lower chain key is_high.cell x is_high.stands stands (omega arith, omega arith) (above, omega arith) in
            absurd (omega (arith, ap (λ (y : Cell). y.page.high) same)))
      ]

-- a level that the prime block names, with its leftmost page
pub record IsNamed (fan : ℕ) (prime : List ℕ) (pages : Pages) (level : ℕ) (cells : List Cell) : Type 0 where
  pub leftmost : ℕ
  pub is_there : slice_get prime level ≡ Some leftmost
  pub chain : IsChain fan pages level leftmost cells

module _ (fan : ℕ) (prime : List ℕ) (pages : Pages) (levels : Levels) (tree : IsTree fan prime pages levels) where
  -- each level below the number of levels is named
  pub named_below : (level : ℕ) → level < length prime → IsNamed fan prime pages level (levels level)
  named_below level inside =
      let there = slice_get-get_or prime level 0 inside in
      record { leftmost = get_or prime level 0; is_there = there; chain = tree.chains.named level (get_or prime level 0) there }

  -- so it is named
  pub named_standing : (level : ℕ) (c : Cell) → IsMember c (levels level) → IsNamed fan prime pages level (levels level)
  named_standing level c stands = named_below level (level_named fan prime pages levels tree level c stands)

-- each page of a chain is there, is lawful and has the chain's level
pub cells_are_of_level : CellsAreOfLevel
cells_are_of_level fan prime pages levels level c tree stands =
    let it = named_standing fan prime pages levels tree level c stands in
    let line = stands_of fan level None (Some it.leftmost) (levels level) (Some GREATEST_KEY) None c it.chain.in_line stands in
    record { there = stands_there pages (levels level) c it.chain.pages_there stands; lawful = line.lawful; has_level = line.has_level }

-- two pages of chains with the same number are one, since a number has one page and a page one level
pub numbers_differ : NumbersDiffer
numbers_differ fan prime pages levels level other c d tree stands too same =
    let it = cells_are_of_level fan prime pages levels level c tree stands in
    let is = cells_are_of_level fan prime pages levels other d tree too in
    let contents : c.page ≡ d.page = cc (it.there, is.there, ap pages same) in
    (same_cell c d same contents, cc (it.has_level, is.has_level, ap (λ (p : PlainPage). p.level) contents))

-- a level with pages is named
pub levels_are_named : LevelsAreNamed
levels_are_named fan prime pages levels level c tree stands = level_named fan prime pages levels tree level c stands

-- the leftmost page of a level has no floor
pub leftmost_begins : LeftmostBegins
leftmost_begins fan prime pages levels level leftmost tree there = chain_begins fan level leftmost pages (levels level) (tree.chains.named level leftmost there)

-- the only page of a level is its leftmost
pub only_is_leftmost : OnlyIsLeftmost
only_is_leftmost fan prime pages levels level leftmost c tree there stands few =
    let some = some_stand c (levels level) stands in
    only_page fan pages level leftmost (levels level) (tree.chains.named level leftmost there) (omega arith) c stands

-- the right link of a page leads to the page that begins where it ends
pub right_begins : RightBegins
right_begins fan prime pages levels level next c tree stands right =
    let it = named_standing fan prime pages levels tree level c stands in
    line_right fan level None (Some it.leftmost) (levels level) (Some GREATEST_KEY) next c it.chain.in_line stands right

-- a key has in the level the value that it has in the page that it belongs to
pub level_keeps : LevelKeeps
level_keeps fan prime pages levels level key c tree stands belongs =
    let it = named_standing fan prime pages levels tree level c stands in
    chain_value fan level it.leftmost pages (levels level) it.chain key c stands belongs

-- the page that ends at a debt is not the last of its level
pub top_debt_has_two : TopDebtHasTwo
top_debt_has_two fan prime pages levels level key tree debt =
    let c = debt.is_high_key.cell in
    let stands = debt.is_high_key.stands in
    let it = named_standing fan prime pages levels tree level c stands in
    let below = debt.below_greatest in
    line_two fan level None (Some it.leftmost) (levels level) GREATEST_KEY None c it.chain.in_line stands (omega (arith, debt.is_high_key.same_high))
