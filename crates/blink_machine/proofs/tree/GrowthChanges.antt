-- A new root is named over the top level.
use Rattle.std.proofs.Common.{◌≡◌, ◌≢◌, ℕ, ◌+◌, ◌≤◌, Option, Some, None, List, [], ◌∷◌, ◌++◌, length, slice_get, inl, inr, refl, sym, ap, ◌∙◌, arith, length-append}
use Rattle.std.proofs.lemmas.Bool.{cases_eq}
use Rattle.blink_page.specs.{PlainPage, IsLawfulPage, root_over}
use Rattle.blink_page.specs.declared.limits.TheConstants.{GREATEST_KEY}
use Rattle.blink_store.proofs.Offered.{slice_get-push_other, slice_get-push_same}
use Rattle.blink_rest.specs.{Pages, InLine, IsChain, entries_along, Refers, IsHighKey}
use Rattle.blink_rest.specs.Chain.{Cell}
use Rattle.blink_rest.proofs.Offered.{chain_begins}
use Rattle.blink_machine.specs.Tree.{IsTree}
use Rattle.blink_machine.specs.TreeWithDebts.{Levels}
use Rattle.blink_machine.proofs.tree.TreeStatements.{FewLevels, GrowthKeeps, RootGrows, CanGrow}
use Rattle.blink_machine.proofs.tree.WherePagesStand.{standing_there}
use Rattle.blink_machine.proofs.tree.PageGivesWay.{with_level, with_level-same, with_level-other}

-- the last page of a line with pages has the key where the line ends
line_last : (fan level key : ℕ) (floor link : Option ℕ) (d : Cell) (cells : List Cell) → InLine fan level floor link (d ∷ cells) (Some key) None → IsHighKey (d ∷ cells) key
line_last fan level key floor link d [] line =
    let high : d.page.high ≡ key = cc (line.4.0) in
    record { cell = d; stands = inl refl; same_high = high }
line_last fan level key floor link d (e ∷ cells) line =
    let it = line_last fan level key (Some d.page.high) d.page.right e cells line.4 in
    record { cell = it.cell; stands = inr it.stands; same_high = it.same_high }

-- so the greatest key is a high key of each chain
chain_ends : (fan level leftmost : ℕ) (pages : Pages) (cells : List Cell) → IsChain fan pages level leftmost cells → IsHighKey cells GREATEST_KEY
chain_ends fan level leftmost pages [] chain = absurd (cc (chain.in_line.1))
chain_ends fan level leftmost pages (d ∷ cells) chain = line_last fan level GREATEST_KEY None (Some leftmost) d cells chain.in_line

module _ (fan : ℕ) (prime : List ℕ) (pages : Pages) (levels : Levels) (level : ℕ) (c : Cell) (right root : ℕ) (tree : IsTree fan prime pages levels)
    (grows : CanGrow fan prime pages levels level c right root) (few : length prime ≤ 20) where
  -- the new root
  abbrev new_root : PlainPage
  new_root = root_over (level + 1) c.page.high c.number right

  -- the level that it is
  abbrev top : List Cell
  top = record { number = root; page = new_root } ∷ []

  -- it is lawful
  root_is_lawful : IsLawfulPage fan new_root
  root_is_lawful =
      let size = grows.is_top.top in
      let below = grows.below_greatest in
      let left_in_range = grows.numbers_in_range c.number c.page (standing_there fan prime pages levels tree level c grows.stands) in
      let begins = grows.begins in
      let right_in_range = grows.numbers_in_range begins.cell.number begins.cell.page (standing_there fan prime pages levels tree level begins.cell begins.stands) in
      let number = begins.same_number in
      record {
        level_in_range = omega arith;
        high_in_range = omega arith;
        floor_below_high = omega arith;
        right_unless_last = (λ none. refl, λ last. refl);
        right_is_number = tt;
        at_most_fan = omega (arith, grows.fan_in_range.0);
        keys_rise = (omega arith, (omega arith, omega arith));
        values_in_range = (omega arith, omega arith, (omega arith, omega arith, tt));
        inner = λ above. record {
          two_at_least = omega arith;
          last_is_high = (omega arith, (omega arith, refl));
          children = (omega arith, omega arith, (omega arith, omega arith, tt));
        };
      }

  -- the page that it is over is the leftmost of its level
  chain_below : IsChain fan pages level c.number (levels level)
  chain_below = tree.chains.named level c.number grows.is_top.leftmost

  -- the new root leads to the pages of the level below
  root_refers : Refers (levels level) None (entries_along top)
  root_refers = (
    record { cell = c; stands = grows.stands; same_high = refl },
    chain_begins fan level c.number pages (levels level) chain_below,
    (chain_ends fan level c.number pages (levels level) chain_below, grows.begins, tt),
  )

  -- the new level is a chain of one page
  root_chain : IsChain fan pages (level + 1) root top
  root_chain = record {
    pages_there = (grows.root_there, tt);
    in_line = (refl, refl, refl, root_is_lawful, (refl, refl));
  }

  -- the level was not named
  none_above : levels (level + 1) ≡ []
  none_above = let size = grows.is_top.top in tree.chains.unnamed (level + 1) (omega arith)

  -- the levels with the new one
  levels_grown : Levels
  levels_grown = with_level levels (level + 1) top

  -- the new one is the root alone
  grown_top : levels_grown (level + 1) ≡ top
  unfolding levels_grown
  grown_top = with_level-same levels (level + 1) top

  -- the others are as before
  grown_other : (other : ℕ) → other ≢ level + 1 → levels_grown other ≡ levels other
  unfolding levels_grown
  grown_other other apart = with_level-other levels (level + 1) other top apart

  -- with the new root the tree is a tree
  grown_tree : IsTree fan (prime ++ root ∷ []) pages levels_grown
  grown_tree =
      let size = grows.is_top.top in
      let longer : length (prime ++ root ∷ []) ≡ length prime + 1 = length-append prime (root ∷ []) in
      record {
        chains = record {
          some_level = omega arith;
          named = λ other leftmost first. elim (cases_eq other (level + 1)) [
            | inl same ↦ (
                let last : other ≡ length prime = omega arith in
                let is_root : root ≡ leftmost = cc (slice_get-push_same prime root, ap (slice_get (prime ++ root ∷ [])) last, first) in
                rw (← is_root, same, grown_top) root_chain)
            | inr apart ↦ (
                let before : other ≢ length prime = omega arith in
                rw (grown_other other apart) (tree.chains.named other leftmost (sym (slice_get-push_other prime other root before) ∙ first)))
          ];
          unnamed = λ other past. (let apart : other ≢ level + 1 = omega arith in grown_other other apart ∙ tree.chains.unnamed other (omega arith));
        };
        refers = λ lower. elim (cases_eq lower level) [
          | inl same ↦ (let apart : level ≢ level + 1 = omega arith in rw (same, grown_top, grown_other level apart) root_refers)
          | inr far ↦ (
              let apart : lower + 1 ≢ level + 1 = omega arith in
              rw (grown_other (lower + 1) apart) (elim (cases_eq lower (level + 1)) [
                | inl above ↦ (let none = tree.chains.unnamed (lower + 1) (omega arith) in rw (none) tt)
                | inr away ↦ rw (grown_other lower away) (tree.refers lower)
              ]))
        ];
      }

  -- so the tree grows by a level
  grown : RootGrows fan prime pages levels level c right root
  grown = record { new = levels_grown; tree = grown_tree; same_below = grown_other; top_page = grown_top; none_before = none_above }

-- a new root over the halves of the old one keeps the tree
pub growth_keeps : FewLevels → GrowthKeeps
growth_keeps few fan prime pages levels level c right root tree grows =
    grown fan prime pages levels level c right root tree grows (few fan prime pages levels tree grows.numbers_in_range)
