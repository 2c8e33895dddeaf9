-- A walk over the levels of a kept tree, and what it leaves to add.
use Rattle.std.proofs.Common.{◌≡◌, ℕ, ◌+◌, ◌≤◌, suc, Some, None, List, [], ◌∷◌, ◌++◌, length, ap, sym, ◌∙◌, arith, append_assoc, append-nil, length-append}
use Rattle.std.specs.List.{flat_map}
use Rattle.std.proofs.lemmas.List.{length-map}
use Rattle.blink_page.specs.declared.limits.TheConstants.{MAX_PAGE}
use Rattle.blink_page.specs.{PlainPage}
use Rattle.blink_rest.specs.{Pages, entries_along, numbers_of, AreChains, AreLevels, EachIsParent}
use Rattle.blink_rest.specs.Chain.{Cell}
use Rattle.blink_rows.specs.{PlainCounts}
use Rattle.blink_live.specs.ToCome.{AddsPages, AreToCome, HasLeavesToCome, HasPagesToCome}
use Rattle.blink_live.specs.Renumbered.{cells_anew, firsts_anew, levels_anew, pages_in, pages_in_all}
use Rattle.blink_live.specs.Words.{KeepsPages}
use Rattle.blink_live.proofs.gathered.KeptLevelsFit.{chain_to_come, levels_fit}
use Rattle.blink_live.proofs.gathered.RenumberedTreeIsAtRest.{entry_for_each, total-cons}
use Rattle.blink_live.proofs.gathered.RenumberedLineIsInLine.{length-cells_anew}
use Rattle.blink_live.proofs.gathered.RenumberedPageIsLawful.{child_count-at_most}

-- a level has as many pages with other numbers
length-pages_in : (number child : ℕ) (cells : List Cell) → length (pages_in (cells_anew number child cells)) ≡ length cells
length-pages_in number child cells = length-map (cells_anew number child cells) (λ (c : Cell). c.page) ∙ length-cells_anew number child cells

module _ (counts : PlainCounts) (words : List ℕ) (fan : ℕ) (pages : Pages) where
  -- the levels from this one up are to be added, and all would then be added
  pub record LevelsLeft (prime : List ℕ) (level child : ℕ) (stored : List PlainPage) (firsts : List ℕ) (levels : List (List Cell)) : Type 0 where
    pub below : List Cell
    pub left : List (List Cell)
    pub chains : AreChains fan pages level prime left
    pub named : EachIsParent (below ∷ left)
    pub below_is_last : child + length below ≡ suc (length stored)
    pub first_child : 1 ≤ child
    pub room : length stored + length (flat_map numbers_of left) ≤ MAX_PAGE
    pub same_pages : stored ++ pages_in_all (levels_anew (suc (length stored)) child left) ≡ pages_in_all (levels_anew 1 1 levels)
    pub same_firsts : firsts ++ firsts_anew (suc (length stored)) left ≡ firsts_anew 1 levels

  -- no level is left
  pub none_left : (level child : ℕ) (stored : List PlainPage) (firsts : List ℕ) (levels : List (List Cell)) → LevelsLeft [] level child stored firsts levels
      → (stored ≡ pages_in_all (levels_anew 1 1 levels)) × (firsts ≡ firsts_anew 1 levels)
  none_left level child stored firsts levels it = at_end it.left it.chains it.same_pages it.same_firsts
    where
      at_end : (left : List (List Cell)) → AreChains fan pages level [] left → stored ++ pages_in_all (levels_anew (suc (length stored)) child left) ≡ pages_in_all (levels_anew 1 1 levels)
          → firsts ++ firsts_anew (suc (length stored)) left ≡ firsts_anew 1 levels → (stored ≡ pages_in_all (levels_anew 1 1 levels)) × (firsts ≡ firsts_anew 1 levels)
      at_end [] chains all numbers = (sym (append-nil stored) ∙ all, sym (append-nil firsts) ∙ numbers)
      at_end (cells ∷ above) chains all numbers = absurd chains

  module _ (kept : KeepsPages counts words pages) where
    -- the leaves are to be added first
    pub leaves_to_come : (leftmost : ℕ) (prime : List ℕ) (levels : List (List Cell)) → counts.numbers ≤ MAX_PAGE + 1 → AreLevels fan (leftmost ∷ prime) pages levels → HasLeavesToCome counts words fan leftmost
    leaves_to_come leftmost prime [] bounded are = absurd are.chains
    leaves_to_come leftmost prime (cells ∷ above) bounded are =
        let fit = levels_fit counts words fan pages kept bounded (leftmost ∷ prime) (cells ∷ above) are.chains in
        (cells, chain_to_come counts words fan pages kept 0 leftmost 0 1 cells are.chains.0 (omega (arith, fit, total-cons cells above)) (omega arith) (omega arith))

    -- they were added
    pub leaves_added : (leftmost : ℕ) (prime : List ℕ) (levels : List (List Cell)) (stored : List PlainPage) → counts.numbers ≤ MAX_PAGE + 1 → AreLevels fan (leftmost ∷ prime) pages levels
        → AddsPages counts words fan (Some leftmost) 1 [] stored → LevelsLeft prime 1 1 stored (1 ∷ []) levels
    leaves_added leftmost prime [] stored bounded are adds = absurd are.chains
    leaves_added leftmost prime (cells ∷ above) stored bounded are adds =
        let fit = levels_fit counts words fan pages kept bounded (leftmost ∷ prime) (cells ∷ above) are.chains in
        let total = total-cons cells above in
        let come = chain_to_come counts words fan pages kept 0 leftmost 0 1 cells are.chains.0 (omega (arith, fit, total)) (omega arith) (omega arith) in
        let is : stored ≡ pages_in (cells_anew 1 1 cells) = adds 0 None cells come in
        let count : length stored ≡ length cells = ap length is ∙ length-pages_in 1 1 cells in
        let next : suc (length stored) ≡ 1 + length cells = omega arith in
        record {
          below = cells;
          left = above;
          chains = are.chains.1;
          named = are.named;
          below_is_last = omega arith;
          first_child = omega arith;
          room = omega (arith, fit, total);
          same_pages = ap (λ (n : ℕ). stored ++ pages_in_all (levels_anew n 1 above)) next
              ∙ ap (λ (ps : List PlainPage). ps ++ pages_in_all (levels_anew (1 + length cells) 1 above)) is;
          same_firsts = ap (λ (n : ℕ). 1 ∷ firsts_anew n above) next;
        }

    -- the next level is to be added
    next_level : (leftmost : ℕ) (prime : List ℕ) (level child : ℕ) (stored : List PlainPage) (below cells : List Cell) (above : List (List Cell))
        → AreChains fan pages level (leftmost ∷ prime) (cells ∷ above) → EachIsParent (below ∷ cells ∷ above) → child + length below ≡ suc (length stored) → 1 ≤ child
        → length stored + length (flat_map numbers_of (cells ∷ above)) ≤ MAX_PAGE → AreToCome counts words fan level None (Some leftmost) (length stored) child cells
    next_level leftmost prime level child stored below cells above chains named last from room =
        let total = total-cons cells above in
        let entries = entry_for_each cells below named.0 in
        chain_to_come counts words fan pages kept level leftmost (length stored) child cells chains.0 (omega (arith, total, room)) from
        (omega (arith, total, room, entries, last, child_count-at_most level (entries_along cells)))

    pub level_to_come : (leftmost : ℕ) (prime : List ℕ) (level child : ℕ) (stored : List PlainPage) (firsts : List ℕ) (levels : List (List Cell))
        → LevelsLeft (leftmost ∷ prime) level child stored firsts levels → HasPagesToCome counts words fan (Some leftmost) (length stored) child
    level_to_come leftmost prime level child stored firsts levels it = at it.left it.chains it.named it.room
      where
        at : (left : List (List Cell)) → AreChains fan pages level (leftmost ∷ prime) left → EachIsParent (it.below ∷ left) → length stored + length (flat_map numbers_of left) ≤ MAX_PAGE
            → HasPagesToCome counts words fan (Some leftmost) (length stored) child
        at [] chains named room = absurd chains
        at (cells ∷ above) chains named room = record {
          level = level;
          floor = None;
          cells = cells;
          are = next_level leftmost prime level child stored it.below cells above chains named it.below_is_last it.first_child room;
        }

    -- it was added
    pub level_added : (leftmost : ℕ) (prime : List ℕ) (level child : ℕ) (stored new : List PlainPage) (firsts : List ℕ) (levels : List (List Cell))
        → LevelsLeft (leftmost ∷ prime) level child stored firsts levels → AddsPages counts words fan (Some leftmost) child stored new
        → LevelsLeft prime (level + 1) (suc (length stored)) new (firsts ++ suc (length stored) ∷ []) levels
    level_added leftmost prime level child stored new firsts levels it adds = at it.left it.chains it.named it.room it.same_pages it.same_firsts
      where
        at : (left : List (List Cell)) → AreChains fan pages level (leftmost ∷ prime) left → EachIsParent (it.below ∷ left) → length stored + length (flat_map numbers_of left) ≤ MAX_PAGE
            → stored ++ pages_in_all (levels_anew (suc (length stored)) child left) ≡ pages_in_all (levels_anew 1 1 levels)
            → firsts ++ firsts_anew (suc (length stored)) left ≡ firsts_anew 1 levels
            → LevelsLeft prime (level + 1) (suc (length stored)) new (firsts ++ suc (length stored) ∷ []) levels
        at [] chains named room all numbers = absurd chains
        at (cells ∷ above) chains named room all numbers =
            let first = suc (length stored) in
            let own = pages_in (cells_anew first child cells) in
            let is : new ≡ stored ++ own = adds level None cells (next_level leftmost prime level child stored it.below cells above chains named it.below_is_last it.first_child room) in
            let count : length new ≡ length stored + length cells = omega (arith, ap length is, length-append stored own, length-pages_in first child cells) in
            let next : suc (length new) ≡ first + length cells = omega arith in
            let total = total-cons cells above in
            record {
              below = cells;
              left = above;
              chains = chains.1;
              named = named.1;
              below_is_last = omega arith;
              first_child = omega arith;
              room = omega (arith, total, room);
              same_pages = ap (λ (n : ℕ). new ++ pages_in_all (levels_anew n first above)) next
                  ∙ ap (λ (ps : List PlainPage). ps ++ pages_in_all (levels_anew (first + length cells) first above)) is
                  ∙ append_assoc stored own (pages_in_all (levels_anew (first + length cells) first above))
                  ∙ all;
              same_firsts = ap (λ (n : ℕ). (firsts ++ first ∷ []) ++ firsts_anew n above) next
                  ∙ append_assoc firsts (first ∷ []) (firsts_anew (first + length cells) above)
                  ∙ numbers;
            }
