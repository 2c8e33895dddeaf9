-- The levels of a tree at rest with other numbers are those of a tree at rest.
use Rattle.std.proofs.Common.{◌≡◌, ℕ, ◌+◌, ◌<◌, ◌≤◌, zero, suc, Some, None, List, [], ◌∷◌, ◌++◌, inl, inr, length, refl, ap, sym, ◌∙◌, subst, arith, append_assoc, length-append}
use Rattle.std.specs.List.{flat_map}
use Rattle.std.proofs.lemmas.List.{length-map}
use Rattle.std.proofs.lemmas.Bool.{cases_eq}
use Rattle.blink_page.specs.declared.limits.TheConstants.{GREATEST_KEY, MAX_PAGE}
use Rattle.blink_page.specs.{PlainPage}
use Rattle.blink_store.specs.{PlainStore, page_of}
use Rattle.blink_store.proofs.Offered.{has_page}
use Rattle.blink_rest.specs.{IsChain, Pages, AreEntries, entries_along, high_keys, numbers_of, separators, IsParentOf, IsMember, AreChains, AreLevels, EachIsParent, TopHasOne}
use Rattle.blink_rest.specs.Chain.{Cell}
use Rattle.blink_rest.specs.Level.{children}
use Rattle.blink_rest.proofs.Offered.{Contains-from_among, same_entries}
use Rattle.blink_live.specs.Renumbered.{cells_anew, child_count, firsts_anew, levels_anew, numbers_from, pages_in, pages_in_all}
use Rattle.blink_live.proofs.gathered.RenumberedPageIsLawful.{child_count-at_most}
use Rattle.blink_live.proofs.gathered.RenumberedLineIsInLine.{among-cells_anew, children-cells_anew, entries-cells_anew, high_keys-cells_anew, length-cells_anew, line-cells_anew, numbers-cells_anew, numbers_from-add, separators-cells_anew}

-- a number among those in a row
pub among_row : (first count n : ℕ) → first ≤ n → n < first + count → IsMember n (numbers_from first count)
among_row first zero n from below = absurd (omega arith)
among_row first (suc count) n from below = elim (cases_eq n first) [
  | inl same ↦ inl same
  | inr other ↦ inr (among_row (suc first) count n (omega arith) (omega arith))
]

pub length-numbers_from : (first count : ℕ) → length (numbers_from first count) ≡ count
length-numbers_from first zero = refl
length-numbers_from first (suc count) = ap suc (length-numbers_from (suc first) count)

-- how many pages levels have
pub total-cons : (cells : List Cell) (above : List (List Cell)) → length (flat_map numbers_of (cells ∷ above)) ≡ length cells + length (flat_map numbers_of above)
total-cons cells above = omega (arith, length-append (numbers_of cells) (flat_map numbers_of above), length-map cells (λ (c : Cell). c.number))

-- a level that names another has an entry for each of its pages
pub entry_for_each : (upper lower : List Cell) → IsParentOf upper lower → length (entries_along upper) ≡ length lower
entry_for_each upper lower names =
    omega (
      arith,
      length-map (entries_along upper) (λ (e : ℕ × ℕ). e.1),
      length-map lower (λ (c : Cell). c.number),
      ap length names.children_are_pages,
    )

-- the numbers are in a row
pub numbers-levels_anew : (number child : ℕ) (levels : List (List Cell)) → flat_map numbers_of (levels_anew number child levels) ≡ numbers_from number (length (flat_map numbers_of levels))
numbers-levels_anew number child [] = refl
numbers-levels_anew number child (cells ∷ above) =
    let rest = length (flat_map numbers_of above) in
    ap (λ (ns : List ℕ). ns ++ flat_map numbers_of (levels_anew (number + length cells) number above)) (numbers-cells_anew number child cells)
    ∙ ap (λ (ns : List ℕ). numbers_from number (length cells) ++ ns) (numbers-levels_anew (number + length cells) number above)
    ∙ sym (numbers_from-add number (length cells) rest)
    ∙ ap (numbers_from number) (sym (total-cons cells above))

-- as many pages
pub length-levels_anew : (number child : ℕ) (levels : List (List Cell)) → length (pages_in_all (levels_anew number child levels)) ≡ length (flat_map numbers_of levels)
length-levels_anew number child [] = refl
length-levels_anew number child (cells ∷ above) =
    omega (
      arith,
      total-cons cells above,
      length-append (pages_in (cells_anew number child cells)) (pages_in_all (levels_anew (number + length cells) number above)),
      length-map (cells_anew number child cells) (λ (c : Cell). c.page),
      length-cells_anew number child cells,
      length-levels_anew (number + length cells) number above,
    )

-- the top level has one page
top-levels_anew : (number child : ℕ) (levels : List (List Cell)) → TopHasOne levels → TopHasOne (levels_anew number child levels)
top-levels_anew number child [] one = one
top-levels_anew number child (cells ∷ []) one = length-cells_anew number child cells ∙ one
top-levels_anew number child (cells ∷ upper ∷ above) one = top-levels_anew (number + length cells) number (upper ∷ above) one

module _ (fan : ℕ) (pages : Pages) where
  -- each level names the one below it
  names-levels_anew : (level number child : ℕ) (prime : List ℕ) (levels : List (List Cell)) → AreChains fan pages level prime levels → EachIsParent levels → EachIsParent (levels_anew number child levels)
  names-levels_anew level number child prime [] chains named = tt
  names-levels_anew level number child prime (cells ∷ []) chains named = tt
  names-levels_anew level number child [] (cells ∷ upper ∷ above) chains named = absurd chains
  names-levels_anew level number child (leftmost ∷ []) (cells ∷ upper ∷ above) chains named = absurd chains.1
  names-levels_anew level number child (leftmost ∷ left ∷ prime) (cells ∷ upper ∷ above) chains named =
      let names = named.0 in
      let next = number + length cells in
      let keys : separators (cells_anew next number upper) ≡ high_keys (cells_anew number child cells)
      = separators-cells_anew next number upper ∙ names.separators_are_high_keys ∙ sym (high_keys-cells_anew number child cells) in
      let numbers : children (cells_anew next number upper) ≡ numbers_of (cells_anew number child cells)
      = children-cells_anew fan (level + 1) next number None (Some left) upper (Some GREATEST_KEY) None (omega arith) chains.1.0.in_line
      ∙ ap (numbers_from number) (entry_for_each upper cells names) ∙ sym (numbers-cells_anew number child cells) in (
        record { separators_are_high_keys = keys; children_are_pages = numbers },
        names-levels_anew (level + 1) next number (left ∷ prime) (upper ∷ above) chains.1 named.1,
      )

  module _ (store : PlainStore) where
    -- a level is a chain, where its pages stand in the store
    chain-cells_anew : (level number child leftmost : ℕ) (cells : List Cell) (before after : List PlainPage) → IsChain fan pages level leftmost cells
        → number ≡ suc (length before) → store.pages ≡ before ++ (pages_in (cells_anew number child cells) ++ after)
        → number + length cells ≤ MAX_PAGE + 1 → 1 ≤ child → child + child_count level (entries_along cells) ≤ MAX_PAGE + 1
        → IsChain fan (page_of store) level number (cells_anew number child cells)
    chain-cells_anew level number child leftmost cells before after chain next stand room from fits = record {
      pages_there = among-cells_anew store number child cells before after next stand;
      in_line = line-cells_anew fan level number child None (Some leftmost) cells (Some GREATEST_KEY) chain.in_line room from fits;
    }

    -- and so are all levels
    pub chains-levels_anew : (level number child leftmost : ℕ) (prime : List ℕ) (cells : List Cell) (above : List (List Cell)) (before : List PlainPage)
        → AreChains fan pages level (leftmost ∷ prime) (cells ∷ above) → EachIsParent (cells ∷ above) → number ≡ suc (length before)
        → store.pages ≡ before ++ pages_in_all (levels_anew number child (cells ∷ above))
        → number + length (flat_map numbers_of (cells ∷ above)) ≤ MAX_PAGE + 1 → 1 ≤ child → child + child_count level (entries_along cells) ≤ MAX_PAGE + 1
        → AreChains fan (page_of store) level (firsts_anew number (cells ∷ above)) (levels_anew number child (cells ∷ above))
    chains-levels_anew level number child leftmost prime cells [] before chains named next stand room from fits =
        (chain-cells_anew level number child leftmost cells before [] chains.0 next stand (omega (arith, total-cons cells [])) from fits, tt)
    chains-levels_anew level number child leftmost [] cells (upper ∷ above) before chains named next stand room from fits = absurd chains.1
    chains-levels_anew level number child leftmost (left ∷ prime) cells (upper ∷ above) before chains named next stand room from fits =
        let more = pages_in_all (levels_anew (number + length cells) number (upper ∷ above)) in
        let here = pages_in (cells_anew number child cells) in
        let total = total-cons cells (upper ∷ above) in (
          chain-cells_anew level number child leftmost cells before more chains.0 next stand (omega (arith, total)) from fits,
          chains-levels_anew (level + 1) (number + length cells) number left prime upper above (before ++ here) chains.1 named.1
              (omega (arith, next, length-append before here, length-map (cells_anew number child cells) (λ (c : Cell). c.page), length-cells_anew number child cells))
              (stand ∙ sym (append_assoc before here more))
              (omega (arith, total))
              (omega arith)
              (omega (arith, total, total-cons upper above, child_count-at_most (level + 1) (entries_along upper), entry_for_each upper cells named.0)),
        )

    -- so all is a tree at rest, where the store has the pages of all levels and no other
    pub are-levels_anew : (prime : List ℕ) (levels : List (List Cell)) → AreLevels fan prime pages levels → store.pages ≡ pages_in_all (levels_anew 1 1 levels)
        → length (flat_map numbers_of levels) ≤ MAX_PAGE → AreLevels fan (firsts_anew 1 levels) (page_of store) (levels_anew 1 1 levels)
    are-levels_anew prime [] are stand room = absurd are.one_root
    are-levels_anew [] (cells ∷ above) are stand room = absurd are.chains
    are-levels_anew (leftmost ∷ prime) (cells ∷ above) are stand room = record {
      chains = chains-levels_anew 0 1 1 leftmost prime cells above [] are.chains are.named refl stand (omega arith) (omega arith) (omega arith);
      named = names-levels_anew 0 1 1 (leftmost ∷ prime) (cells ∷ above) are.chains are.named;
      one_root = top-levels_anew 1 1 (cells ∷ above) are.one_root;
      no_other_page = λ number page there.
          let has = has_page store number page there in
          let count = ap length stand ∙ length-levels_anew 1 1 (cells ∷ above) in
          Contains-from_among _ number (subst (IsMember number) (sym (numbers-levels_anew 1 1 (cells ∷ above)))
          (among_row 1 (length (flat_map numbers_of (cells ∷ above))) number has.0 (omega (arith, has.1, count))));
    }

    -- numbered from 1 on
    pub in_order-levels_anew : (levels : List (List Cell)) → store.pages ≡ pages_in_all (levels_anew 1 1 levels) → flat_map numbers_of (levels_anew 1 1 levels) ≡ numbers_from 1 (length store.pages)
    in_order-levels_anew levels stand =
        numbers-levels_anew 1 1 levels ∙ ap (numbers_from 1) (sym (ap length stand ∙ length-levels_anew 1 1 levels))

    -- with the same entries
    pub entries-levels_anew : (prime : List ℕ) (levels : List (List Cell)) (entries : List (ℕ × ℕ)) → AreLevels fan prime pages levels → AreEntries fan prime pages entries
        → store.pages ≡ pages_in_all (levels_anew 1 1 levels) → length (flat_map numbers_of levels) ≤ MAX_PAGE → AreEntries fan (firsts_anew 1 levels) (page_of store) entries
    entries-levels_anew prime [] entries are has stand room = absurd are.one_root
    entries-levels_anew [] (cells ∷ above) entries are has stand room = absurd are.chains
    entries-levels_anew (leftmost ∷ prime) (cells ∷ above) entries are has stand room =
        let old : AreEntries fan (leftmost ∷ prime) pages (entries_along cells)
        = record { leftmost = leftmost; is_first = refl; leaves = cells; chain = are.chains.0; joined = refl } in
        let new = are-levels_anew (leftmost ∷ prime) (cells ∷ above) are stand room in
        record {
          leftmost = 1;
          is_first = refl;
          leaves = cells_anew 1 1 cells;
          chain = new.chains.0;
          joined = same_entries fan pages (leftmost ∷ prime) entries (entries_along cells) has old
              ∙ sym (entries-cells_anew fan 1 1 None (Some leftmost) cells (Some GREATEST_KEY) None are.chains.0.in_line);
        }
