-- No tree at rest has fewer pages than its entries need.
use Rattle.std.proofs.Common.{◌≡◌, ℕ, ◌+◌, ◌*◌, ◌≤◌, suc, Option, Some, None, List, [], ◌∷◌, length, refl, ap, arith, length-append}
use Rattle.std.specs.List.{flat_map, sum}
use Rattle.std.proofs.Math.Nat.{mul-le-mul_right}
use Rattle.std.proofs.lemmas.List.{length-map}
use Rattle.blink_page.specs.declared.limits.TheConstants.{GREATEST_KEY}
use Rattle.blink_rest.specs.{AreChains, AreEntries, AreLevels, EachIsParent, InLine, IsParentOf, IsStoreAtRest, Pages, TopHasOne, entries_along, numbers_of}
use Rattle.blink_rest.specs.Chain.{Cell}
use Rattle.blink_rest.proofs.Offered.{levels_at_most, same_entries, store_numbered}
use Rattle.blink_store.specs.{PlainStore, page_of}
use Rattle.blink_entries.specs.Packed.{AreFewest, NeedsPages}
use Rattle.blink_entries.proofs.packed.FewestPages.{sum-cons}

-- a line's pages have at most so many entries
line_holds : (fan level : ℕ) (floor link : Option ℕ) (cells : List Cell) (last_floor last_link : Option ℕ) → InLine fan level floor link cells last_floor last_link → length (entries_along cells) ≤ length cells * fan
line_holds fan level floor link [] last_floor last_link line = omega arith
line_holds fan level floor link (c ∷ cells) last_floor last_link line =
    let more = line_holds fan level (Some c.page.high) c.page.right cells last_floor last_link line.4 in
    let most = line.3.at_most_fan in
    let long = length-append c.page.entries (entries_along cells) in
    let times : suc (length cells) * fan ≡ fan + length cells * fan = omega arith in
    omega (arith, more, most, long, times)

some_page : (fan level leftmost : ℕ) (cells : List Cell) → InLine fan level None (Some leftmost) cells (Some GREATEST_KEY) None → 1 ≤ length cells
some_page fan level leftmost [] line = absurd (let none = line.1 in cc)
some_page fan level leftmost (c ∷ cells) line = omega arith

total-cons : (cells : List Cell) (above : List (List Cell)) → length (flat_map numbers_of (cells ∷ above)) ≡ length cells + length (flat_map numbers_of above)
total-cons cells above = let long = length-append (numbers_of cells) (flat_map numbers_of above) in let as_many = length-map cells (λ (c : Cell). c.number) in omega (arith, long, as_many)

entry_for_each : (upper lower : List Cell) → IsParentOf upper lower → length (entries_along upper) ≡ length lower
entry_for_each upper lower names =
    let entries = length-map (entries_along upper) (λ (e : ℕ × ℕ). e.1) in let pages = length-map lower (λ (c : Cell). c.number) in let same = ap length names.children_are_pages in
    omega (arith, entries, pages, same)

-- each level has as many pages at least as are needed
module _ (fan : ℕ) (pages : Pages) where
  at_least : (level count : ℕ) (prime : List ℕ) (cells : List Cell) (above : List (List Cell)) (counts : List ℕ) → AreChains fan pages level prime (cells ∷ above) → EachIsParent (cells ∷ above)
      → TopHasOne (cells ∷ above) → count ≤ length cells * fan → AreFewest fan count counts → sum counts ≤ length (flat_map numbers_of (cells ∷ above))
  at_least level count [] cells above counts chains named one enough fewest = absurd chains
  at_least level count (left ∷ prime) cells above [] chains named one enough fewest = absurd fewest
  at_least level count (left ∷ prime) cells above (n ∷ []) chains named one enough fewest =
      let few = fewest.0.no_fewer (length cells) (some_page fan level left cells chains.0.in_line) enough in
      let total = total-cons cells above in let all = sum-cons n [] in
      omega (arith, few, total, all)
  at_least level count (left ∷ prime) cells [] (n ∷ next ∷ counts) chains named one enough fewest =
      absurd (
      let few = fewest.0.no_fewer (length cells) (some_page fan level left cells chains.0.in_line) enough in
      let many = fewest.1 in omega (arith, few, many, one)
      )
  at_least level count (left ∷ []) cells (upper ∷ above) (n ∷ next ∷ counts) chains named one enough fewest = absurd chains.1
  at_least level count (left ∷ second ∷ prime) cells (upper ∷ above) (n ∷ next ∷ counts) chains named one enough fewest =
      let few = fewest.0.no_fewer (length cells) (some_page fan level left cells chains.0.in_line) enough in
      let holds = line_holds fan (level + 1) None (Some second) upper (Some GREATEST_KEY) None chains.1.0.in_line in
      let each = entry_for_each upper cells named.0 in
      let more = at_least (level + 1) n (second ∷ prime) upper above (next ∷ counts) chains.1 named.1 one (omega (arith, few, holds, each)) fewest.2 in
      let total = total-cons cells (upper ∷ above) in let all = sum-cons n (next ∷ counts) in
      omega (arith, few, more, total, all)

pub no_tree_has_fewer : (store : PlainStore) (entries : List (ℕ × ℕ)) (count : ℕ) → IsStoreAtRest store → AreEntries store.fan store.prime (page_of store) entries
    → NeedsPages store.fan (length entries) count → count ≤ length store.pages
no_tree_has_fewer store entries count at_rest are needs = by store.prime at_rest.0 at_rest.1 are
  where
    by : (prime : List ℕ) (levels : List (List Cell)) → AreLevels store.fan prime (page_of store) levels → AreEntries store.fan prime (page_of store) entries → count ≤ length store.pages
    by prime [] are its = absurd are.one_root
    by [] (cells ∷ above) are its = absurd are.chains
    by (leftmost ∷ prime) (cells ∷ above) are its =
        let own : AreEntries store.fan (leftmost ∷ prime) (page_of store) (entries_along cells) = record { leftmost = leftmost; is_first = refl; leaves = cells; chain = are.chains.0; joined = refl } in
        let same = ap length (same_entries store.fan (page_of store) (leftmost ∷ prime) entries (entries_along cells) its own) in
        let holds = line_holds store.fan 0 None (Some leftmost) cells (Some GREATEST_KEY) None are.chains.0.in_line in
        let least = at_least store.fan (page_of store) 0 (length entries) (leftmost ∷ prime) cells above needs.levels are.chains are.named are.one_root (omega (arith, same, holds)) needs.fewest in
        let most = levels_at_most (length store.pages) store.fan (page_of store) (store_numbered store) 0 (leftmost ∷ prime) (cells ∷ above) are.chains in
        let all = needs.all in
        omega (arith, least, most, all)

-- a tree's pages have at most so many entries
pub few_entries : (store : PlainStore) (entries : List (ℕ × ℕ)) → IsStoreAtRest store → AreEntries store.fan store.prime (page_of store) entries → length entries ≤ length store.pages * store.fan
few_entries store entries at_rest are = by store.prime at_rest.0 at_rest.1 are
  where
    by : (prime : List ℕ) (levels : List (List Cell)) → AreLevels store.fan prime (page_of store) levels → AreEntries store.fan prime (page_of store) entries → length entries ≤ length store.pages * store.fan
    by prime [] are its = absurd are.one_root
    by [] (cells ∷ above) are its = absurd are.chains
    by (leftmost ∷ prime) (cells ∷ above) are its =
        let own : AreEntries store.fan (leftmost ∷ prime) (page_of store) (entries_along cells) = record { leftmost = leftmost; is_first = refl; leaves = cells; chain = are.chains.0; joined = refl } in
        let same = ap length (same_entries store.fan (page_of store) (leftmost ∷ prime) entries (entries_along cells) its own) in
        let holds = line_holds store.fan 0 None (Some leftmost) cells (Some GREATEST_KEY) None are.chains.0.in_line in
        let most = levels_at_most (length store.pages) store.fan (page_of store) (store_numbered store) 0 (leftmost ∷ prime) (cells ∷ above) are.chains in
        let total = total-cons cells above in
        let times : length cells * store.fan ≤ length store.pages * store.fan = mul-le-mul_right store.fan (omega (arith, most, total)) in
        omega (arith, same, holds, times)
