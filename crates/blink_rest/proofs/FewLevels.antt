-- Few levels: each has at least twice as many pages as the one above, so a tree at rest has at most 20.
use Rattle.std.proofs.Common.{ℕ, ◌+◌, ◌<◌, ◌≤◌, Option, Some, None, List, [], ◌∷◌, length, zero, suc, inl, inr, ap, arith, length-append}
use Rattle.std.proofs.lemmas.List.{length-map}
use Rattle.std.specs.List.{flat_map}
use Rattle.std.proofs.lemmas.Bool.{cases_lt}
use Rattle.blink_page.specs.declared.limits.TheConstants.{GREATEST_KEY, MAX_PAGE}
use Rattle.blink_rest.specs.Chain.{Pages, Cell, InLine, IsChain}
use Rattle.blink_rest.specs.Level.{entries_along, numbers_of, IsParentOf}
use Rattle.blink_rest.specs.Rest.{AreChains, EachIsParent, TopHasOne, AreLevels}
use Rattle.blink_rest.proofs.NoPageLeftOut.{AreNumbered, levels_at_most}

-- two to the power of n
abbrev pub two_to : ℕ → ℕ
two_to zero = 1
two_to (suc n) = two_to n + two_to n

two_to_rises : (n m : ℕ) → n ≤ m → two_to n ≤ two_to m
two_to_rises zero zero below = omega arith
two_to_rises zero (suc m) below = omega (arith, two_to_rises zero m (omega arith))
two_to_rises (suc n) zero below = absurd (omega arith)
two_to_rises (suc n) (suc m) below = omega (arith, two_to_rises n m (omega arith))

-- the pages of an inner level have at least two entries each
pub two_each : (fan level : ℕ) (floor link : Option ℕ) (cells : List Cell) (last_floor last_link : Option ℕ) → 0 < level
    → InLine fan level floor link cells last_floor last_link → length cells + length cells ≤ length (entries_along cells)
two_each fan level floor link [] last_floor last_link inner line = omega arith
two_each fan level floor link (c ∷ cells) last_floor last_link inner line =
    let same_level = line.2 in
    let two = (line.3.inner (omega arith)).two_at_least in
    let more = two_each fan level (Some c.page.high) c.page.right cells last_floor last_link inner line.4 in
    omega (arith, length-append c.page.entries (entries_along cells))

-- so a level that is named has at least twice as many pages as the one that names it
pub twice_as_many : (fan level left : ℕ) (pages : Pages) (upper lower : List Cell) → IsChain fan pages (level + 1) left upper → IsParentOf upper lower
    → length upper + length upper ≤ length lower
twice_as_many fan level left pages upper lower chain names =
    omega (
      arith,
      two_each fan (level + 1) None (Some left) upper (Some GREATEST_KEY) None (omega arith) chain.in_line,
      length-map (entries_along upper) (λ (entry : ℕ × ℕ). entry.1),
      length-map lower (λ (c : Cell). c.number),
      ap length names.children_are_pages,
    )

module _ (fan : ℕ) (pages : Pages) where
  -- the pages of the lowest of h levels are at least 2 to the power of h - 1, and all pages 2 to the power of h less one
  pages_for : (level : ℕ) (prime : List ℕ) (cells : List Cell) (above : List (List Cell)) → AreChains fan pages level prime (cells ∷ above) → EachIsParent (cells ∷ above) → TopHasOne (cells ∷ above)
      → (two_to (length above) ≤ length cells) × (two_to (suc (length above)) ≤ length (flat_map numbers_of (cells ∷ above)) + 1)
  pages_for level [] cells above chains named one = absurd chains
  pages_for level (leftmost ∷ prime) cells [] chains named one =
      (omega arith, omega (arith, length-append (numbers_of cells) [], length-map cells (λ (c : Cell). c.number)))
  pages_for level (leftmost ∷ []) cells (upper ∷ above) chains named one = absurd chains.1
  pages_for level (leftmost ∷ left ∷ prime) cells (upper ∷ above) chains named one =
      let more = pages_for (level + 1) (left ∷ prime) upper above chains.1 named.1 one in
      let twice = twice_as_many fan level left pages upper cells chains.1.0 named.0 in
      let low = more.0 in let all = more.1 in
      let here : two_to (suc (length above)) ≤ length cells = omega arith in
      (here, omega (arith, length-append (numbers_of cells) (flat_map numbers_of (upper ∷ above)), length-map cells (λ (c : Cell). c.number)))

  -- a tree at rest whose pages are those from 1 to n has at most 20 levels
  pub at_most_20_levels : (n : ℕ) (prime : List ℕ) (levels : List (List Cell)) → AreNumbered n pages → n ≤ MAX_PAGE → AreLevels fan prime pages levels → length levels ≤ 20
  at_most_20_levels n prime [] numbered room at_rest = omega arith
  at_most_20_levels n prime (cells ∷ above) numbered room at_rest =
      let all = (pages_for 0 prime cells above at_rest.chains at_rest.named at_rest.one_root).1 in
      let most = levels_at_most n fan pages numbered 0 prime (cells ∷ above) at_rest.chains in
      elim (cases_lt 20 (length (cells ∷ above))) [
        | inr few ↦ few
        | inl many ↦ absurd (omega (arith, two_to_rises 21 (length (cells ∷ above)) (omega arith)))
      ]
