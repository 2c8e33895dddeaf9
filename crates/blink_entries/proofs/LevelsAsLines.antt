-- The levels of a tree one by one, from the top: their pages, and their lines.
use Rattle.std.proofs.Common.{◌≡◌, ℕ, ◌+◌, ◌<◌, zero, suc, Some, None, List, [], ◌∷◌, ◌++◌, length, drop, map, get_or, refl, sym, ap, ◌∙◌, arith}
use Rattle.blink_page.specs.declared.limits.TheConstants.{GREATEST_KEY}
use Rattle.blink_store.specs.{PlainStore, page_of}
use Rattle.blink_rest.specs.{Pages, IsChain, AreChains, IsStoreAtRest}
use Rattle.blink_rest.specs.Chain.{Cell}
use Rattle.blink_entries.specs.Dump.{level_text, text_of}
use Rattle.blink_entries.specs.Index.{cells_of, levels_of}
use Rattle.blink_entries.specs.Laws.{TextIsOfLevels}
use Rattle.blink_entries.specs.Scan.{IsLinkOf}
use Rattle.blink_entries.proofs.PagesAlongLinks.{cells_of-chain, line_within}

-- one of the levels
pub record LevelAt (fan : ℕ) (pages : Pages) (prime : List ℕ) (levels : List (List Cell)) (level : ℕ) : Type 0 where
  pub own : ℕ
  pub cells : List Cell
  pub chain : IsChain fan pages own (get_or prime level 0) cells

module _ (fan : ℕ) (pages : Pages) where
  -- each number that the prime block names has a level
  pub level_at : (base : ℕ) (prime : List ℕ) (levels : List (List Cell)) (level : ℕ) → AreChains fan pages base prime levels → level < length prime → LevelAt fan pages prime levels level
  level_at base [] levels level chains inside = absurd (omega arith)
  level_at base (leftmost ∷ prime) [] level chains inside = absurd chains
  level_at base (leftmost ∷ prime) (cells ∷ above) zero chains inside = record { own = base; cells = cells; chain = chains.0 }
  level_at base (leftmost ∷ prime) (cells ∷ above) (suc level) chains inside =
      let it = level_at (base + 1) prime above level chains.1 (omega arith) in
      record { own = it.own; cells = it.cells; chain = it.chain }

-- so many of the levels are in the text, from the top
abbrev pub IsTextDownTo : PlainStore → ℕ → List ℕ → Type 0
IsTextDownTo store level text = text ≡ text_of (drop level (levels_of store))

module _ {A B : Type 0} (f : A → B) where
  -- past the end of a list nothing is left of its images
  none_left : (xs : List A) → drop (length xs) (map f xs) ≡ []
  none_left [] = refl
  none_left (x ∷ xs) = none_left xs

  -- and before it the next is one's image
  next_left : (xs : List A) (n : ℕ) (d : A) → n < length xs → drop n (map f xs) ≡ f (get_or xs n d) ∷ drop (n + 1) (map f xs)
  next_left [] n d inside = absurd (omega arith)
  next_left (x ∷ xs) zero d inside = refl
  next_left (x ∷ xs) (suc n) d inside =
      let count : suc (n + 1) ≡ suc n + 1 = omega arith in
      next_left xs n d (omega arith) ∙ ap (λ (k : ℕ). f (get_or xs n d) ∷ drop k (f x ∷ map f xs)) count

module _ (store : PlainStore) where
  -- none at first
  pub text_of_none : (count : ℕ) → count ≡ length store.prime → IsTextDownTo store count []
  text_of_none count all =
      sym (ap (λ (k : ℕ). text_of (drop k (levels_of store))) all ∙ ap text_of (none_left (λ (leftmost : ℕ). cells_of store (Some leftmost)) store.prime))

  module _ (level : ℕ) (inside : level < length store.prime) where
    -- a level's leftmost page leads along it
    pub level_link : IsStoreAtRest store → IsLinkOf store (Some (get_or store.prime level 0))
    level_link at_rest =
        let it = level_at store.fan (page_of store) 0 store.prime at_rest.0 level at_rest.1.chains inside in
        record {
          cells = it.cells;
          tail = record { level = it.own; floor = None; pages_there = it.chain.pages_there; in_line = it.chain.in_line };
          few = line_within store it.own (get_or store.prime level 0) it.cells (Some GREATEST_KEY) None it.chain.pages_there it.chain.in_line;
        }

    -- its lines come after those of the levels above it
    pub text_of_more : (text : List ℕ) → IsTextDownTo store (level + 1) text
        → IsTextDownTo store level (text ++ level_text (cells_of store (Some (get_or store.prime level 0))))
    text_of_more text above =
        ap (λ (prefix : List ℕ). prefix ++ level_text (cells_of store (Some (get_or store.prime level 0)))) above
        ∙ sym (ap text_of (next_left (λ (leftmost : ℕ). cells_of store (Some leftmost)) store.prime level 0 inside))

-- the levels that a prime block names are those of its chains
levels_of-chains : (store : PlainStore) (base : ℕ) (prime : List ℕ) (levels : List (List Cell)) → AreChains store.fan (page_of store) base prime levels
    → map (λ (leftmost : ℕ). cells_of store (Some leftmost)) prime ≡ levels
levels_of-chains store base [] [] chains = refl
levels_of-chains store base [] (cells ∷ above) chains = absurd chains
levels_of-chains store base (leftmost ∷ prime) [] chains = absurd chains
levels_of-chains store base (leftmost ∷ prime) (cells ∷ above) chains =
    let first = cells_of-chain store base leftmost cells chains.0 in
    let rest = levels_of-chains store (base + 1) prime above chains.1 in
    λ i. first i ∷ rest i

pub the_text_is_of_the_levels : TextIsOfLevels
the_text_is_of_the_levels store levels are = ap text_of (levels_of-chains store 0 store.prime levels are.chains)
