-- A tree at rest: no operation is under way, and every split is posted.
use Rattle.std.specs.Prelude.{◌≡◌, ℕ, ◌+◌, Some, List, [], ◌∷◌, length, Contains, ⊤}
use Rattle.std.specs.List.{flat_map}
use Rattle.blink_page.specs.{PlainPage}
use Rattle.blink_store.specs.{PlainStore, page_of}
use Rattle.blink_rest.specs.Chain.{Cell, IsChain, Pages}
use Rattle.blink_rest.specs.Level.{IsParentOf, numbers_of}

-- each level that the prime block names is a chain, from this level on
abbrev pub AreChains : ℕ → Pages → ℕ → List ℕ → List (List Cell) → Type 0
AreChains fan pages level [] [] = ⊤
AreChains fan pages level [] (cells ∷ above) = ⊥
AreChains fan pages level (leftmost ∷ prime) [] = ⊥
AreChains fan pages level (leftmost ∷ prime) (cells ∷ above) = IsChain fan pages level leftmost cells × AreChains fan pages (level + 1) prime above

-- each level names the one below it
abbrev pub EachIsParent : List (List Cell) → Type 0
EachIsParent [] = ⊤
EachIsParent (cells ∷ []) = ⊤
EachIsParent (lower ∷ upper ∷ above) = IsParentOf upper lower × EachIsParent (upper ∷ above)

-- the top level has one page
abbrev pub TopHasOne : List (List Cell) → Type 0
TopHasOne [] = ⊥
TopHasOne (cells ∷ []) = length cells ≡ 1
TopHasOne (cells ∷ next ∷ above) = TopHasOne (next ∷ above)

-- the levels of a tree at rest, level 0 first: each is a chain that the one above names, the top level has one page, and every
-- page stands in a chain
pub record AreLevels (fan : ℕ) (prime : List ℕ) (pages : Pages) (levels : List (List Cell)) : Type 0 where
  pub chains : AreChains fan pages 0 prime levels
  pub named : EachIsParent levels
  pub one_root : TopHasOne levels
  pub no_other_page : (number : ℕ) (page : PlainPage) → pages number ≡ Some page → Contains (flat_map numbers_of levels) number

-- the tree of a prime block and its pages is at rest
abbrev pub IsAtRest : ℕ → List ℕ → Pages → Type 0
IsAtRest fan prime pages = (levels : List (List Cell)) × AreLevels fan prime pages levels

-- the tree of a store is at rest
abbrev pub IsStoreAtRest : PlainStore → Type 0
IsStoreAtRest store = IsAtRest store.fan store.prime (page_of store)
