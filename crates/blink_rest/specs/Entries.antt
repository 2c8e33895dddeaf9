-- The entries of a tree: those of its leaves, joined along the chain of level 0.
use Rattle.std.specs.Prelude.{◌≡◌, ℕ, Some, List, slice_get}
use Rattle.blink_rest.specs.Chain.{Cell, IsChain, Pages}
use Rattle.blink_rest.specs.Level.{entries_along}

-- these are the entries of the tree of a prime block and its pages; the prime block names the leftmost leaf first
pub record AreEntries (fan : ℕ) (prime : List ℕ) (pages : Pages) (entries : List (ℕ × ℕ)) : Type 0 where
  pub leftmost : ℕ
  pub is_first : slice_get prime 0 ≡ Some leftmost
  pub leaves : List Cell
  pub chain : IsChain fan pages 0 leftmost leaves
  pub joined : entries ≡ entries_along leaves
