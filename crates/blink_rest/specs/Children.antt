-- The children of an inner page of a tree at rest.
use Rattle.std.specs.Prelude.{◌≡◌, ℕ, ◌+◌, Option, Some, List, slice_get}
use Rattle.blink_page.specs.{PlainPage}
use Rattle.blink_rest.specs.Chain.{Cell, IsChain, Pages}
use Rattle.blink_rest.specs.References.{BeginsAt, Refers}
use Rattle.blink_rest.specs.Walk.{IsInLine}

-- the page refers to the chain of the level just below it: each child exists there, and its floor is the separator before its
-- own, or the page's floor for the first child
pub record RefersBelow (fan : ℕ) (prime : List ℕ) (pages : Pages) (page : PlainPage) : Type 0 where
  pub level : ℕ
  pub just_below : level + 1 ≡ page.level
  pub leftmost : ℕ
  pub is_named : slice_get prime level ≡ Some leftmost
  pub below : List Cell
  pub chain : IsChain fan pages level leftmost below
  pub refers : Refers below page.floor page.entries
  -- a number that begins there is that of a page of the tree, with that level and that floor
  pub each_exists : (child : ℕ) (floor : Option ℕ) → BeginsAt below child floor → IsInLine pages child level floor
