-- How a search reaches a page: down from the root, and to the right.
use Rattle.std.specs.Prelude.{◌≡◌, ℕ, ◌<◌, ◌≤◌, Some, None, List}
use Rattle.std.specs.List.{last_or}
use Rattle.blink_page.specs.{child_for, value_at, PlainPage, IsKeyOf}
use Rattle.blink_rest.specs.Chain.{Pages}

-- the root: the last page that the prime block names, which is the leftmost of the top level
abbrev pub IsRoot : List ℕ → ℕ → Type 0
IsRoot prime root = last_or None prime ≡ Some root

-- a search for the key from the root reaches a page: the root; or the right link of a reached page whose high key is below the
-- key; or, of a reached inner page whose high key is at least the key, the child of the first separator that is at least the key
pub data Reaches (pages : Pages) (root key : ℕ) : ℕ → Type 0 where
  at_root : Reaches pages root key root
  to_right : (number next : ℕ) (page : PlainPage) → Reaches pages root key number → pages number ≡ Some page → page.high < key → page.right ≡ Some next → Reaches pages root key next
  down : (number child : ℕ) (page : PlainPage) → Reaches pages root key number → pages number ≡ Some page → 0 < page.level → key ≤ page.high → child_for key page.entries ≡ Some child → Reaches pages root key child

-- the leaf that a key belongs to: the key is above the leaf's floor and at most its high key, and has an entry in the tree
-- exactly if it has one in the leaf, with the same value
pub record IsLeafOf (pages : Pages) (entries : List (ℕ × ℕ)) (key number : ℕ) (leaf : PlainPage) : Type 0 where
  pub there : pages number ≡ Some leaf
  pub is_leaf : leaf.level ≡ 0
  pub belongs : IsKeyOf leaf key
  pub same_value : value_at key entries ≡ value_at key leaf.entries

-- a search for the key from the root ends at one leaf, which is the leaf that the key belongs to
pub record EndsAtLeaf (prime : List ℕ) (pages : Pages) (entries : List (ℕ × ℕ)) (key : ℕ) : Type 0 where
  pub root : ℕ
  pub is_root : IsRoot prime root
  pub number : ℕ
  pub leaf : PlainPage
  pub is_leaf_of : IsLeafOf pages entries key number leaf
  pub reached : Reaches pages root key number
  pub no_other_reached : (other : ℕ) (page : PlainPage) → Reaches pages root key other → pages other ≡ Some page → page.level ≡ 0 → other ≡ number
  pub no_other_belongs : (other : ℕ) (page : PlainPage) → pages other ≡ Some page → page.level ≡ 0 → IsKeyOf page key → other ≡ number

-- a search for the key from the root ends at a leaf that stores this pointer for the key
pub record IsReached (prime : List ℕ) (pages : Pages) (key pointer : ℕ) : Type 0 where
  pub root : ℕ
  pub is_root : IsRoot prime root
  pub number : ℕ
  pub leaf : PlainPage
  pub there : pages number ≡ Some leaf
  pub is_leaf : leaf.level ≡ 0
  pub reached : Reaches pages root key number
  pub has_entry : value_at key leaf.entries ≡ Some pointer
