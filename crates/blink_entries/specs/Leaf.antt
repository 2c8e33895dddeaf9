-- The leaf that a key belongs to.
use Rattle.std.specs.Prelude.{◌≡◌, ℕ, Some}
use Rattle.blink_page.specs.{PlainPage, IsKeyOf}
use Rattle.blink_store.specs.{PlainStore, page_of}

-- the page is a leaf of the store, and the key is above its floor and at most its high key
pub record IsLeafFor (store : PlainStore) (key : ℕ) (leaf : PlainPage) : Type 0 where
  pub number : ℕ
  pub there : page_of store number ≡ Some leaf
  pub is_leaf : leaf.level ≡ 0
  pub belongs : IsKeyOf leaf key
