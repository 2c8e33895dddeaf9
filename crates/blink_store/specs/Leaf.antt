-- A leaf of a store by its number.
use Rattle.std.specs.Prelude.{◌≡◌, ℕ, Some}
use Rattle.blink_page.specs.{IsKeyOf, PlainPage}
use Rattle.blink_store.specs.Store.{PlainStore, page_of}

-- page n is a leaf, and the key is above its floor and at most its high key
pub record IsLeafOf (store : PlainStore) (n key : ℕ) : Type 0 where
  pub leaf : PlainPage
  pub there : page_of store n ≡ Some leaf
  pub is_leaf : leaf.level ≡ 0
  pub belongs : IsKeyOf leaf key
