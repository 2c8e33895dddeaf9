-- What a keeper can deal, and which keys of a list were met.
use Rattle.std.specs.Prelude.{◌≡◌, ◌⊎◌, ◌↔◌, ℕ, ◌+◌, ◌<◌, ◌≤◌, Bool, false, List, IsTrue, Contains}
use Rattle.std.specs.BTreeSet.{BTreeSet, contains}
use Rattle.std.specs.Ordering.{nat_cmp}
use Rattle.blink_live.specs.declared.view.Role.TheVariants.{Keeper}
use Rattle.blink_live.specs.declared.view.View.{View}
use Rattle.blink_live.specs.Views.{IsCommon, IsOwned}

-- the keeper's view has these rows and page numbers, and none of these keys is dealt; with them all keys of `taken` are taken. In a
-- common table no key is dealt, and a place is left
pub record CanDeal (v : View) (rows pages : ℕ) (keys taken : List ℕ) : Type 0 where
  pub dealt : ℕ
  pub back : ℕ
  pub role : v.role ≡ Keeper dealt back
  pub owned : (key : ℕ) → Contains keys key → IsOwned v.plan
  pub place_left : IsCommon v.plan → dealt < v.plan.places
  pub enough_rows : v.rows.next + rows ≤ v.rows.stop
  pub enough_pages : v.pages.next + pages ≤ v.pages.stop
  pub free_keys : (key : ℕ) → Contains keys key → ¬ Contains v.taken key
  pub taken_now : (key : ℕ) → Contains taken key ↔ (Contains v.taken key ⊎ Contains keys key)

-- unless memory was refused, the set has exactly the keys met so far
abbrev pub HasMet : Bool → BTreeSet ℕ → List ℕ → Type 0
HasMet refused set before = refused ≡ false → (key : ℕ) → IsTrue (contains nat_cmp set key) ↔ Contains before key
