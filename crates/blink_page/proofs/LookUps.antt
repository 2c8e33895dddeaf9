-- What a look-up finds in keys that rise.
use Rattle.std.proofs.Common.{◌≡◌, ◌≢◌, ℕ, ◌+◌, ◌<◌, ◌≤◌, false, List, [], ◌∷◌, ◌++◌, Option, Some, None, IsSome, is_some, refl, arith}
use Rattle.std.proofs.lemmas.Bool.Decides.{nat_tests}
use Rattle.blink_page.specs.Rising.{IsRising, Covers}
use Rattle.blink_page.specs.Entries.{value_at, child_for, added, removed, replaced}
use Rattle.blink_page.proofs.RisingKeys.{from_at_most_to}

-- what is not there
pub none_unless_some : (found : Option ℕ) → is_some found ≡ false → found ≡ None
none_unless_some None missing = refl
none_unless_some (Some value) missing = cc

module _ (key : ℕ) where
  -- no key is below those that rise from above it
  pub value_at-below : (from : ℕ) (xs : List (ℕ × ℕ)) (to : ℕ) → IsRising from xs to → key < from → value_at key xs ≡ None
  value_at-below from [] to rising below = refl
  value_at-below from ((k, v) ∷ rest) to rising below = grind (arith, nat_tests, rising.0, rising.1, value_at-below (k + 1) rest to rising.1)

  -- nor at or above their end
  pub value_at-above : (from : ℕ) (xs : List (ℕ × ℕ)) (to : ℕ) → IsRising from xs to → to ≤ key → value_at key xs ≡ None
  value_at-above from [] to rising above = refl
  value_at-above from ((k, v) ∷ rest) to rising above = grind (arith, nat_tests, rising.0, from_at_most_to (k + 1) rest to rising.1, value_at-above (k + 1) rest to rising.1)

  -- a key below the end of a prefix is looked up there
  pub value_at-append_prefix : (middle to : ℕ) (xs ys : List (ℕ × ℕ)) → IsRising middle ys to → key < middle → value_at key (xs ++ ys) ≡ value_at key xs
  value_at-append_prefix middle to [] ys rising below = value_at-below middle ys to rising below
  value_at-append_prefix middle to ((k, v) ∷ xs) ys rising below = grind (arith, nat_tests, value_at-append_prefix middle to xs ys rising below)

  -- any other in the rest
  pub value_at-append_rest : (from middle : ℕ) (xs ys : List (ℕ × ℕ)) → IsRising from xs middle → middle ≤ key → value_at key (xs ++ ys) ≡ value_at key ys
  value_at-append_rest from middle [] ys rising above = refl
  value_at-append_rest from middle ((k, v) ∷ xs) ys rising above = grind (arith, nat_tests, from_at_most_to (k + 1) xs middle rising.1, value_at-append_rest (k + 1) middle xs ys rising.1 above)

  -- so is the child for a key
  pub child_for-append_prefix : (from middle : ℕ) (xs ys : List (ℕ × ℕ)) → Covers from xs middle → from ≤ key → key < middle → child_for key (xs ++ ys) ≡ child_for key xs
  child_for-append_prefix from middle [] ys covers above below = absurd (omega arith)
  child_for-append_prefix from middle ((k, v) ∷ xs) ys covers above below = grind (arith, nat_tests, child_for-append_prefix (k + 1) middle xs ys covers.1)

  pub child_for-append_rest : (from middle : ℕ) (xs ys : List (ℕ × ℕ)) → IsRising from xs middle → middle ≤ key → child_for key (xs ++ ys) ≡ child_for key ys
  child_for-append_rest from middle [] ys rising above = refl
  child_for-append_rest from middle ((k, v) ∷ xs) ys rising above = grind (arith, nat_tests, from_at_most_to (k + 1) xs middle rising.1, child_for-append_rest (k + 1) middle xs ys rising.1 above)

  -- each key that the entries cover has a child
  pub child_for-covers : (from to : ℕ) (xs : List (ℕ × ℕ)) → Covers from xs to → from ≤ key → key < to → IsSome (child_for key xs)
  child_for-covers from to [] covers above below = absurd (omega arith)
  child_for-covers from to ((k, v) ∷ xs) covers above below = grind (arith, nat_tests, child_for-covers (k + 1) to xs covers.1)

  -- an added key is found
  pub value_at-added : (value : ℕ) (xs : List (ℕ × ℕ)) → value_at key (added (key, value) xs) ≡ Some value
  value_at-added value [] = grind (arith, nat_tests)
  value_at-added value ((k, v) ∷ rest) = grind (arith, nat_tests, value_at-added value rest)

  -- every other is found as before
  pub value_at-added_other : (other value : ℕ) (xs : List (ℕ × ℕ)) → key ≢ other → value_at key (added (other, value) xs) ≡ value_at key xs
  value_at-added_other other value [] differ = grind (arith, nat_tests)
  value_at-added_other other value ((k, v) ∷ rest) differ = grind (arith, nat_tests, value_at-added_other other value rest differ)

  -- a removed key is not found
  pub value_at-removed : (from : ℕ) (xs : List (ℕ × ℕ)) (to : ℕ) → IsRising from xs to → value_at key (removed key xs) ≡ None
  value_at-removed from [] to rising = refl
  value_at-removed from ((k, v) ∷ rest) to rising = grind (arith, nat_tests, value_at-below (k + 1) rest to rising.1, value_at-removed (k + 1) rest to rising.1)

  pub value_at-removed_other : (other : ℕ) (xs : List (ℕ × ℕ)) → key ≢ other → value_at key (removed other xs) ≡ value_at key xs
  value_at-removed_other other [] differ = refl
  value_at-removed_other other ((k, v) ∷ rest) differ = grind (arith, nat_tests, value_at-removed_other other rest differ)

  -- a key whose value is replaced is found with the new one
  pub value_at-replaced : (value : ℕ) (xs : List (ℕ × ℕ)) → IsSome (value_at key xs) → value_at key (replaced (key, value) xs) ≡ Some value
  value_at-replaced value [] found = cc
  value_at-replaced value ((k, v) ∷ rest) found = grind (arith, nat_tests, value_at-replaced value rest)

  pub value_at-replaced_other : (other value : ℕ) (xs : List (ℕ × ℕ)) → key ≢ other → value_at key (replaced (other, value) xs) ≡ value_at key xs
  value_at-replaced_other other value [] differ = refl
  value_at-replaced_other other value ((k, v) ∷ rest) differ = grind (arith, nat_tests, value_at-replaced_other other value rest differ)
