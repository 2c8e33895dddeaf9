-- What stands at the place where a search ends.
use Rattle.std.proofs.Common.{◌≡◌, ◌≢◌, ℕ, zero, suc, ◌+◌, ◌<◌, ◌≤◌, List, [], ◌∷◌, length, get_or, set, Some, None, IsSome, refl, arith}
use Rattle.std.specs.List.{insert, remove}
use Rattle.std.proofs.lemmas.Bool.Decides.{nat_tests}
use Rattle.blink_page.specs.Rising.{IsRising, Covers}
use Rattle.blink_page.specs.Entries.{value_at, child_for, added, removed, replaced, posted}
use Rattle.blink_page.specs.Place.{place_of}
use Rattle.blink_page.proofs.LookUps.{value_at-below}

-- entries whose keys rise are at or above where they begin
pub rising_get : (d : ℕ × ℕ) (from i : ℕ) (xs : List (ℕ × ℕ)) (to : ℕ) → IsRising from xs to → i < length xs → from ≤ (get_or xs i d).0
rising_get d from i [] to rising inside = absurd (omega arith)
rising_get d from zero ((k, v) ∷ rest) to rising inside = rising.0
rising_get d from (suc i) ((k, v) ∷ rest) to rising inside = omega (arith, rising.0, rising_get d (k + 1) i rest to rising.1 (omega arith))

module _ (key : ℕ) where
  pub place_at_most : (xs : List (ℕ × ℕ)) → place_of key xs ≤ length xs
  place_at_most [] = omega arith
  place_at_most ((k, v) ∷ rest) = grind (arith, nat_tests, place_at_most rest)

  -- an entry at or above the key is not before the place
  pub place-at_or_above : (d : ℕ × ℕ) (i : ℕ) (xs : List (ℕ × ℕ)) → i < length xs → key ≤ (get_or xs i d).0 → place_of key xs ≤ i
  place-at_or_above d i [] inside above = absurd (omega arith)
  place-at_or_above d zero ((k, v) ∷ rest) inside above = grind (arith, nat_tests, above)
  place-at_or_above d (suc i) ((k, v) ∷ rest) inside above = grind (arith, nat_tests, place-at_or_above d i rest (omega arith) above)

  -- where the keys rise, an entry below the key is
  pub place-below : (d : ℕ × ℕ) (from i : ℕ) (xs : List (ℕ × ℕ)) (to : ℕ) → IsRising from xs to → i < length xs → (get_or xs i d).0 < key → i < place_of key xs
  place-below d from i [] to rising inside below = absurd (omega arith)
  place-below d from zero ((k, v) ∷ rest) to rising inside below = grind (arith, nat_tests, below)
  place-below d from (suc i) ((k, v) ∷ rest) to rising inside below =
      grind (arith, nat_tests, below, rising_get d (k + 1) i rest to rising.1 (omega arith), place-below d (k + 1) i rest to rising.1 (omega arith) below)

  -- where the entries cover the key, one is at or above it
  pub place_covered : (from : ℕ) (xs : List (ℕ × ℕ)) (to : ℕ) → Covers from xs to → from ≤ key → key < to → place_of key xs < length xs
  place_covered from [] to covers above below = absurd (omega arith)
  place_covered from ((k, v) ∷ rest) to covers above below = grind (arith, nat_tests, covers.1, place_covered (k + 1) rest to covers.1)

  -- so too where the key is below all that they cover
  pub place_below_end : (from : ℕ) (xs : List (ℕ × ℕ)) (to : ℕ) → Covers from xs to → 0 < length xs → key < to → place_of key xs < length xs
  place_below_end from [] to covers some below = absurd (omega arith)
  place_below_end from ((k, v) ∷ rest) to covers some below = grind (arith, nat_tests, covers.1, place_covered (k + 1) rest to covers.1)

  -- an entry is added at its key's place
  pub added-place : (value : ℕ) (xs : List (ℕ × ℕ)) → added (key, value) xs ≡ insert xs (place_of key xs) (key, value)
  added-place value [] = refl
  added-place value ((k, v) ∷ rest) = grind (arith, nat_tests, added-place value rest)

  -- a separator is posted there
  pub posted-place : (new : ℕ) (d : ℕ × ℕ) (xs : List (ℕ × ℕ)) → place_of key xs < length xs
      → posted (key, new) xs ≡ insert (set xs (place_of key xs) ((get_or xs (place_of key xs) d).0, new)) (place_of key xs) (key, (get_or xs (place_of key xs) d).1)
  posted-place new d [] inside = absurd (omega arith)
  posted-place new d ((k, v) ∷ rest) inside = grind (arith, nat_tests, posted-place new d rest)

  -- the child there is the one to go down to
  pub child_for-place : (d : ℕ × ℕ) (xs : List (ℕ × ℕ)) → place_of key xs < length xs → child_for key xs ≡ Some (get_or xs (place_of key xs) d).1
  child_for-place d [] inside = absurd (omega arith)
  child_for-place d ((k, v) ∷ rest) inside = grind (arith, nat_tests, child_for-place d rest)

  -- the entry there has the key, or none has
  pub value_at-place : (d : ℕ × ℕ) (xs : List (ℕ × ℕ)) → place_of key xs < length xs → (get_or xs (place_of key xs) d).0 ≡ key → value_at key xs ≡ Some (get_or xs (place_of key xs) d).1
  value_at-place d [] inside same = absurd (omega arith)
  value_at-place d ((k, v) ∷ rest) inside same = grind (arith, nat_tests, value_at-place d rest)

  pub value_at-place_other : (from : ℕ) (d : ℕ × ℕ) (xs : List (ℕ × ℕ)) (to : ℕ) → IsRising from xs to → (get_or xs (place_of key xs) d).0 ≢ key → value_at key xs ≡ None
  value_at-place_other from d [] to rising differ = refl
  value_at-place_other from d ((k, v) ∷ rest) to rising differ = grind (arith, nat_tests, value_at-below key (k + 1) rest to rising.1, value_at-place_other (k + 1) d rest to rising.1)

  pub value_at-place_end : (xs : List (ℕ × ℕ)) → length xs ≤ place_of key xs → value_at key xs ≡ None
  value_at-place_end [] end = refl
  value_at-place_end ((k, v) ∷ rest) end = grind (arith, nat_tests, value_at-place_end rest)

  -- a key that is there is at its place
  pub place_found : (from : ℕ) (xs : List (ℕ × ℕ)) (to : ℕ) → IsRising from xs to → IsSome (value_at key xs) → place_of key xs < length xs
  place_found from [] to rising found = cc
  place_found from ((k, v) ∷ rest) to rising found = grind (arith, nat_tests, value_at-below key (k + 1) rest to rising.1, place_found (k + 1) rest to rising.1)

  pub removed-place : (from : ℕ) (xs : List (ℕ × ℕ)) (to : ℕ) → IsRising from xs to → IsSome (value_at key xs) → removed key xs ≡ remove xs (place_of key xs)
  removed-place from [] to rising found = cc
  removed-place from ((k, v) ∷ rest) to rising found = grind (arith, nat_tests, value_at-below key (k + 1) rest to rising.1, removed-place (k + 1) rest to rising.1)

  pub replaced-place : (value from : ℕ) (xs : List (ℕ × ℕ)) (to : ℕ) → IsRising from xs to → IsSome (value_at key xs) → replaced (key, value) xs ≡ set xs (place_of key xs) (key, value)
  replaced-place value from [] to rising found = cc
  replaced-place value from ((k, v) ∷ rest) to rising found = grind (arith, nat_tests, value_at-below key (k + 1) rest to rising.1, replaced-place value (k + 1) rest to rising.1)
