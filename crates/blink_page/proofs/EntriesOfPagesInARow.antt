-- Pages in a row, as the entries of one level: a change of one page's entries is a change of the level's.
use Rattle.std.proofs.Common.{◌≡◌, ◌≢◌, ℕ, ◌+◌, ◌<◌, ◌≤◌, List, [], ◌∷◌, ◌++◌, IsSome, is_some, refl, arith}
use Rattle.std.proofs.lemmas.Bool.Decides.{nat_tests}
use Rattle.blink_page.specs.Rising.{IsRising, Covers}
use Rattle.blink_page.specs.Entries.{value_at, added, removed, replaced, posted}
use Rattle.blink_page.proofs.RisingKeys.{from_at_most_to}
use Rattle.blink_page.proofs.ChangedEntries.{removed-absent, replaced-absent}
use Rattle.blink_page.proofs.LookUps.{value_at-below}

module _ (key value : ℕ) where
  -- a key below all is added first
  added-below : (from : ℕ) (xs : List (ℕ × ℕ)) (to : ℕ) → IsRising from xs to → key < from → added (key, value) xs ≡ (key, value) ∷ xs
  added-below from [] to rising below = refl
  added-below from ((k, v) ∷ rest) to rising below = grind (arith, nat_tests, rising.0)

  -- an entry is added to the page that its key belongs to
  pub added-append_prefix : (middle : ℕ) (xs ys : List (ℕ × ℕ)) (to : ℕ) → IsRising middle ys to → key < middle → added (key, value) (xs ++ ys) ≡ added (key, value) xs ++ ys
  added-append_prefix middle [] ys to rising below = added-below middle ys to rising below
  added-append_prefix middle ((k, v) ∷ xs) ys to rising below = grind (arith, nat_tests, added-append_prefix middle xs ys to rising below)

  pub added-append_rest : (from : ℕ) (xs ys : List (ℕ × ℕ)) (middle : ℕ) → IsRising from xs middle → middle ≤ key → added (key, value) (xs ++ ys) ≡ xs ++ added (key, value) ys
  added-append_rest from [] ys middle rising above = refl
  added-append_rest from ((k, v) ∷ xs) ys middle rising above = grind (arith, nat_tests, from_at_most_to (k + 1) xs middle rising.1, added-append_rest (k + 1) xs ys middle rising.1 above)

module _ (key : ℕ) where
  -- an entry is removed from the page that its key belongs to
  pub removed-append_prefix : (middle : ℕ) (xs ys : List (ℕ × ℕ)) (to : ℕ) → IsRising middle ys to → key < middle → removed key (xs ++ ys) ≡ removed key xs ++ ys
  removed-append_prefix middle [] ys to rising below = removed-absent key ys (value_at-below key middle ys to rising below)
  removed-append_prefix middle ((k, v) ∷ xs) ys to rising below = grind (arith, nat_tests, removed-append_prefix middle xs ys to rising below)

  pub removed-append_rest : (from : ℕ) (xs ys : List (ℕ × ℕ)) (middle : ℕ) → IsRising from xs middle → middle ≤ key → removed key (xs ++ ys) ≡ xs ++ removed key ys
  removed-append_rest from [] ys middle rising above = refl
  removed-append_rest from ((k, v) ∷ xs) ys middle rising above = grind (arith, nat_tests, from_at_most_to (k + 1) xs middle rising.1, removed-append_rest (k + 1) xs ys middle rising.1 above)

module _ (key value : ℕ) where
  -- a value is replaced in the page that its key belongs to
  pub replaced-append_prefix : (middle : ℕ) (xs ys : List (ℕ × ℕ)) (to : ℕ) → IsRising middle ys to → key < middle → replaced (key, value) (xs ++ ys) ≡ replaced (key, value) xs ++ ys
  replaced-append_prefix middle [] ys to rising below = replaced-absent key value ys (value_at-below key middle ys to rising below)
  replaced-append_prefix middle ((k, v) ∷ xs) ys to rising below = grind (arith, nat_tests, replaced-append_prefix middle xs ys to rising below)

  pub replaced-append_rest : (from : ℕ) (xs ys : List (ℕ × ℕ)) (middle : ℕ) → IsRising from xs middle → middle ≤ key → replaced (key, value) (xs ++ ys) ≡ xs ++ replaced (key, value) ys
  replaced-append_rest from [] ys middle rising above = refl
  replaced-append_rest from ((k, v) ∷ xs) ys middle rising above = grind (arith, nat_tests, from_at_most_to (k + 1) xs middle rising.1, replaced-append_rest (k + 1) xs ys middle rising.1 above)

module _ (separator new : ℕ) where
  -- a separator is posted to the page that it belongs to
  pub posted-append_prefix : (from : ℕ) (xs ys : List (ℕ × ℕ)) (middle : ℕ) → Covers from xs middle → from ≤ separator → separator < middle → posted (separator, new) (xs ++ ys) ≡ posted (separator, new) xs ++ ys
  posted-append_prefix from [] ys middle covers above below = absurd (omega arith)
  posted-append_prefix from ((k, v) ∷ xs) ys middle covers above below = grind (arith, nat_tests, posted-append_prefix (k + 1) xs ys middle covers.1)

  pub posted-append_rest : (from : ℕ) (xs ys : List (ℕ × ℕ)) (middle : ℕ) → IsRising from xs middle → middle ≤ separator → posted (separator, new) (xs ++ ys) ≡ xs ++ posted (separator, new) ys
  posted-append_rest from [] ys middle rising above = refl
  posted-append_rest from ((k, v) ∷ xs) ys middle rising above = grind (arith, nat_tests, from_at_most_to (k + 1) xs middle rising.1, posted-append_rest (k + 1) xs ys middle rising.1 above)

  -- the separator that was posted is there
  pub posted_there : (from : ℕ) (xs : List (ℕ × ℕ)) (to : ℕ) → Covers from xs to → from ≤ separator → separator < to → IsSome (value_at separator (posted (separator, new) xs))
  posted_there from [] to covers above below = absurd (omega arith)
  posted_there from ((k, v) ∷ rest) to covers above below = grind (arith, nat_tests, posted_there (k + 1) rest to covers.1)

  -- every other one is there as before
  pub others_there : (other : ℕ) (xs : List (ℕ × ℕ)) → other ≢ separator → is_some (value_at other (posted (separator, new) xs)) ≡ is_some (value_at other xs)
  others_there other [] differ = refl
  others_there other ((k, v) ∷ rest) differ = grind (arith, nat_tests, others_there other rest differ)
