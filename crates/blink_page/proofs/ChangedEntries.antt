-- What a change of the entries keeps: their order, their number, their values.
use Rattle.std.proofs.Common.{◌≡◌, ℕ, ◌+◌, ◌<◌, ◌≤◌, leb, eqb, List, [], ◌∷◌, ◌++◌, length, get_or, drop, zero, suc, None, IsSome, refl, arith}
use Rattle.std.specs.List.{refill}
use Rattle.std.proofs.Math.Seq.{take-append_seam}
use Rattle.std.proofs.lemmas.Bool.{cond_both}
use Rattle.std.proofs.lemmas.Bool.Decides.{nat_tests}
use Rattle.blink_page.specs.Rising.{IsRising, Covers}
use Rattle.blink_page.specs.Entries.{value_at, added, removed, replaced, posted, ValuesWithin}
use Rattle.blink_page.specs.Page.{PlainPage, entries_with}
use Rattle.blink_page.proofs.RisingKeys.{rising_from_below}

-- one more entry in a leaf is one added
pub entries_with-leaf : (p : PlainPage) (entry : ℕ × ℕ) → p.level ≡ 0 → entries_with p entry ≡ added entry p.entries
entries_with-leaf p entry leaf = grind (arith, nat_tests)

-- in an inner page it is one posted
pub entries_with-inner : (p : PlainPage) (entry : ℕ × ℕ) → 0 < p.level → entries_with p entry ≡ posted entry p.entries
entries_with-inner p entry inner = grind (arith, nat_tests)

module _ (key value : ℕ) where
  -- a new key within the bounds keeps the order
  pub rising_added : (from : ℕ) (xs : List (ℕ × ℕ)) (to : ℕ) → IsRising from xs to → from ≤ key → key < to → value_at key xs ≡ None → IsRising from (added (key, value) xs) to
  rising_added from [] to rising above below absent = (above, omega arith)
  rising_added from ((k, v) ∷ rest) to rising above below absent =
      cond_both (leb key k) _ _ (λ zs. IsRising from zs to)
      (λ at_most. (above, (grind (arith, nat_tests), rising.1)))
      (λ greater. (rising.0, rising_added (k + 1) rest to rising.1 (grind (arith, nat_tests)) below (grind (arith, nat_tests))))

  -- one entry more
  pub length-added : (xs : List (ℕ × ℕ)) → length (added (key, value) xs) ≡ length xs + 1
  length-added [] = refl
  length-added ((k, v) ∷ rest) = grind (arith, nat_tests, length-added rest)

  -- a new value within the bounds
  pub values_added : (least greatest : ℕ) (xs : List (ℕ × ℕ)) → ValuesWithin least greatest xs → least ≤ value → value ≤ greatest → ValuesWithin least greatest (added (key, value) xs)
  values_added least greatest [] within above below = (above, below, tt)
  values_added least greatest ((k, v) ∷ rest) within above below =
      cond_both (leb key k) _ _ (ValuesWithin least greatest)
      (λ at_most. (above, below, within))
      (λ greater. (within.0, within.1, values_added least greatest rest within.2 above below))

module _ (key : ℕ) where
  -- without an entry the order stays
  pub rising_removed : (from : ℕ) (xs : List (ℕ × ℕ)) (to : ℕ) → IsRising from xs to → IsRising from (removed key xs) to
  rising_removed from [] to rising = rising
  rising_removed from ((k, v) ∷ rest) to rising =
      cond_both (eqb k key) _ _ (λ zs. IsRising from zs to)
      (λ same. rising_from_below from (k + 1) rest to (omega (arith, rising.0)) rising.1)
      (λ other. (rising.0, rising_removed (k + 1) rest to rising.1))

  -- one entry less
  pub length-removed : (xs : List (ℕ × ℕ)) → IsSome (value_at key xs) → length (removed key xs) + 1 ≡ length xs
  length-removed [] found = cc
  length-removed ((k, v) ∷ rest) found = grind (arith, nat_tests, length-removed rest)

  -- or none, where the key is not there
  pub removed-absent : (xs : List (ℕ × ℕ)) → value_at key xs ≡ None → removed key xs ≡ xs
  removed-absent [] absent = refl
  removed-absent ((k, v) ∷ rest) absent = grind (arith, nat_tests, removed-absent rest)

  -- in no case more
  pub length-removed-at_most : (xs : List (ℕ × ℕ)) → length (removed key xs) ≤ length xs
  length-removed-at_most [] = omega arith
  length-removed-at_most ((k, v) ∷ rest) = grind (arith, nat_tests, length-removed-at_most rest)

  -- the values that stay are as they were
  pub values_removed : (least greatest : ℕ) (xs : List (ℕ × ℕ)) → ValuesWithin least greatest xs → ValuesWithin least greatest (removed key xs)
  values_removed least greatest [] within = tt
  values_removed least greatest ((k, v) ∷ rest) within =
      cond_both (eqb k key) _ _ (ValuesWithin least greatest)
      (λ same. within.2)
      (λ other. (within.0, within.1, values_removed least greatest rest within.2))

module _ (key value : ℕ) where
  -- with another value the order stays
  pub rising_replaced : (from : ℕ) (xs : List (ℕ × ℕ)) (to : ℕ) → IsRising from xs to → IsRising from (replaced (key, value) xs) to
  rising_replaced from [] to rising = rising
  rising_replaced from ((k, v) ∷ rest) to rising =
      cond_both (eqb k key) _ _ (λ zs. IsRising from zs to)
      (λ same. rising)
      (λ other. (rising.0, rising_replaced (k + 1) rest to rising.1))

  -- there are as many entries
  pub length-replaced : (xs : List (ℕ × ℕ)) → length (replaced (key, value) xs) ≡ length xs
  length-replaced [] = refl
  length-replaced ((k, v) ∷ rest) = grind (arith, nat_tests, length-replaced rest)

  -- which are the same, where the key is not there
  pub replaced-absent : (xs : List (ℕ × ℕ)) → value_at key xs ≡ None → replaced (key, value) xs ≡ xs
  replaced-absent [] absent = refl
  replaced-absent ((k, v) ∷ rest) absent = grind (arith, nat_tests, replaced-absent rest)

  -- the other values are as they were
  pub values_replaced : (least greatest : ℕ) (xs : List (ℕ × ℕ)) → ValuesWithin least greatest xs → least ≤ value → value ≤ greatest → ValuesWithin least greatest (replaced (key, value) xs)
  values_replaced least greatest [] within above below = tt
  values_replaced least greatest ((k, v) ∷ rest) within above below =
      cond_both (eqb k key) _ _ (ValuesWithin least greatest)
      (λ same. (above, below, within.2))
      (λ other. (within.0, within.1, values_replaced least greatest rest within.2 above below))

module _ (separator new : ℕ) where
  -- a new separator below the end keeps the order and the end
  pub covers_posted : (from : ℕ) (xs : List (ℕ × ℕ)) (to : ℕ) → Covers from xs to → from ≤ separator → separator < to → value_at separator xs ≡ None → Covers from (posted (separator, new) xs) to
  covers_posted from [] to covers above below absent = absurd (omega arith)
  covers_posted from ((k, v) ∷ rest) to covers above below absent =
      cond_both (leb separator k) _ _ (λ zs. Covers from zs to)
      (λ at_most. (above, (grind (arith, nat_tests), covers.1)))
      (λ greater. (covers.0, covers_posted (k + 1) rest to covers.1 (grind (arith, nat_tests)) below (grind (arith, nat_tests))))

  -- one entry more
  pub length-posted : (from : ℕ) (xs : List (ℕ × ℕ)) (to : ℕ) → Covers from xs to → from ≤ separator → separator < to → length (posted (separator, new) xs) ≡ length xs + 1
  length-posted from [] to covers above below = absurd (omega arith)
  length-posted from ((k, v) ∷ rest) to covers above below = grind (arith, nat_tests, covers.1, length-posted (k + 1) rest to covers.1)

  -- a new child within the bounds
  pub values_posted : (least greatest : ℕ) (xs : List (ℕ × ℕ)) → ValuesWithin least greatest xs → least ≤ new → new ≤ greatest → ValuesWithin least greatest (posted (separator, new) xs)
  values_posted least greatest [] within above below = tt
  values_posted least greatest ((k, v) ∷ rest) within above below =
      cond_both (leb separator k) _ _ (ValuesWithin least greatest)
      (λ at_most. (within.0, within.1, (above, below, within.2)))
      (λ greater. (within.0, within.1, values_posted least greatest rest within.2 above below))

-- values within bounds are within wider ones
pub values_wider : (least greatest lower higher : ℕ) (xs : List (ℕ × ℕ)) → lower ≤ least → greatest ≤ higher → ValuesWithin least greatest xs → ValuesWithin lower higher xs
values_wider least greatest lower higher [] below above within = tt
values_wider least greatest lower higher (x ∷ xs) below above within = (omega (arith, within.0), omega (arith, within.1), values_wider least greatest lower higher xs below above within.2)

-- the values of two lists in one
pub ValuesWithin-append : (least greatest : ℕ) (xs ys : List (ℕ × ℕ)) → ValuesWithin least greatest xs → ValuesWithin least greatest ys → ValuesWithin least greatest (xs ++ ys)
ValuesWithin-append least greatest [] ys before after = after
ValuesWithin-append least greatest (x ∷ xs) ys before after = (before.0, before.1, ValuesWithin-append least greatest xs ys before.2 after)

-- those of a prefix
pub values_prefix : (least greatest : ℕ) (xs ys : List (ℕ × ℕ)) → ValuesWithin least greatest (xs ++ ys) → ValuesWithin least greatest xs
values_prefix least greatest [] ys within = tt
values_prefix least greatest (x ∷ xs) ys within = (within.0, within.1, values_prefix least greatest xs ys within.2)

-- and those of the rest
pub values_rest : (least greatest : ℕ) (xs ys : List (ℕ × ℕ)) → ValuesWithin least greatest (xs ++ ys) → ValuesWithin least greatest ys
values_rest least greatest [] ys within = within
values_rest least greatest (x ∷ xs) ys within = values_rest least greatest xs ys within.2

-- the value at an index
pub value_within : (least greatest : ℕ) (xs : List (ℕ × ℕ)) (i : ℕ) (d : ℕ × ℕ) → ValuesWithin least greatest xs → i < length xs → (least ≤ (get_or xs i d).1) × ((get_or xs i d).1 ≤ greatest)
value_within least greatest [] i d within inside = absurd (omega arith)
value_within least greatest (x ∷ xs) zero d within inside = (within.0, within.1)
value_within least greatest (x ∷ xs) (suc i) d within inside = value_within least greatest xs i d within.2 (omega arith)

-- a list written over one of its length
pub refill-all : (xs ws : List (ℕ × ℕ)) → length ws ≡ length xs → refill (length xs) xs ws ≡ ws
refill-all xs ws same = rw (← same) (take-append_seam ws (drop (length ws) xs))
