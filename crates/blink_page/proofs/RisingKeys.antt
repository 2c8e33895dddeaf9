-- Ascending keys: how what a list spans is widened, joined and cut.
use Rattle.std.proofs.Common.{◌≡◌, ℕ, ◌+◌, ◌<◌, ◌≤◌, List, [], ◌∷◌, ◌++◌, length, refl, arith}
use Rattle.blink_page.specs.Rising.{IsRising, Covers, Rises, next_key}
use Rattle.blink_page.specs.Entries.{last_key_or, last_key}

-- what rises from a key to an end has that end above it
pub from_at_most_to : (from : ℕ) (xs : List (ℕ × ℕ)) (to : ℕ) → IsRising from xs to → from ≤ to
from_at_most_to from [] to rising = rising
from_at_most_to from (x ∷ xs) to rising = omega (arith, rising.0, from_at_most_to (x.0 + 1) xs to rising.1)

-- keys that rise are no more than the numbers between
pub length-rising : (from : ℕ) (xs : List (ℕ × ℕ)) (to : ℕ) → IsRising from xs to → from + length xs ≤ to
length-rising from [] to rising = omega arith
length-rising from (x ∷ xs) to rising = omega (arith, rising.0, length-rising (x.0 + 1) xs to rising.1)

-- keys that rise from somewhere rise from anywhere below
pub rising_from_below : (lower from : ℕ) (xs : List (ℕ × ℕ)) (to : ℕ) → lower ≤ from → IsRising from xs to → IsRising lower xs to
rising_from_below lower from [] to below rising = omega arith
rising_from_below lower from (x ∷ xs) to below rising = (omega (arith, rising.0), rising.1)

-- and to any end above
pub rising_to_above : (from : ℕ) (xs : List (ℕ × ℕ)) (to higher : ℕ) → to ≤ higher → IsRising from xs to → IsRising from xs higher
rising_to_above from [] to higher above rising = omega arith
rising_to_above from (x ∷ xs) to higher above rising = (rising.0, rising_to_above (x.0 + 1) xs to higher above rising.1)

-- keys that rise do so to the least key above them all
pub rising_to_next : (from : ℕ) (xs : List (ℕ × ℕ)) (to : ℕ) → IsRising from xs to → IsRising from xs (next_key from xs)
rising_to_next from [] to rising = omega arith
rising_to_next from (x ∷ xs) to rising = (rising.0, rising_to_next (x.0 + 1) xs to rising.1)

-- so they rise, wherever they begin and end
pub rising_rises : (from : ℕ) (xs : List (ℕ × ℕ)) (to : ℕ) → IsRising from xs to → Rises xs
rising_rises from xs to rising = rising_to_next 0 xs to (rising_from_below 0 from xs to (omega arith) rising)

-- which is no greater than any end
pub next_at_most_to : (from : ℕ) (xs : List (ℕ × ℕ)) (to : ℕ) → IsRising from xs to → next_key from xs ≤ to
next_at_most_to from [] to rising = rising
next_at_most_to from (x ∷ xs) to rising = next_at_most_to (x.0 + 1) xs to rising.1

-- two lists that meet rise as one
pub IsRising-append : (from : ℕ) (xs ys : List (ℕ × ℕ)) (middle to : ℕ) → IsRising from xs middle → IsRising middle ys to → IsRising from (xs ++ ys) to
IsRising-append from [] ys middle to before after = rising_from_below from middle ys to before after
IsRising-append from (x ∷ xs) ys middle to before after = (before.0, IsRising-append (x.0 + 1) xs ys middle to before.1 after)

-- a prefix of what rises does so up to the least key above it
pub rising_prefix : (from : ℕ) (xs ys : List (ℕ × ℕ)) (to : ℕ) → IsRising from (xs ++ ys) to → IsRising from xs (next_key from xs)
rising_prefix from [] ys to rising = omega arith
rising_prefix from (x ∷ xs) ys to rising = (rising.0, rising_prefix (x.0 + 1) xs ys to rising.1)

-- and the rest from there
pub rising_rest : (from : ℕ) (xs ys : List (ℕ × ℕ)) (to : ℕ) → IsRising from (xs ++ ys) to → IsRising (next_key from xs) ys to
rising_rest from [] ys to rising = rising
rising_rest from (x ∷ xs) ys to rising = rising_rest (x.0 + 1) xs ys to rising.1

-- what covers rises
pub covers_rising : (from : ℕ) (xs : List (ℕ × ℕ)) (to : ℕ) → Covers from xs to → IsRising from xs to
covers_rising from [] to covers = omega (arith, covers)
covers_rising from (x ∷ xs) to covers = (covers.0, covers_rising (x.0 + 1) xs to covers.1)

-- and its end is the least key above it
pub covers_next : (from : ℕ) (xs : List (ℕ × ℕ)) (to : ℕ) → Covers from xs to → next_key from xs ≡ to
covers_next from [] to covers = covers
covers_next from (x ∷ xs) to covers = covers_next (x.0 + 1) xs to covers.1

-- what rises covers up to the least key above it
pub covers_to_next : (from : ℕ) (xs : List (ℕ × ℕ)) (to : ℕ) → IsRising from xs to → Covers from xs (next_key from xs)
covers_to_next from [] to rising = refl
covers_to_next from (x ∷ xs) to rising = (rising.0, covers_to_next (x.0 + 1) xs to rising.1)

-- two lists that meet cover as one
pub Covers-append : (from : ℕ) (xs ys : List (ℕ × ℕ)) (middle to : ℕ) → Covers from xs middle → Covers middle ys to → Covers from (xs ++ ys) to
Covers-append from [] ys middle to before after = rw before after
Covers-append from (x ∷ xs) ys middle to before after = (before.0, Covers-append (x.0 + 1) xs ys middle to before.1 after)

-- a prefix of what covers does so up to the least key above it
pub covers_prefix : (from : ℕ) (xs ys : List (ℕ × ℕ)) (to : ℕ) → Covers from (xs ++ ys) to → Covers from xs (next_key from xs)
covers_prefix from [] ys to covers = refl
covers_prefix from (x ∷ xs) ys to covers = (covers.0, covers_prefix (x.0 + 1) xs ys to covers.1)

-- and the rest from there
pub covers_rest : (from : ℕ) (xs ys : List (ℕ × ℕ)) (to : ℕ) → Covers from (xs ++ ys) to → Covers (next_key from xs) ys to
covers_rest from [] ys to covers = covers
covers_rest from (x ∷ xs) ys to covers = covers_rest (x.0 + 1) xs ys to covers.1

-- the least key above some entries is just above the last
pub next_key-last : (from key : ℕ) (xs : List (ℕ × ℕ)) → 0 < length xs → next_key from xs ≡ last_key_or key xs + 1
next_key-last from key [] some = absurd (omega arith)
next_key-last from key ((k, v) ∷ []) some = refl
next_key-last from key ((k, v) ∷ y ∷ rest) some = next_key-last (k + 1) k (y ∷ rest) (omega arith)

-- what covers has the last key just below its end
pub last_key-covers : (from : ℕ) (xs : List (ℕ × ℕ)) (to : ℕ) → Covers from xs to → 0 < length xs → last_key xs + 1 ≡ to
last_key-covers from xs to covers some = omega (arith, covers_next from xs to covers, next_key-last from 0 xs some)
