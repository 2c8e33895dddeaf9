-- Ascending keys: the range of a list of entries, from a least key to an excluded end.
use Rattle.std.specs.Prelude.{◌≡◌, ℕ, ◌+◌, ◌≤◌, Option, Some, None, List, [], ◌∷◌}

-- the least key above a floor, or 0 without a floor
abbrev pub least_above : Option ℕ → ℕ
least_above None = 0
least_above (Some floor) = floor + 1

-- the keys ascend, from `from` to below `to`
abbrev pub IsRising : ℕ → List (ℕ × ℕ) → ℕ → Type 0
IsRising from [] to = from ≤ to
IsRising from ((key, value) ∷ rest) to = (from ≤ key) × IsRising (key + 1) rest to

-- the keys ascend from `from`, and the last is just below `to`: each key between has an entry at or above it
abbrev pub Covers : ℕ → List (ℕ × ℕ) → ℕ → Type 0
Covers from [] to = from ≡ to
Covers from ((key, value) ∷ rest) to = (from ≤ key) × Covers (key + 1) rest to

-- the least key above all entries, or `from` if the list is empty
abbrev pub next_key : ℕ → List (ℕ × ℕ) → ℕ
next_key from [] = from
next_key from ((key, value) ∷ rest) = next_key (key + 1) rest

-- the keys ascend, from any key to any key
abbrev pub Rises : List (ℕ × ℕ) → Type 0
Rises entries = IsRising 0 entries (next_key 0 entries)
