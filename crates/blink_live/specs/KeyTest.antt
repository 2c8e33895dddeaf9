-- How a key is looked for among ascending keys.
use Rattle.std.specs.Prelude.{◌≡◌, ◌⊎◌, ℕ, ◌+◌, ◌<◌, ◌≤◌, List, length, slice_index}

-- the search has come to `size` keys, from `first` on: all keys behind them are above `key`, and the first of them is not, unless
-- it is the first of all
pub record IsWindow (keys : List ℕ) (key first size : ℕ) : Type 0 where
  pub inside : first + size ≤ length keys
  pub reached : (first ≡ 0) ⊎ (slice_index keys first ≤ key)
  pub above : (n : ℕ) → first + size ≤ n → n < length keys → key < slice_index keys n

-- 1 if the key at this place is at most `key`, and else 0
abbrev pub HasReached : List ℕ → ℕ → ℕ → ℕ → Type 0
HasReached keys key place count = ((slice_index keys place ≤ key) × (count ≡ 1)) ⊎ ((key < slice_index keys place) × (count ≡ 0))
