-- A writer that keeps what it was given before.
use Rattle.std.specs.Prelude.{ℕ, ◌≡◌, List, Option, Some, length, option_map, take}

-- if these bytes were known before, those after begin with them
abbrev pub BeginsWith : Option (List ℕ) → Option (List ℕ) → Type 0
BeginsWith before after = (bytes : List ℕ) → before ≡ Some bytes → option_map (λ (all : List ℕ). take (length bytes) all) after ≡ Some bytes
