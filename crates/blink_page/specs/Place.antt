-- The end of a search within a page.
use Rattle.std.specs.Prelude.{ℕ, suc, nat_le, if◌then◌else◌, List, [], ◌∷◌}

-- the number of entries before the first whose key is at least `key`
abbrev pub place_of : ℕ → List (ℕ × ℕ) → ℕ
place_of key [] = 0
place_of key ((k, v) ∷ rest) = if nat_le key k then 0 else suc (place_of key rest)
