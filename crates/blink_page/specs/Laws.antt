-- Laws of postings, for any page.
use Rattle.std.specs.Prelude.{◌≡◌, ◌≢◌, ℕ, List}
use Rattle.blink_page.specs.Entries.{posted}

-- two different separators posted to one page give the same entries in either order
abbrev pub PostingsCommute : Type 0
PostingsCommute = (entries : List (ℕ × ℕ)) (first second : ℕ × ℕ) → first.0 ≢ second.0
    → posted second (posted first entries) ≡ posted first (posted second entries)
