-- The bounds of a page's number of entries, and of page numbers.
use Rattle.std.specs.Prelude.{ℕ, ◌+◌, ◌*◌, ◌<◌, ◌≤◌, ◌⊎◌}
use Rattle.blink_page.specs.declared.limits.TheConstants.{MIN_FAN, MAX_FAN, MAX_PAGE, MAX_NEW_PAGES_PER_INSERT}

-- a tree may allow its pages this many entries
abbrev pub IsFan : ℕ → Type 0
IsFan fan = (MIN_FAN ≤ fan) × (fan ≤ MAX_FAN)

-- no tree allows its pages this many entries
abbrev pub IsBadFan : ℕ → Type 0
IsBadFan fan = (fan < MIN_FAN) ⊎ (MAX_FAN < fan)

-- a page may have this number; number 0 is the prime block's
abbrev pub IsPageNumber : ℕ → Type 0
IsPageNumber number = (1 ≤ number) × (number ≤ MAX_PAGE)

-- this many insertions into a tree of this many pages might need more page numbers than exist, the prime block's included
abbrev pub ExceedsPageLimit : ℕ → ℕ → Type 0
ExceedsPageLimit pages inserts = MAX_PAGE + 1 < 1 + pages + MAX_NEW_PAGES_PER_INSERT * inserts
