-- Where a search for a key goes from a page.
use Rattle.std.specs.Prelude.{◌≡◌, ℕ, ◌<◌, ◌≤◌, Some}
use Rattle.blink_page.specs.Entries.{child_for}
use Rattle.blink_page.specs.Page.{PlainPage}
use Rattle.blink_page.specs.declared.search.Way.{Way}
use Rattle.blink_page.specs.declared.search.Way.TheVariants.{Right, Down, Here}

-- a key above the high key is to the right; otherwise it is here on a leaf, or below the first separator that is at least the
-- key
abbrev pub Leads : PlainPage → ℕ → Way → Type 0
Leads p key (Right page) = (p.high < key) × (p.right ≡ Some page)
Leads p key (Down page) = (key ≤ p.high) × (0 < p.level) × (child_for key p.entries ≡ Some page)
Leads p key Here = (key ≤ p.high) × (p.level ≡ 0)
