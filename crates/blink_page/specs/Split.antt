-- The split of a full page with one more entry.
use Rattle.std.specs.Prelude.{ℕ, ◌+◌, ◌/◌, Some, List, take, drop}
use Rattle.blink_page.specs.Entries.{last_key}
use Rattle.blink_page.specs.Page.{PlainPage}

-- the number of the fan + 1 entries that stay
abbrev pub kept_count : ℕ → ℕ
kept_count fan = (fan + 2) / 2

-- the entries that stay
abbrev pub lower_entries : ℕ → List (ℕ × ℕ) → List (ℕ × ℕ)
lower_entries fan entries = take (kept_count fan) entries

-- the entries that go to the new page
abbrev pub upper_entries : ℕ → List (ℕ × ℕ) → List (ℕ × ℕ)
upper_entries fan entries = drop (kept_count fan) entries

-- the separator of the halves: the last key that stays
abbrev pub separator_of : ℕ → List (ℕ × ℕ) → ℕ
separator_of fan entries = last_key (lower_entries fan entries)

-- the page that was split: it ends at the separator and links to the new page
abbrev pub lower_half : ℕ → ℕ → PlainPage → List (ℕ × ℕ) → PlainPage
lower_half fan new p entries = record p {
  high = separator_of fan entries;
  right = Some new;
  entries = lower_entries fan entries;
}

-- the new page: it begins above the separator, and ends and links as the page that was split did
abbrev pub upper_half : ℕ → PlainPage → List (ℕ × ℕ) → PlainPage
upper_half fan p entries = record p {
  floor = Some (separator_of fan entries);
  entries = upper_entries fan entries;
}
