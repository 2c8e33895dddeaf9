-- Why an index can't be made of entries.
use Rattle.std.specs.Prelude.{◌≡◌, ◌-◌, ◌≤◌, ℕ, Some, List, length, slice_get, take}
use Rattle.blink_operation.specs.declared.Entry.{Entry}
use Rattle.blink_operation.specs.{IsAscending}
use Rattle.blink_page.specs.{IsBadFan}
use Rattle.blink_index.specs.declared.error.SortedError.{SortedError}
use Rattle.blink_index.specs.declared.error.SortedError.TheVariants.{BadFan, NotAscending, OutOfMemory, TooLarge}
use Rattle.blink_entries.specs.Packed.{ExceedsNumbers}

-- the first place whose key isn't above the one before
pub record IsFirstUnsorted (entries : List Entry) (place : ℕ) : Type 0 where
  pub before : Entry
  pub here : Entry
  pub some : 1 ≤ place
  pub ascending : IsAscending (take place entries)
  pub there_before : slice_get entries (place - 1) ≡ Some before
  pub there : slice_get entries place ≡ Some here
  pub not_above : here.key ≤ before.key

-- only lack of memory keeps an index from being made of these entries
pub record CanBePacked (fan : ℕ) (entries : List Entry) : Type 0 where
  pub good_fan : ¬ IsBadFan fan
  pub ascending : IsAscending entries
  pub has_numbers : ¬ ExceedsNumbers fan (length entries)

-- why an index isn't made of these entries
abbrev pub IsSortedRefusal : ℕ → List Entry → SortedError → Type 0
IsSortedRefusal fan entries BadFan = IsBadFan fan
IsSortedRefusal fan entries (NotAscending place) = (¬ IsBadFan fan) × IsFirstUnsorted entries place
IsSortedRefusal fan entries TooLarge = (¬ IsBadFan fan) × IsAscending entries × ExceedsNumbers fan (length entries)
IsSortedRefusal fan entries OutOfMemory = CanBePacked fan entries
