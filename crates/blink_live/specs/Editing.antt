-- A leaf's records, applied one after another to entries that were copied of its base.
use Rattle.std.specs.Prelude.{◌≡◌, ◌≢◌, ℕ, suc, ◌<◌, ◌≤◌, Option, Some, None, IsSome, List, [], ◌∷◌, take, drop, nat_lt, if◌then◌else◌}
use Rattle.std.specs.List.{AllByRecursion}
use Rattle.blink_batch.specs.declared.Entry.{Entry}
use Rattle.blink_page.specs.{PlainPage, value_at}
use Rattle.blink_rows.specs.declared.log.Kind.{Kind}
use Rattle.blink_rows.specs.declared.log.Kind.TheVariants.{Replaced, Added, Removed}
use Rattle.blink_live.specs.Scanning.{IsCopied}

-- the pointer that the page has for each key
abbrev pub pointers_in : PlainPage → ℕ → Option ℕ
pointers_in page key = value_at key page.entries

-- ---- what is known of keys before a change of one, and after it

-- a key that had a pointer has this one
pub record IsReplaced (key pointer : ℕ) (known later : ℕ → Option ℕ) : Type 0 where
  pub there : IsSome (known key)
  pub here : later key ≡ Some pointer
  pub others : (other : ℕ) → key ≢ other → later other ≡ known other

-- a key that had none has this one
pub record IsAdded (key pointer : ℕ) (known later : ℕ → Option ℕ) : Type 0 where
  pub absent : known key ≡ None
  pub here : later key ≡ Some pointer
  pub others : (other : ℕ) → key ≢ other → later other ≡ known other

-- a key that had a pointer has none
pub record IsRemoved (key : ℕ) (known later : ℕ → Option ℕ) : Type 0 where
  pub there : IsSome (known key)
  pub gone : later key ≡ None
  pub others : (other : ℕ) → key ≢ other → later other ≡ known other

-- the key was changed so
abbrev pub IsEdited : Kind → ℕ → ℕ → (ℕ → Option ℕ) → (ℕ → Option ℕ) → Type 0
IsEdited Replaced key pointer known later = IsReplaced key pointer known later
IsEdited Added key pointer known later = IsAdded key pointer known later
IsEdited Removed key pointer known later = IsRemoved key known later

-- ---- copied entries

-- how many entries have lesser keys than this one
abbrev pub lesser : ℕ → List Entry → ℕ
lesser key [] = 0
lesser key (e ∷ rest) = if nat_lt e.key key then suc (lesser key rest) else lesser key rest

-- so many entries have lesser keys than this one, and the others haven't
pub record IsPlace (key : ℕ) (entries : List Entry) (at : ℕ) : Type 0 where
  pub before : AllByRecursion (λ (e : Entry). e.key < key) (take at entries)
  pub behind : AllByRecursion (λ (e : Entry). key ≤ e.key) (drop at entries)

-- entries that said what was known say what is known later
abbrev pub StaysCopied : (ℕ → Option ℕ) → (ℕ → Option ℕ) → List Entry → List Entry → Type 0
StaysCopied known later old new = (from stop : ℕ) → IsCopied known from stop old → IsCopied later from stop new

-- the same of entries in a range that has this key
abbrev pub StaysCopiedWith : ℕ → (ℕ → Option ℕ) → (ℕ → Option ℕ) → List Entry → List Entry → Type 0
StaysCopiedWith key known later old new = (from stop : ℕ) → from ≤ key → key < stop → IsCopied known from stop old → IsCopied later from stop new
