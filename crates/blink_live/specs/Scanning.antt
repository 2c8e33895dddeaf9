-- What a scan reports of a range of keys while others change them.
use Rattle.std.specs.Prelude.{◌≡◌, ℕ, ◌+◌, ◌<◌, ◌≤◌, Option, Some, None, List, ◌++◌, length, drop, get_or, Contains}
use mathlib.Core.List.{IsPrefix}
use Rattle.std.specs.List.{AllByRecursion}
use Rattle.blink_batch.specs.declared.Entry.{Entry}
use Rattle.blink_batch.specs.{IsAscending, pointer_of}
use Rattle.blink_page.specs.{PlainPage}
use Rattle.blink_live.specs.declared.view.Change.{Change}
use Rattle.blink_live.specs.Changes.{after}
use Rattle.blink_live.specs.Finding.{HasSearched}
use Rattle.blink_live.specs.Views.{SeatState}

-- the key before which a scan of the keys up to `hi` stopped: the one from which it goes on, or the one behind `hi`
abbrev pub stop_of : ℕ → Option ℕ → ℕ
stop_of hi None = hi + 1
stop_of hi (Some next) = next

-- the entry's key is from `lo` to below `stop`
abbrev pub IsBetween : ℕ → ℕ → Entry → Type 0
IsBetween lo stop e = (lo ≤ e.key) × (e.key < stop)

-- a list of changes for each key, which doesn't get shorter from a key to a greater one. Each goes on from `old`, and `new` goes on
-- from each
pub record AreFronts (front : ℕ → List Change) (old new : List Change) : Type 0 where
  pub ascend : (key greater : ℕ) → key ≤ greater → IsPrefix (front key) (front greater)
  pub from_old : (key : ℕ) → IsPrefix old (front key)
  pub to_new : (key : ℕ) → IsPrefix (front key) new

-- these entries are the report of a scan from `lo` to before `stop`, by a reader that had seen `old` before and has seen `new` now:
-- of each key the report says exactly what the changes of the key's front leave of it
pub record IsReport (opening : List Entry) (old new : List Change) (lo stop : ℕ) (entries : List Entry) : Type 0 where
  pub front : ℕ → List Change
  pub fronts : AreFronts front old new
  pub exact : (key : ℕ) → lo ≤ key → key < stop → pointer_of entries key ≡ after (pointer_of opening) (front key) key
  pub ascending : IsAscending entries
  pub between : AllByRecursion (IsBetween lo stop) entries

-- of these keys the report says what the map of them has
abbrev pub SaysOfKeys : List ℕ → List Entry → ℕ → ℕ → List Entry → Type 0
SaysOfKeys keys map lo stop entries = (key : ℕ) → Contains keys key → lo ≤ key → key < stop → pointer_of entries key ≡ pointer_of map key

-- the first places of a slice have these entries now, and the others have what they had
pub record IsFilled (entries old new : List Entry) : Type 0 where
  pub fits : length entries ≤ length old
  pub is : new ≡ entries ++ drop (length entries) old

-- the scan stopped where the slice was full, before a key up to `hi`
abbrev pub StoppedFull : ℕ → ℕ → ℕ → ℕ → ℕ → Type 0
StoppedFull lo hi places filled next = (filled ≡ places) × (lo ≤ next) × (next ≤ hi)

-- what a report tells, whatever the fronts are. A key with the same pointer after all lists of changes between is reported with
-- it, and one that is absent after all isn't reported. What is reported of a key was so after one of these lists
pub record ReportTells (opening : List Entry) (old new : List Change) (lo stop : ℕ) (entries : List Entry) : Type 0 where
  pub steady : (key : ℕ) (kept : Option ℕ) → lo ≤ key → key < stop
      → ((seen : List Change) → IsPrefix old seen → IsPrefix seen new → after (pointer_of opening) seen key ≡ kept)
      → pointer_of entries key ≡ kept
  pub was_so : (key : ℕ) → lo ≤ key → key < stop
      → (seen : List Change) × IsPrefix old seen × IsPrefix seen new × (pointer_of entries key ≡ after (pointer_of opening) seen key)

abbrev pub ReportLaw : Type 0
ReportLaw = (opening : List Entry) (old new : List Change) (lo stop : ℕ) (entries : List Entry)
    → IsReport opening old new lo stop entries → ReportTells opening old new lo stop entries

-- ---- a seat that scans

-- the entries say of each key from `from` to below `stop` what the seat knows
pub record IsCopied (known : ℕ → Option ℕ) (from stop : ℕ) (entries : List Entry) : Type 0 where
  pub exact : (key : ℕ) → from ≤ key → key < stop → pointer_of entries key ≡ known key
  pub ascending : IsAscending entries
  pub between : AllByRecursion (IsBetween from stop) entries

-- a copy of a leaf's keys up to `hi` came to the end of the range, or it goes on behind the leaf's high key
abbrev pub IsLeafEnd : ℕ → ℕ → Option ℕ → Type 0
IsLeafEnd hi high None = hi ≤ high
IsLeafEnd hi high (Some next) = (next ≡ high + 1) × (high < hi)

-- the leaf's first key is from `from` on
abbrev pub BeginsFrom : ℕ → PlainPage → Type 0
BeginsFrom from leaf = from ≤ (get_or leaf.entries 0 (0, 0)).0

-- the seat has scanned from `lo` to before `stop`
pub record HasScanned (lo stop : ℕ) (entries : List Entry) (first me : SeatState) : Type 0 where
  pub searched : HasSearched first me
  pub report : IsReport first.0.plan.opening first.0.seen me.0.seen lo stop entries
  pub own : SaysOfKeys first.0.share.keys first.0.share.entries lo stop entries
