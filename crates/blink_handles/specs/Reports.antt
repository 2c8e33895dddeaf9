-- What a scan of a table or a map gives its caller, and what a snapshot gives.
use Rattle.std.specs.Prelude.{◌≡◌, ◌⊎◌, ℕ, ◌≤◌, List, ◌++◌, IfSome, drop, length, take}
use Rattle.blink_batch.specs.declared.Entry.{Entry}
use Rattle.blink_live.specs.declared.scan.Scanned.{Scanned}
use Rattle.blink_live.specs.declared.view.Change.{Change}
use Rattle.blink_live.specs.{IsReport, IsReportBack, IsSnapshot, StoppedFull, start_of, stop_of}
use Rattle.blink_handles.specs.declared.raw.RawScanned.{RawScanned}
use Rattle.blink_handles.specs.declared.raw.RawTaken.{RawTaken}
use Rattle.blink_handles.specs.Raw.{raw_scanned}

-- the first places have the report of a range, by a reader that had seen `old` before and has seen `new` now; the others are as they
-- were, and the caller is told how far the scan came
pub record HasReported (opening : List Entry) (old new : List Change) (lo hi : ℕ) (before now : List Entry) (given : RawScanned) : Type 0 where
  pub scanned : Scanned
  pub told : given ≡ raw_scanned scanned
  pub report : IsReport opening old new lo (stop_of hi scanned.next) (take scanned.filled now)
  pub stopped : IfSome scanned.next (StoppedFull lo hi (length before) scanned.filled)
  pub filled : scanned.filled ≤ length before
  pub others : drop scanned.filled now ≡ drop scanned.filled before

-- the same of a backward scan
pub record HasReportedBack (opening : List Entry) (old new : List Change) (lo hi : ℕ) (before now : List Entry) (given : RawScanned) : Type 0 where
  pub scanned : Scanned
  pub told : given ≡ raw_scanned scanned
  pub report : IsReportBack opening old new (start_of lo scanned.next) hi (take scanned.filled now)
  pub stopped : IfSome scanned.next (StoppedFull lo hi (length before) scanned.filled)
  pub filled : scanned.filled ≤ length before
  pub others : drop scanned.filled now ≡ drop scanned.filled before

-- no snapshot was taken, and the places are as they were
abbrev pub IsNotTaken : List Entry → List Entry → RawTaken → Type 0
IsNotTaken before now given = (given ≡ record { taken = 0; there = 0 }) × (now ≡ before)

-- a snapshot of these entries was taken: they stand in the first places, as many as there are places, and the others are as they were
abbrev pub AreTaken : List Entry → List Entry → List Entry → RawTaken → Type 0
AreTaken entries before now given = (given ≡ record { taken = 1; there = length entries }) × (now ≡ take (length before) entries ++ drop (length entries) before)

-- what the caller is told of a snapshot of the keys from `lo` to `hi` by a reader that has seen these changes
abbrev pub TellsTaken : List Entry → List Change → ℕ → ℕ → List Entry → List Entry → RawTaken → Type 0
TellsTaken opening seen lo hi before now given = IsNotTaken before now given ⊎ ((entries : List Entry) × IsSnapshot opening seen lo hi entries × AreTaken entries before now given)
