-- What a backward scan reports of a range of keys while others change them.
use Rattle.std.specs.Prelude.{◌≡◌, ℕ, ◌+◌, ◌<◌, ◌≤◌, Option, Some, None, List, [], ◌∷◌}
use mathlib.Core.List.{IsPrefix}
use Rattle.std.specs.List.{AllByRecursion}
use Rattle.blink_batch.specs.declared.Entry.{Entry}
use Rattle.blink_batch.specs.{pointer_of}
use Rattle.blink_live.specs.declared.view.Change.{Change}
use Rattle.blink_live.specs.Changes.{after}
use Rattle.blink_live.specs.Finding.{HasSearched}
use Rattle.blink_live.specs.Scanning.{IsBetween, ReportTells, SaysOfKeys}
use Rattle.blink_live.specs.Views.{SeatState}

-- the least key of which a backward scan down to `lo` has reported: the one above the key from which it goes on, or `lo`
abbrev pub start_of : ℕ → Option ℕ → ℕ
start_of lo None = lo
start_of lo (Some next) = next + 1

-- the keys descend
abbrev pub IsDescending : List Entry → Type 0
IsDescending [] = Unit {0}
IsDescending (e ∷ es) = AllByRecursion (λ behind. behind.key < e.key) es × IsDescending es

-- a list of changes for each key, which doesn't get shorter from a key to a smaller one. Each goes on from `old`, and `new` goes on
-- from each
pub record AreFrontsBack (front : ℕ → List Change) (old new : List Change) : Type 0 where
  pub descend : (key greater : ℕ) → key ≤ greater → IsPrefix (front greater) (front key)
  pub from_old : (key : ℕ) → IsPrefix old (front key)
  pub to_new : (key : ℕ) → IsPrefix (front key) new

-- these entries are the report of a backward scan from `hi` down to `lo`, by a reader that had seen `old` before and has seen `new`
-- now: of each key the report says exactly what the changes of the key's front leave of it
pub record IsReportBack (opening : List Entry) (old new : List Change) (lo hi : ℕ) (entries : List Entry) : Type 0 where
  pub front : ℕ → List Change
  pub fronts : AreFrontsBack front old new
  pub exact : (key : ℕ) → lo ≤ key → key ≤ hi → pointer_of entries key ≡ after (pointer_of opening) (front key) key
  pub descending : IsDescending entries
  pub between : AllByRecursion (IsBetween lo (hi + 1)) entries

-- it tells what the report of a scan tells
abbrev pub ReportBackLaw : Type 0
ReportBackLaw = (opening : List Entry) (old new : List Change) (lo hi : ℕ) (entries : List Entry)
    → IsReportBack opening old new lo hi entries → ReportTells opening old new lo (hi + 1) entries

-- the seat has scanned from `hi` down to `lo`
pub record HasScannedBack (lo hi : ℕ) (entries : List Entry) (first me : SeatState) : Type 0 where
  pub searched : HasSearched first me
  pub report : IsReportBack first.0.plan.opening first.0.seen me.0.seen lo hi entries
  pub own : SaysOfKeys first.0.share.keys first.0.share.entries lo (hi + 1) entries
