-- What a find or a scan makes of a member.
use Rattle.std.specs.Prelude.{◌≡◌, ℕ, List}
use mathlib.Core.List.{IsPrefix}
use Rattle.blink_batch.specs.declared.Entry.{Entry}
use Rattle.blink_live.specs.declared.live.Live.{Live}
use Rattle.blink_live.specs.{IsReport, IsReportBack, opening_of as opening_of_table}
use Rattle.blink_generation.specs.declared.member.Member.{Member}
use Rattle.blink_generation.specs.Sessions.{IsSameMember, made_by_member, seen_of_member}

-- the member is as it was, except that it may have seen more
pub record HasLooked (old new : Member) : Type 0 where
  pub saw : IsPrefix (seen_of_member old) (seen_of_member new)
  pub made : made_by_member new ≡ made_by_member old
  pub rows : new.rows ≡ old.rows
  pub pages : new.pages ≡ old.pages
  pub shelf : new.room.shelf ≡ old.room.shelf
  pub same_member : IsSameMember old new

-- these entries are a report of the keys from `lo` up to `stop`, read between what the member had seen before and what it has seen now
abbrev pub HasReported : Live → Member → Member → ℕ → ℕ → List Entry → Type 0
HasReported live old new lo stop entries =
    IsReport (opening_of_table live) (seen_of_member old) (seen_of_member new) lo stop entries

-- these are a backward report of the keys from `lo` to `hi`
abbrev pub HasReportedBack : Live → Member → Member → ℕ → ℕ → List Entry → Type 0
HasReportedBack live old new lo hi entries =
    IsReportBack (opening_of_table live) (seen_of_member old) (seen_of_member new) lo hi entries
