-- The leaves that words hold, in line along their right links. Their entries are all entries of the tree, whether it is at rest or not.
use Rattle.std.specs.Prelude.{◌≤◌, ℕ, Option, Some, None, List}
use Rattle.blink_batch.specs.declared.Entry.{Entry}
use Rattle.blink_machine.specs.{pairs_of}
use Rattle.blink_page.specs.declared.limits.TheConstants.{GREATEST_KEY, MAX_FAN}
use Rattle.blink_rest.specs.{AreEntries, InLine, Pages}
use Rattle.blink_rest.specs.Chain.{Cell}
use Rattle.blink_rows.specs.{PlainCounts}
use Rattle.blink_live.specs.Merge.{KeepsPrime}
use Rattle.blink_live.specs.ToCome.{AreKept}
use Rattle.blink_live.specs.Words.{KeepsPages}

-- the words hold a tree with these entries
pub record KeepsLeaves (counts : PlainCounts) (words : List ℕ) (entries : List Entry) : Type 0 where
  pub fan : ℕ
  pub few : fan ≤ MAX_FAN
  pub prime : List ℕ
  pub pages : Pages
  pub prime_kept : KeepsPrime counts words prime
  pub pages_kept : KeepsPages counts words pages
  pub are : AreEntries fan prime pages (pairs_of entries)

-- the words hold a tree
abbrev pub KeepsSomeLeaves : PlainCounts → List ℕ → Type 0
KeepsSomeLeaves counts words = (entries : List Entry) × KeepsLeaves counts words entries

-- the last leaves, from a link on, with a floor
pub record AreLeaves (counts : PlainCounts) (words : List ℕ) (floor link : Option ℕ) (cells : List Cell) : Type 0 where
  pub fan : ℕ
  pub few : fan ≤ MAX_FAN
  pub kept : AreKept counts words cells
  pub in_line : InLine fan 0 floor link cells (Some GREATEST_KEY) None

-- there are leaves from this page on
abbrev pub HasLeaves : PlainCounts → List ℕ → ℕ → Type 0
HasLeaves counts words leftmost = (cells : List Cell) × AreLeaves counts words None (Some leftmost) cells
