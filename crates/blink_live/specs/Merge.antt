-- The entries of a table when all its passes are back: the merge of their shares.
use Rattle.std.specs.Prelude.{◌≡◌, ℕ, Some, List, map, Contains, slice_get}
use Rattle.blink_batch.specs.declared.Entry.{Entry}
use Rattle.blink_batch.specs.{IsAscending, pointer_of}
use Rattle.blink_rest.specs.{Pages, AreEntries, IsAtRest}
use Rattle.blink_rows.specs.{PlainCounts, prime_words, IsLawfulPrime}
use Rattle.blink_machine.specs.{pairs_of}
use Rattle.blink_live.specs.declared.live.Keeper.{Keeper}
use Rattle.blink_live.specs.declared.live.Live.{Live}
use Rattle.blink_live.specs.declared.live.Pass.{Pass}
use Rattle.blink_live.specs.declared.view.Share.{Share}
use Rattle.blink_live.specs.Handles.{known_entries, keys_of, share_of, taken_of}
use Rattle.blink_live.specs.Words.{IsRowNumber, RowBegins, KeepsPages, named_row}

-- ---- the merge

-- the opening entries, except that each key that was dealt has the state of its last pass's share: of this one if the pass is one
-- of these, and else the state that the keeper knows
pub record IsMerge (live : Live) (keeper : Keeper) (passes : List Pass) (entries : List Entry) : Type 0 where
  pub dealt : (place key : ℕ) (pass : Pass) → slice_get passes place ≡ Some pass → Contains (keys_of pass) key
      → pointer_of entries key ≡ pointer_of (share_of pass) key
  pub others : (key : ℕ) → ¬ Contains (taken_of keeper) key → pointer_of entries key ≡ pointer_of (known_entries live keeper) key

-- the passes' shares
abbrev pub shares_of : List Pass → List Share
shares_of passes = map (λ (pass : Pass). pass.seat.me.0.share) passes

-- ---- the words of a table that is closed

-- page word 0 names a row of this prime block
pub record KeepsPrime (counts : PlainCounts) (words leftmost : List ℕ) : Type 0 where
  pub row_in_range : IsRowNumber counts (named_row words 0)
  pub row_begins : RowBegins counts words (named_row words 0) (prime_words leftmost)
  pub lawful : IsLawfulPrime leftmost

-- the words hold a tree at rest with these entries
pub record KeepsTree (counts : PlainCounts) (words : List ℕ) (fan : ℕ) (entries : List Entry) : Type 0 where
  pub prime : List ℕ
  pub pages : Pages
  pub prime_kept : KeepsPrime counts words prime
  pub pages_kept : KeepsPages counts words pages
  pub at_rest : IsAtRest fan prime pages
  pub ascending : IsAscending entries
  pub are : AreEntries fan prime pages (pairs_of entries)

-- the words hold a tree at rest
abbrev pub KeepsSomeTree : PlainCounts → List ℕ → ℕ → Type 0
KeepsSomeTree counts words fan = (entries : List Entry) × KeepsTree counts words fan entries
