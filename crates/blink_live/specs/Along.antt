-- A seat that goes along the leaves: it reads a leaf that it has noted, and notes the leaf to the right.
use Rattle.std.specs.Prelude.{◌≡◌, ℕ, ◌<◌, ◌≤◌, Some, None, List, Contains}
use mathlib.Core.List.{IsPrefix}
use Rattle.atomic_table.specs.Table.{Step}
use Rattle.blink_batch.specs.{pointer_of}
use Rattle.blink_page.specs.{PlainPage, IsLawfulPage}
use Rattle.blink_page.specs.declared.limits.TheConstants.{MAX_FAN}
use Rattle.blink_rows.specs.{PlainCounts, page_words, row_in}
use Rattle.blink_live.specs.declared.view.Change.{Change}
use Rattle.blink_live.specs.declared.view.Look.{Look}
use Rattle.blink_live.specs.declared.view.View.{View}
use Rattle.blink_live.specs.Changes.{after}
use Rattle.blink_live.specs.Looks.{TellsAll}
use Rattle.blink_live.specs.Views.{KnowsItsOwn, SeatState}
use Rattle.blink_live.specs.Words.{IsRowNumber, IsVersion}

-- the number is that of a leaf which the seat has noted
pub record IsNotedLeaf (counts : PlainCounts) (look : Look) (number : ℕ) : Type 0 where
  pub in_range : (1 ≤ number) × (number < counts.numbers)
  pub word : ℕ
  pub noted : Contains look.leaves (number, word)

-- ---- the load of the page word of a leaf that the seat has noted

abbrev pub goes : View → ℕ → List ℕ → List ℕ → List Change → Look → View
goes v row words behind seen look = record v { reads = Some (row, words); behind = behind; appends = None; seen = seen; look = look }

-- the seat reads the leaf, and knows what all changes so far leave of each of its keys. It has noted the leaf to the right
pub record GoesAlong (me : SeatState) (word : ℕ) (then : SeatState) : Type 0 where
  pub page : PlainPage
  pub base : PlainPage
  pub behind : List ℕ
  pub seen : List Change
  pub look : Look
  pub is : then ≡ (goes me.0 (row_in word) (page_words base) behind seen look, me.1)
  pub version : IsVersion word base behind page
  pub saw : IsPrefix me.0.seen seen
  pub row_in_range : IsRowNumber me.0.plan.counts (row_in word)
  pub lawful : IsLawfulPage MAX_FAN page
  pub tells : TellsAll (after (pointer_of me.0.plan.opening) seen) page
  pub right : (next : ℕ) → page.right ≡ Some next → IsNotedLeaf me.0.plan.counts look next
  pub knows_own : KnowsItsOwn then.0

abbrev pub goes_along : Step ℕ → SeatState → ℕ → SeatState → Type 0
goes_along st me word then = GoesAlong me word then
