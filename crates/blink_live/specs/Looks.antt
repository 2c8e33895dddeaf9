-- What a seat has noted of leaves for a snapshot: page words that it has loaded, and what they tell once it has marked a tree state.
use Rattle.std.specs.Prelude.{◌≡◌, ℕ, ◌<◌, ◌≤◌, Option, Some, List, Contains, slice_index}
use Rattle.blink_batch.specs.{pointer_of}
use Rattle.blink_page.specs.{PlainPage, IsKeyOf, value_at}
use Rattle.blink_rest.specs.{IsMember, Pages}
use Rattle.blink_rest.specs.Chain.{Cell}
use Rattle.blink_rows.specs.{records_in, row_in}
use Rattle.blink_machine.specs.{Levels}
use Rattle.blink_machine.specs.Tree.{IsTree}
use Rattle.blink_live.specs.declared.view.Change.{Change}
use Rattle.blink_live.specs.declared.view.Look.{Look}
use Rattle.blink_live.specs.declared.view.Plan.{Plan}
use Rattle.blink_live.specs.Changes.{after}
use Rattle.blink_live.specs.Words.{IsRowNumber}

-- the page of this number stands in the chain of leaves, where searches come to it
pub record IsLeafInChain (fan : ℕ) (prime : List ℕ) (pages : Pages) (number : ℕ) : Type 0 where
  pub levels : Levels
  pub tree : IsTree fan prime pages levels
  pub cell : Cell
  pub stands : IsMember cell (levels 0)
  pub same_number : cell.number ≡ number

-- the leaf has this state of each of its keys
abbrev pub TellsAll : (ℕ → Option ℕ) → PlainPage → Type 0
TellsAll kept leaf = (key : ℕ) → IsKeyOf leaf key → value_at key leaf.entries ≡ kept key

-- a page word that was loaded, and what it is since then: while it names the same row, it counts no fewer records
abbrev pub IsSince : ℕ → ℕ → Type 0
IsSince before now = row_in now ≡ row_in before → (records_in before).count ≤ (records_in now).count

-- the page word of a leaf was this, which names a published row. Once a tree state is marked, the leaf tells what its changes leave,
-- as long as its page word is still the same
pub record IsNoted (plan : Plan) (whose : ℕ → ℕ) (words : List ℕ) (fan : ℕ) (prime : List ℕ) (pages : Pages) (marked : Option (List Change)) (number word : ℕ) : Type 0 where
  pub in_range : (1 ≤ number) × (number < plan.counts.numbers)
  pub row_in_range : IsRowNumber plan.counts (row_in word)
  pub unowned : whose (row_in word) ≡ 0
  pub since : IsSince word (slice_index words number)
  pub in_chain : IsLeafInChain fan prime pages number
  pub tells : (changes : List Change) → marked ≡ Some changes → slice_index words number ≡ word → (leaf : PlainPage) → pages number ≡ Some leaf → TellsAll (after (pointer_of plan.opening) changes) leaf

abbrev pub HasLooked : Plan → (ℕ → ℕ) → List ℕ → ℕ → List ℕ → Pages → Look → Type 0
HasLooked plan whose words fan prime pages look = (number word : ℕ) → Contains look.leaves (number, word) → IsNoted plan whose words fan prime pages look.marked number word
