-- How a pass comes back: what the keeper's seat and the pass's have told each other, and keys without others.
use Rattle.std.specs.Prelude.{◌≡◌, ◌⊎◌, ℕ, ◌<◌, ◌≤◌, List, Contains, filter, length, not, slice_index}
use mathlib.Core.List.{IsPrefix}
use Rattle.blink_live.specs.declared.view.Change.{Change}
use Rattle.blink_live.specs.Changes.{states_of}
use Rattle.blink_live.specs.Views.{SeatState, KnowsItsOwn, forgets_told, is_among, learns_of_others}

-- the pass's seat has seen all that both had seen, and of the keys that the keeper can deal no more than the keeper
pub record HaveTold (keeper pass keeper_then pass_then : SeatState) : Type 0 where
  pub seen : List Change
  pub same_keeper : keeper_then ≡ (forgets_told keeper.0, keeper.1)
  pub is : pass_then ≡ (learns_of_others pass.0 seen, pass.1)
  pub saw : IsPrefix pass.0.seen seen
  pub heard : IsPrefix keeper.0.seen seen
  pub knows_own : KnowsItsOwn pass_then.0
  pub no_more : (key : ℕ) → ¬ Contains keeper.0.taken key → IsPrefix (states_of key seen) (states_of key keeper.0.seen)

-- the keys that aren't among these
abbrev pub without : List ℕ → List ℕ → List ℕ
without keys others = filter (λ (key : ℕ). not (is_among keys key)) others

-- from `next` on this is the first place whose key is at least `key`, or it is the end
pub record IsFirstFrom (keys : List ℕ) (next key place : ℕ) : Type 0 where
  pub in_range : (next ≤ place) × (place ≤ length keys)
  pub below : (n : ℕ) → next ≤ n → n < place → slice_index keys n < key
  pub reached : (place ≡ length keys) ⊎ (key ≤ slice_index keys place)
