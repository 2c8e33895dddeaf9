-- The tree of a new store: one empty leaf, which is page 1.
use Rattle.std.proofs.Common.{◌≡◌, ℕ, Some, [], ◌∷◌, inl, refl, arith}
use Rattle.std.proofs.Common.{rules}
use Rattle.blink_page.specs.{PlainPage, IsLawfulPage, empty_leaf}
use Rattle.blink_rest.specs.Chain.{Pages, Cell, IsChain}
use Rattle.blink_rest.specs.Rest.{AreLevels, IsAtRest}
use Rattle.blink_rest.specs.Entries.{AreEntries}
use Rattle.blink_rest.proofs.DifferentNumbers.{Contains-from_among}

-- the empty leaf is lawful for every fan
pub lawful_empty_leaf : (fan : ℕ) → IsLawfulPage fan empty_leaf
lawful_empty_leaf fan = record {
  level_in_range = omega arith;
  high_in_range = omega arith;
  floor_below_high = omega arith;
  right_unless_last = search rules;
  right_is_number = tt;
  at_most_fan = omega arith;
  keys_rise = omega arith;
  values_in_range = tt;
  inner = λ positive. absurd (omega arith);
}

-- the first page, where it stands
abbrev pub first_cell : Cell
first_cell = record { number = 1; page = empty_leaf }

module _ (fan : ℕ) (pages : Pages) (there : pages 1 ≡ Some empty_leaf) where
  -- the empty leaf is the chain of level 0
  pub first_chain : IsChain fan pages 0 1 (first_cell ∷ [])
  first_chain = record {
    pages_there = (there, tt);
    in_line = (refl, refl, refl, lawful_empty_leaf fan, (refl, refl));
  }

  -- a tree of the empty leaf alone is at rest
  pub first_levels : ((number : ℕ) (page : PlainPage) → pages number ≡ Some page → number ≡ 1) → AreLevels fan (1 ∷ []) pages ((first_cell ∷ []) ∷ [])
  first_levels alone = record {
    chains = (first_chain, tt);
    named = tt;
    one_root = refl;
    no_other_page = λ number page here. Contains-from_among (1 ∷ []) number (inl (alone number page here));
  }

  -- so it is at rest
  pub first_at_rest : ((number : ℕ) (page : PlainPage) → pages number ≡ Some page → number ≡ 1) → IsAtRest fan (1 ∷ []) pages
  first_at_rest alone = ((first_cell ∷ []) ∷ [], first_levels alone)

  -- and has no entry
  pub first_entries : AreEntries fan (1 ∷ []) pages []
  first_entries = record { leftmost = 1; is_first = refl; leaves = first_cell ∷ []; chain = first_chain; joined = refl }
