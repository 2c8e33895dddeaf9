-- The example's pages are lawful, and its tree is at rest.
use Rattle.std.proofs.Common.{◌≡◌, ℕ, ◌≤◌, Some, [], ◌∷◌, refl, arith, rules}
use Rattle.blink_page.specs.{PlainPage, IsLawfulPage}
use Rattle.blink_rest.specs.Numbers.{IsMember}
use Rattle.blink_rest.specs.Chain.{Pages, cell}
use Rattle.blink_rest.specs.Rest.{AreLevels}
use Rattle.blink_rest.specs.Example.{left_leaf, right_leaf, root_page}
use Rattle.blink_rest.proofs.DifferentNumbers.{Contains-from_among}

module _ (fan : ℕ) (room : 4 ≤ fan) where
  lawful_left : IsLawfulPage fan left_leaf
  lawful_left = record {
    level_in_range = omega arith;
    high_in_range = omega arith;
    floor_below_high = omega arith;
    right_unless_last = (λ none. absurd (cc), λ same. absurd (omega arith));
    right_is_number = (omega arith, omega arith);
    at_most_fan = omega arith;
    keys_rise = search rules;
    values_in_range = search rules;
    inner = λ positive. absurd (omega arith);
  }

  lawful_right : IsLawfulPage fan right_leaf
  lawful_right = record {
    level_in_range = omega arith;
    high_in_range = omega arith;
    floor_below_high = omega arith;
    right_unless_last = search rules;
    right_is_number = tt;
    at_most_fan = omega arith;
    keys_rise = search rules;
    values_in_range = search rules;
    inner = λ positive. absurd (omega arith);
  }

  lawful_root : IsLawfulPage fan root_page
  lawful_root = record {
    level_in_range = omega arith;
    high_in_range = omega arith;
    floor_below_high = omega arith;
    right_unless_last = search rules;
    right_is_number = tt;
    at_most_fan = omega arith;
    keys_rise = search rules;
    values_in_range = search rules;
    inner = λ positive. record { two_at_least = omega arith; last_is_high = search rules; children = search rules };
  }

  -- the tree of these three pages is at rest
  pub example_levels : (pages : Pages) → pages 1 ≡ Some left_leaf → pages 2 ≡ Some right_leaf → pages 3 ≡ Some root_page
      → ((number : ℕ) (page : PlainPage) → pages number ≡ Some page → IsMember number (1 ∷ 2 ∷ 3 ∷ []))
      → AreLevels fan (1 ∷ 3 ∷ []) pages ((cell 1 left_leaf ∷ cell 2 right_leaf ∷ []) ∷ (cell 3 root_page ∷ []) ∷ [])
  example_levels pages first second third alone = record {
    chains = (
      record {
        pages_there = (first, (second, tt));
        in_line = (refl, refl, refl, lawful_left, (refl, refl, refl, lawful_right, (refl, refl)));
      },
      (record { pages_there = (third, tt); in_line = (refl, refl, refl, lawful_root, (refl, refl)) }, tt),
    );
    named = (record { separators_are_high_keys = refl; children_are_pages = refl }, tt);
    one_root = refl;
    no_other_page = λ number page here. Contains-from_among (1 ∷ 2 ∷ 3 ∷ []) number (alone number page here);
  }
