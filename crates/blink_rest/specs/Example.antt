-- A tree spelled out: page 1 has keys 1, 2 and 3, page 2 has keys 4 and 5, and page 3 is the root over them.
use Rattle.std.specs.Prelude.{ℕ, Some, None, List, [], ◌∷◌}
use Rattle.blink_page.specs.{PlainPage}
use Rattle.blink_page.specs.declared.limits.TheConstants.{GREATEST_KEY}
use Rattle.blink_store.specs.{PlainStore}

-- page 1
abbrev pub left_leaf : PlainPage
left_leaf = record { level = 0; floor = None; high = 3; right = Some 2; entries = (1, 10) ∷ (2, 20) ∷ (3, 30) ∷ [] }

-- page 2
abbrev pub right_leaf : PlainPage
right_leaf = record { level = 0; floor = Some 3; high = GREATEST_KEY; right = None; entries = (4, 40) ∷ (5, 50) ∷ [] }

-- page 3
abbrev pub root_page : PlainPage
root_page = record { level = 1; floor = None; high = GREATEST_KEY; right = None; entries = (3, 1) ∷ (GREATEST_KEY, 2) ∷ [] }

-- the three pages, with a prime block that names the leftmost of each level
abbrev pub example_store : ℕ → PlainStore
example_store fan = record { fan = fan; prime = 1 ∷ 3 ∷ []; pages = left_leaf ∷ right_leaf ∷ root_page ∷ [] }

-- the entries of the tree
abbrev pub example_entries : List (ℕ × ℕ)
example_entries = (1, 10) ∷ (2, 20) ∷ (3, 30) ∷ (4, 40) ∷ (5, 50) ∷ []
