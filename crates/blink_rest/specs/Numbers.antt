-- Lists of numbers: membership, whether all differ, and whether all are from 1 to a last one.
use Rattle.std.specs.Prelude.{◌≡◌, ◌≢◌, ℕ, ◌≤◌, List, [], ◌∷◌, ◌⊎◌, ⊤}
use Rattle.std.specs.List.{AllByRecursion}

-- the element is in the list
abbrev pub IsMember : {X : Type 0} → X → List X → Type 0
IsMember x [] = ⊥
IsMember x (y ∷ ys) = (x ≡ y) ⊎ IsMember x ys

-- the number isn't in the list
abbrev pub Avoids : ℕ → List ℕ → Type 0
Avoids n ms = AllByRecursion (λ m. n ≢ m) ms

-- no number is in the list twice
abbrev pub AllDiffer : List ℕ → Type 0
AllDiffer [] = ⊤
AllDiffer (n ∷ ns) = Avoids n ns × AllDiffer ns

-- each number is from 1 to n
abbrev pub AreWithin : ℕ → List ℕ → Type 0
AreWithin n [] = ⊤
AreWithin n (m ∷ ms) = (1 ≤ m) × (m ≤ n) × AreWithin n ms
