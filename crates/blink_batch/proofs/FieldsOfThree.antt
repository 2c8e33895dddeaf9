-- The fields of a record that has three.
use Rattle.std.proofs.Common.{◌≡◌, ◌<◌, ℕ, zero, suc, List, [], ◌∷◌, length, Some, None, arith}
use Rattle.csv.specs.Records.{field_at}

-- where there is a field, `field_at` gives it
pub field_there : (fields : List (List ℕ)) (i : ℕ) → i < length fields → field_at fields i ≡ None → ⊥
unfolding field_at
field_there [] i in_range none = omega arith
field_there (field ∷ fields) zero in_range none = cc
field_there (field ∷ fields) (suc i) in_range none = field_there fields i (omega arith) none

-- three fields are these three
pub three : (fields : List (List ℕ)) (a b c : List ℕ) → length fields ≡ 3 → field_at fields 0 ≡ Some a → field_at fields 1 ≡ Some b → field_at fields 2 ≡ Some c → fields ≡ a ∷ b ∷ c ∷ []
unfolding field_at
three [] a b c long first second third = absurd (omega arith)
three (x ∷ []) a b c long first second third = absurd (omega arith)
three (x ∷ y ∷ []) a b c long first second third = absurd (omega arith)
three (x ∷ y ∷ z ∷ []) a b c long first second third = cc
three (x ∷ y ∷ z ∷ more ∷ rest) a b c long first second third = absurd (omega arith)
