-- Numbers of a range get another owner.
use Rattle.std.proofs.Common.{◌≡◌, ℕ, suc, ◌<◌, ◌≤◌, refl}
use native.Mathlib.Decide.{dec_le}

either : {A B : Type 0} → Dec A → Dec B → ℕ → ℕ → ℕ
either (yes a) (yes b) inside outside = inside
either (yes a) (no b) inside outside = outside
either (no a) d inside outside = outside

-- these from `first` up to `stop` have this owner, and the others theirs
pub ranged : ℕ → ℕ → ℕ → (ℕ → ℕ) → ℕ → ℕ
ranged first stop owner f n = either (dec_le first n) (dec_le (suc n) stop) owner (f n)

pub ranged_in : (first stop owner : ℕ) (f : ℕ → ℕ) (n : ℕ) → first ≤ n → n < stop → ranged first stop owner f n ≡ owner
unfolding ranged either
ranged_in first stop owner f n low high = go (dec_le first n) (dec_le (suc n) stop)
  where
    go : (x : Dec (first ≤ n)) (y : Dec (suc n ≤ stop)) → either x y owner (f n) ≡ owner
    go (yes x) (yes y) = refl
    go (yes x) (no y) = absurd (y high)
    go (no x) y = absurd (x low)

pub ranged_out : (first stop owner : ℕ) (f : ℕ → ℕ) (n : ℕ) → (first ≤ n → n < stop → ⊥) → ranged first stop owner f n ≡ f n
unfolding ranged either
ranged_out first stop owner f n out = go (dec_le first n) (dec_le (suc n) stop)
  where
    go : (x : Dec (first ≤ n)) (y : Dec (suc n ≤ stop)) → either x y owner (f n) ≡ f n
    go (yes x) (yes y) = absurd (out x y)
    go (yes x) (no y) = refl
    go (no x) y = refl
