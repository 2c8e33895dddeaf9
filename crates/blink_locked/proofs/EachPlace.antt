-- What holds of each element of a list at its place.
use Rattle.std.proofs.Common.{◌≡◌, ℕ, ◌+◌, List, [], ◌∷◌, ◌++◌, length, Some, zero, suc, arith, refl, subst}
use Rattle.std.specs.List.{AllZip, slice_get}
use Rattle.blink_locked.specs.Starts.{AtEach}

-- where the places are counted from 0, they are those of the list
pub each_from_first : {A : Type 0} (S : ℕ → A → Type 0) (xs : List A) (from : ℕ) (ys : List A) → from ≡ 0 → ys ≡ xs → AtEach S xs
    → AtEach (λ place. S (from + place)) ys
each_from_first S xs from ys none same each place x at =
    let there : slice_get xs place ≡ Some x = rw same at at in
    let counted : place ≡ from + place = omega arith in
    subst (λ k. S k x) counted (each place x there)

-- what holds of each element, and of one more that is put behind them, holds of each of the longer list
pub each_more : {A : Type 0} (S : ℕ → A → Type 0) (xs : List A) (x : A) → AtEach S xs → S (length xs) x → AtEach S (xs ++ x ∷ [])
each_more S [] x each here zero y at = let same : x ≡ y = cc in subst (S 0) same here
each_more S [] x each here (suc place) y at = absurd (cc at)
each_more S (other ∷ xs) x each here zero y at = each 0 y at
each_more S (other ∷ xs) x each here (suc place) y at = each_more (λ k. S (suc k)) xs x (λ k. each (suc k)) here place y at

-- where the places are counted from any number, the first element has that place, and the others are counted from the next
pub each_left : {A : Type 0} (S : ℕ → A → Type 0) (from : ℕ) (x : A) (xs : List A) → AtEach (λ place. S (from + place)) (x ∷ xs)
    → S from x × AtEach (λ place. S (from + 1 + place)) xs
each_left S from x xs each = (
  let same : from + 0 ≡ from = omega arith in subst (λ k. S k x) same (each 0 x refl),
  λ place y at. let same : from + suc place ≡ from + 1 + place = omega arith in subst (λ k. S k y) same (each (suc place) y at),
)

-- where two lists are paired place by place, what each element tells of its partner holds of each partner
pub each_paired : {A B : Type 0} (R : A → B → Type 0) (S : ℕ → B → Type 0) (xs : List A) (ys : List B) → AllZip R xs ys
    → AtEach (λ place x. (y : B) → R x y → S place y) xs → AtEach S ys
each_paired R S [] [] all tell place y at = absurd (cc at)
each_paired R S [] (first ∷ ys) all tell place y at = absurd all
each_paired R S (x ∷ xs) [] all tell place y at = absurd all
each_paired R S (x ∷ xs) (first ∷ ys) all tell zero y at = let same : first ≡ y = cc in subst (S 0) same (tell 0 x refl first all.0)
each_paired R S (x ∷ xs) (first ∷ ys) all tell (suc place) y at = each_paired R (λ k. S (suc k)) xs ys all.1 (λ k. tell (suc k)) place y at
