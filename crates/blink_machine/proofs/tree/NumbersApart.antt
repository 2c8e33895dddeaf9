-- Lists of numbers that all differ, their parts by a test, and whether a number is in a list.
use Rattle.std.proofs.Common.{◌≡◌, ◌≢◌, ℕ, zero, suc, ◌<◌, ◌⊎◌, List, [], ◌∷◌, length, get_or, take, filter, Bool, true, false, Some, refl, ap, ◌∙◌, subst, inl, inr, arith}
use Rattle.std.proofs.lemmas.Bool.{cases_Bool, cases_eq}
use Rattle.std.specs.List.{AllByRecursion, Contains, slice_get}
use Rattle.blink_rest.specs.{AllDiffer}

-- ---- what holds of all

module _ {X : Type 0} (P : X → Type 0) where
  -- what holds of all holds of each
  pub holds_at : (xs : List X) (k : ℕ) (x : X) → AllByRecursion P xs → slice_get xs k ≡ Some x → P x
  holds_at [] k x all at = absurd (cc)
  holds_at (y ∷ xs) zero x all at = let same : y ≡ x = cc in subst P same all.0
  holds_at (y ∷ xs) (suc k) x all at = holds_at xs k x all.1 at

  -- what holds of those that pass holds of each that passes
  pub holds_at_passing : (p : X → Bool) (xs : List X) (k : ℕ) (x : X) → AllByRecursion P (filter p xs) → slice_get xs k ≡ Some x → p x ≡ true → P x
  holds_at_passing p [] k x all at passes = absurd (cc)
  holds_at_passing p (y ∷ xs) zero x all at passes = let same : y ≡ x = cc in let own : p y ≡ true = ap p same ∙ passes in subst P same (rw own at all).0
  holds_at_passing p (y ∷ xs) (suc k) x all at passes = elim (cases_Bool (p y)) [
    | inl own ↦ holds_at_passing p xs k x (rw own at all).1 at passes
    | inr other ↦ holds_at_passing p xs k x (rw other at all) at passes
  ]

  -- what holds of those that pass, and of all that don't, holds of all
  pub holds_of_both : (p : X → Bool) (xs : List X) → AllByRecursion P (filter p xs) → ((x : X) → p x ≡ false → P x) → AllByRecursion P xs
  holds_of_both p [] all others = tt
  holds_of_both p (x ∷ xs) all others = elim (cases_Bool (p x)) [
    | inl passes ↦ let both = rw passes at all in (both.0, holds_of_both p xs both.1 others)
    | inr fails ↦ (others x fails, holds_of_both p xs (rw fails at all) others)
  ]

  -- what holds of all holds of those that pass
  pub holds_of_filter : (p : X → Bool) (xs : List X) → AllByRecursion P xs → AllByRecursion P (filter p xs)
  holds_of_filter p [] all = tt
  holds_of_filter p (x ∷ xs) all = elim (cases_Bool (p x)) [
    | inl passes ↦ rw passes (all.0, holds_of_filter p xs all.1)
    | inr fails ↦ rw fails (holds_of_filter p xs all.1)
  ]

  -- and of the first ones
  pub holds_of_take : (n : ℕ) (xs : List X) → AllByRecursion P xs → AllByRecursion P (take n xs)
  holds_of_take zero xs all = tt
  holds_of_take (suc n) [] all = tt
  holds_of_take (suc n) (x ∷ xs) all = (all.0, holds_of_take n xs all.1)

-- ---- numbers that differ

-- those that pass differ
pub AllDiffer-filter : (p : ℕ → Bool) (xs : List ℕ) → AllDiffer xs → AllDiffer (filter p xs)
AllDiffer-filter p [] apart = tt
AllDiffer-filter p (x ∷ xs) apart = elim (cases_Bool (p x)) [
  | inl passes ↦ rw passes (holds_of_filter (λ y. x ≢ y) p xs apart.0, AllDiffer-filter p xs apart.1)
  | inr fails ↦ rw fails (AllDiffer-filter p xs apart.1)
]

-- the first ones differ
pub AllDiffer-take : (n : ℕ) (xs : List ℕ) → AllDiffer xs → AllDiffer (take n xs)
AllDiffer-take zero xs apart = tt
AllDiffer-take (suc n) [] apart = tt
AllDiffer-take (suc n) (x ∷ xs) apart = (holds_of_take (λ y. x ≢ y) n xs apart.0, AllDiffer-take n xs apart.1)

-- a number is at one place of numbers that differ
pub one_index : (xs : List ℕ) (first second x : ℕ) → AllDiffer xs → slice_get xs first ≡ Some x → slice_get xs second ≡ Some x → first ≡ second
one_index [] first second x apart at also = absurd (cc)
one_index (y ∷ xs) zero zero x apart at also = refl
one_index (y ∷ xs) zero (suc second) x apart at also = let same : y ≡ x = cc in absurd (holds_at (λ z. y ≢ z) xs second x apart.0 also same)
one_index (y ∷ xs) (suc first) zero x apart at also = let same : y ≡ x = cc in absurd (holds_at (λ z. y ≢ z) xs first x apart.0 at same)
one_index (y ∷ xs) (suc first) (suc second) x apart at also = ap suc (one_index xs first second x apart.1 at also)

-- ---- a list and its parts by a test

-- those that pass among the first ones are the first of those that pass
pub filter-take : {X : Type 0} (p : X → Bool) (n : ℕ) (xs : List X) → filter p (take n xs) ≡ take (length (filter p (take n xs))) (filter p xs)
filter-take p zero xs = refl
filter-take p (suc n) [] = refl
filter-take p (suc n) (x ∷ xs) = elim (cases_Bool (p x)) [
  | inl passes ↦ rw passes (ap (λ rest. x ∷ rest) (filter-take p n xs))
  | inr fails ↦ rw fails (filter-take p n xs)
]

-- ---- whether a number is in a list

-- a number in the rest is in the list
contains_later : (y : ℕ) (xs : List ℕ) (x : ℕ) → Contains xs x → Contains (y ∷ xs) x
contains_later y xs x inside = (suc inside.0, (let low : inside.0 < length xs = inside.1 in omega arith), inside.2)

-- a number that isn't the first is in the rest
contained_later : (y : ℕ) (xs : List ℕ) (x : ℕ) → y ≢ x → Contains (y ∷ xs) x → Contains xs x
contained_later y xs x differs inside = at y xs x inside.0 differs inside.1 inside.2
  where
    at : (y : ℕ) (xs : List ℕ) (x k : ℕ) → y ≢ x → k < length (y ∷ xs) → get_or (y ∷ xs) k x ≡ x → Contains xs x
    at y xs x zero differs within is = absurd (differs is)
    at y xs x (suc k) differs within is = (k, omega arith, is)

-- a number is in a list or isn't
pub contains_or_not : (xs : List ℕ) (x : ℕ) → Contains xs x ⊎ (Contains xs x → ⊥)
contains_or_not [] x = inr (λ inside. let low : inside.0 < length {A = ℕ} [] = inside.1 in omega arith)
contains_or_not (y ∷ xs) x = elim (cases_eq y x) [
  | inl same ↦ inl (zero, omega arith, same)
  | inr differs ↦ elim (contains_or_not xs x) [
    | inl inside ↦ inl (contains_later y xs x inside)
    | inr outside ↦ inr (λ inside. outside (contained_later y xs x differs inside))
  ]
]
