-- What stands at a place of a list after a change.
use Rattle.std.proofs.Common.{◌≡◌, ◌≢◌, ℕ, ◌<◌, zero, suc, Option, Some, None, List, [], ◌∷◌, ◌++◌, length, set, refl, ap, arith}
use Rattle.std.specs.Prelude.{slice_get}

module _ {X : Type 0} where
  pub slice_get-set_same : (xs : List X) (i : ℕ) (x : X) → i < length xs → slice_get (set xs i x) i ≡ Some x
  slice_get-set_same [] i x inside = absurd (omega arith)
  slice_get-set_same (y ∷ ys) zero x inside = refl
  slice_get-set_same (y ∷ ys) (suc i) x inside = slice_get-set_same ys i x (omega arith)

  pub slice_get-set_other : (xs : List X) (i j : ℕ) (x : X) → j ≢ i → slice_get (set xs i x) j ≡ slice_get xs j
  slice_get-set_other [] i j x other = refl
  slice_get-set_other (y ∷ ys) zero zero x other = absurd (other refl)
  slice_get-set_other (y ∷ ys) zero (suc j) x other = refl
  slice_get-set_other (y ∷ ys) (suc i) zero x other = refl
  slice_get-set_other (y ∷ ys) (suc i) (suc j) x other = slice_get-set_other ys i j x (λ same. other (ap suc same))

  pub slice_get-push_same : (xs : List X) (x : X) → slice_get (xs ++ x ∷ []) (length xs) ≡ Some x
  slice_get-push_same [] x = refl
  slice_get-push_same (y ∷ ys) x = slice_get-push_same ys x

  pub slice_get-push_other : (xs : List X) (j : ℕ) (x : X) → j ≢ length xs → slice_get (xs ++ x ∷ []) j ≡ slice_get xs j
  slice_get-push_other [] zero x other = absurd (other refl)
  slice_get-push_other [] (suc j) x other = refl
  slice_get-push_other (y ∷ ys) zero x other = refl
  slice_get-push_other (y ∷ ys) (suc j) x other = slice_get-push_other ys j x (λ same. other (ap suc same))

  -- two lists with the same at each place are one
  pub same_at_each : (xs ys : List X) → ((i : ℕ) → slice_get xs i ≡ slice_get ys i) → xs ≡ ys
  same_at_each [] [] same = refl
  same_at_each [] (y ∷ ys) same = let e : ◌≡◌ {A = Option X} None (Some y) = same 0 in cc
  same_at_each (x ∷ xs) [] same = let e : ◌≡◌ {A = Option X} (Some x) None = same 0 in cc
  same_at_each (x ∷ xs) (y ∷ ys) same =
      let rest : xs ≡ ys = same_at_each xs ys (λ i. same (suc i)) in
      let first : ◌≡◌ {A = Option X} (Some x) (Some y) = same 0 in
      cc
