-- Lists of values, each of which is there.
use Rattle.std.proofs.Common.{◌≡◌, ◌≢◌, ◌<◌, ◌+◌, ◌∙◌, ◌++◌, ℕ, zero, suc, List, [], ◌∷◌, Option, Some, None, length, get_or, map, take, ap, ap₂, sym, arith}
use Rattle.std.proofs.lemmas.List.{map-append, take_more}

module _ {X Y : Type 0} (f : X → Option Y) where
  -- where a value isn't there, the list is none of values
  pub one_missing : (xs : List X) (i : ℕ) (d : X) (ys : List Y) → i < length xs → f (get_or xs i d) ≡ None → map f xs ≢ map Some ys
  one_missing [] i d ys within here all = absurd (omega arith)
  one_missing (x ∷ xs) i d [] within here all = cc
  one_missing (x ∷ xs) zero d (y ∷ ys) within here all = cc
  one_missing (x ∷ xs) (suc i) d (y ∷ ys) within here all =
      let rest : map f xs ≡ map Some ys = cc in one_missing xs i d ys (omega arith) here rest

  -- one value more
  pub one_more : (xs : List X) (i : ℕ) (d : X) (ys : List Y) (y : Y) → i < length xs → map f (take i xs) ≡ map Some ys → f (get_or xs i d) ≡ Some y
      → map f (take (i + 1) xs) ≡ map Some (ys ++ y ∷ [])
  one_more xs i d ys y within before here =
      ap (map f) (take_more xs i d within) ∙ map-append f (take i xs) _ ∙ ap₂ ◌++◌ before (ap (λ value. value ∷ []) here) ∙ sym (map-append Some ys (y ∷ []))
