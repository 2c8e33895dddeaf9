-- The prime block as a list of page numbers.
use Rattle.std.proofs.Common.{◌≡◌, ℕ, ◌+◌, ◌-◌, ◌<◌, suc, Option, Some, None, List, [], ◌∷◌, length, get_or, slice_get, inl, inr, refl, ap, ◌∙◌, arith}
use Rattle.std.specs.List.{last_or}
use Rattle.std.proofs.lemmas.Option.{slice_get-get_or, get_or_from_slice_get, slice_get_cases}
use Rattle.blink_machine.specs.Table.{IsTopLeftmost}

-- the last item of a list that has one
last_or-get_or : (o : Option ℕ) (x : ℕ) (xs : List ℕ) → last_or o (x ∷ xs) ≡ Some (get_or (x ∷ xs) (length xs) 0)
last_or-get_or o x [] = refl
last_or-get_or o x (y ∷ ys) = last_or-get_or (Some x) y ys

-- the last item stands just before the list's end
pub last_or-at_end : (xs : List ℕ) → 0 < length xs → last_or None xs ≡ Some (get_or xs (length xs - 1) 0)
last_or-at_end [] some = absurd (omega arith)
last_or-at_end (x ∷ xs) some = let at : suc (length xs) - 1 ≡ length xs = omega arith in rw at (last_or-get_or None x xs)

-- the page is the leftmost of the top level where the last item is its number
pub is_top_leftmost : (prime : List ℕ) (level page : ℕ) → length prime ≡ level + 1 → get_or prime level 0 ≡ page → IsTopLeftmost prime level page
is_top_leftmost prime level page top here = record {
  top = top;
  leftmost = slice_get-get_or prime level 0 (omega arith) ∙ ap (λ (n : ℕ). Some n) here;
}

-- and not where it is another
pub not_top_leftmost : (prime : List ℕ) (level page : ℕ) → (get_or prime level 0 ≡ page → ⊥) → ¬ IsTopLeftmost prime level page
not_top_leftmost prime level page other is_top = other (get_or_from_slice_get prime level page 0 is_top.leftmost)

-- each named level has a leftmost page
pub leftmost_of : (prime : List ℕ) (level : ℕ) → level < length prime → (leftmost : ℕ) × (slice_get prime level ≡ Some leftmost)
leftmost_of prime level inside = elim (slice_get_cases prime level).1 [ inl there ↦ (there.0, there.2) | inr past ↦ let beyond = past.0 in absurd (omega arith) ]
