-- How many pages a tree of so many entries needs: there is one such number, and no tree has fewer.
use Rattle.std.proofs.Common.{◌≡◌, ℕ, ◌+◌, ◌*◌, ◌<◌, ◌≤◌, zero, suc, max, List, [], ◌∷◌, inl, inr, refl, sym, ap, ◌∙◌, arith}
use Rattle.std.specs.List.{fold, sum}
use Rattle.std.proofs.Math.Nat.{mul-le-mul_left}
use Rattle.std.proofs.lemmas.Bool.{cases_lt}
use Rattle.blink_page.specs.{IsFan}
use Rattle.blink_entries.specs.Packed.{AreFewest, IsFewest, NeedsPages}
use Rattle.blink_entries.specs.Packing.{AreEnough}

-- the fewest pages for so many entries are one number
same_fewest : (fan count pages other : ℕ) → IsFewest fan count pages → IsFewest fan count other → pages ≡ other
same_fewest fan count pages other is its =
    let no_more = is.no_fewer other its.some its.enough in let no_less = its.no_fewer pages is.some is.enough in omega (arith, no_more, no_less)

same_levels : (fan count other : ℕ) (levels others : List ℕ) → count ≡ other → AreFewest fan count levels → AreFewest fan other others → levels ≡ others
same_levels fan count other [] others same are its = absurd are
same_levels fan count other (pages ∷ levels) [] same are its = absurd its
same_levels fan count other (pages ∷ []) (page ∷ []) same are its = let is : pages ≡ page = are.1 ∙ sym its.1 in ap (λ (n : ℕ). n ∷ []) is
same_levels fan count other (pages ∷ []) (page ∷ next ∷ others) same are its =
    absurd (let is = same_fewest fan count pages page are.0 (rw same its.0) in let one = are.1 in let many = its.1 in omega (arith, is, one, many))
same_levels fan count other (pages ∷ next ∷ levels) (page ∷ []) same are its =
    absurd (let is = same_fewest fan count pages page are.0 (rw same its.0) in let one = its.1 in let many = are.1 in omega (arith, is, one, many))
same_levels fan count other (pages ∷ next ∷ levels) (page ∷ second ∷ others) same are its =
    let is = same_fewest fan count pages page are.0 (rw same its.0) in
    ap (λ (n : ℕ). n ∷ next ∷ levels) is ∙ ap (λ (ns : List ℕ). page ∷ ns) (same_levels fan pages page (next ∷ levels) (second ∷ others) is are.2 its.2)

pub same_needs : (fan count pages other : ℕ) → NeedsPages fan count pages → NeedsPages fan count other → pages ≡ other
same_needs fan count pages other is its = is.all ∙ ap sum (same_levels fan count count is.levels its.levels refl is.fewest its.fewest) ∙ sym its.all

-- the levels above are enough
pub fewest_enough : (fan count pages : ℕ) (above : List ℕ) → AreFewest fan count (pages ∷ above) → AreEnough fan pages above
fewest_enough fan count pages [] are = let one = are.1 in omega (arith, one)
fewest_enough fan count pages (next ∷ []) are = (are.2.0.enough, let one = are.2.1 in omega (arith, one))
fewest_enough fan count pages (next ∷ second ∷ above) are = (are.2.0.enough, fewest_enough fan pages next (second ∷ above) are.2)

-- a sum from the first number on
fold_from : (n : ℕ) (xs : List ℕ) → fold ◌+◌ n xs ≡ n + fold ◌+◌ 0 xs
fold_from n [] = omega arith
fold_from n (x ∷ xs) = let far = fold_from (n + x) xs in let near = fold_from (0 + x) xs in omega (arith, far, near)

pub sum-cons : (x : ℕ) (xs : List ℕ) → sum (x ∷ xs) ≡ x + sum xs
sum-cons x xs = let far = fold_from (0 + x) xs in omega (arith, far)

-- the levels above one of so many pages
pub data AreAbove (fan : ℕ) : ℕ → List ℕ → Type 0 where
  no_level : (pages : ℕ) → pages ≡ 1 → AreAbove fan pages []
  more_levels : (pages next : ℕ) (above : List ℕ) → 1 < pages → IsFewest fan pages next → AreAbove fan next above → AreAbove fan pages (next ∷ above)

pub fewest_above : (fan count pages : ℕ) (above : List ℕ) → IsFewest fan count pages → AreAbove fan pages above → AreFewest fan count (pages ∷ above)
fewest_above fan count pages [] is (no_level p one) = (is, one)
fewest_above fan count pages (next ∷ above) is (more_levels p n a many its over) = (is, many, fewest_above fan pages next above its over)

pub needs_from : (fan count pages : ℕ) → IsFewest fan count pages → (above : List ℕ) → AreAbove fan pages above → NeedsPages fan count (pages + sum above)
needs_from fan count pages is above over = record { levels = pages ∷ above; fewest = fewest_above fan count pages above is over; all = sym (sum-cons pages above) }

-- a level has at most half as many pages as the one below, if that has more than one
pub half_at_most : (fan count pages : ℕ) → IsFan fan → IsFewest fan count pages → 2 ≤ count → pages + pages ≤ count
half_at_most fan count zero is_fan is two = omega arith
half_at_most fan count (suc zero) is_fan is two = omega (arith, two)
half_at_most fan count (suc (suc fewer)) is_fan is two = elim (cases_lt (suc fewer * fan) count) [
  | inl less ↦ let times : suc fewer * 4 ≤ suc fewer * fan = mul-le-mul_left (suc fewer) (is_fan.0) in omega (arith, less, times)
  | inr enough ↦ absurd (let no_more = is.no_fewer (suc fewer) (omega arith) enough in omega (arith, no_more))
]

pub twice_at_most : (fan count pages : ℕ) → IsFan fan → IsFewest fan count pages → pages + pages ≤ max count 2
twice_at_most fan count pages is_fan is = elim (cases_lt count 2) [
  | inl below ↦ let least = is_fan.0 in let one = is.no_fewer 1 (omega arith) (omega (arith, least, below)) in omega (arith, one)
  | inr two ↦ let half = half_at_most fan count pages is_fan is two in omega (arith, half)
]
