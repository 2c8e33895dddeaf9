-- The lane of a key among ranges, from a search by halves in their bounds.
use Rattle.std.proofs.Common.{◌≡◌, ◌<◌, ◌≤◌, ◌+◌, ◌↔◌, IsTrue, ℕ, zero, suc, List, [], ◌∷◌, length, Bool, true, false, refl, sym, arith, nat_lt}
use Rattle.std.proofs.lemmas.Bool.{ltb-false, ltb-true}
use Rattle.std.proofs.lemmas.List.{get_or_default}
use Rattle.std.proofs.lemmas.List.Sorted.{IsNonDecreasingBy-from_all_adjacent, IsPartitionedBy-ltb}
use Rattle.std.proofs.lemmas.Bool.Decides.{nat_tests}
use Rattle.std.specs.List.{IsAllAdjacentAnswer}
use Rattle.std.specs.List.Sorted.{IsPartitionPoint, IsPartitionedBy, IsStrictlyIncreasing}
use Rattle.blink_batch.specs.Ranges.{lane_in_ranges}

-- the lane is one of the workers
pub lane_in_range : (bounds : List ℕ) (key : ℕ) → lane_in_ranges bounds key < length bounds + 1
lane_in_range [] key = omega arith
lane_in_range (bound ∷ bounds) key = grind (arith, nat_tests, lane_in_range bounds key)

-- where the bounds below the key end is its lane
pub lane_by_point : (bounds : List ℕ) (key place : ℕ) → place ≤ length bounds → IsPartitionPoint (λ bound. nat_lt bound key ≡ true) (λ bound. nat_lt bound key ≡ false) bounds place → place ≡ lane_in_ranges bounds key
lane_by_point [] key place within point = omega arith
lane_by_point (bound ∷ bounds) key zero within point = let above = point.1 0 0 (omega arith) (omega arith) in grind (arith, nat_tests, above)
lane_by_point (bound ∷ bounds) key (suc place) within point =
    let below = point.0 0 0 (omega arith) (omega arith) in
    let rest = lane_by_point bounds key place (omega arith) (λ i d from to. point.0 (suc i) d (omega arith) (omega arith), λ i d from to. point.1 (suc i) d (omega arith) (omega arith)) in
    grind (arith, nat_tests, below, rest)

-- ascending bounds are parted by the test whether they are below a key
pub parted_by_key : (bounds : List ℕ) (key : ℕ) → IsStrictlyIncreasing bounds → IsPartitionedBy (λ bound. nat_lt bound key) bounds
parted_by_key bounds key ascending = IsPartitionedBy-ltb (λ bound. bound) bounds key (IsNonDecreasingBy-from_all_adjacent (λ bound. bound) bounds (λ k d within.
    let rises = ascending k within in
    let here = get_or_default bounds k d 0 (omega arith) in
    let next = get_or_default bounds (k + 1) d 0 within in
    omega arith))

-- each was answered to be below the next exactly where they ascend
pub ascending_by_answer : (bounds : List ℕ) (answer : Bool) → IsAllAdjacentAnswer (λ bound next b. b ≡ nat_lt bound next) bounds answer → IsTrue answer ↔ IsStrictlyIncreasing bounds
ascending_by_answer bounds true all = (λ yes. λ k within. ltb-true _ _ (sym (all k 0 within)), λ ascending. refl)
ascending_by_answer bounds false some = (λ no. absurd (cc no), λ ascending. absurd (let rises = ascending some.0 some.1 in omega (arith, rises, ltb-false _ _ (sym (some.2 0)))))
