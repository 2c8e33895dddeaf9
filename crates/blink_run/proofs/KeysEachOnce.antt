-- A sorted list whose repeats are left out has each of its numbers once, and no other.
use Rattle.std.proofs.Common.{◌≡◌, ◌↔◌, ℕ, ◌<◌, List, [], length, take, get_or, sym, ◌∙◌, ⊎_elim, arith}
use Rattle.std.specs.Prelude.{Contains, IsSorted}
use Rattle.std.specs.List.{dedup}
use Rattle.std.specs.List.Sorted.{IsPermutation, IsStrictlyIncreasing}
use Rattle.std.specs.Ordering.{nat_cmp}
use Rattle.std.proofs.lemmas.List.{get_or-take, length-take}
use Rattle.std.proofs.lemmas.List.Kept.{AllPairs-from_increasing, Contains-dedup_nat, Contains-from_dedup}
use Rattle.std.proofs.lemmas.List.Sorted.{Contains-permutation, IsPermutation-sym}
use Rattle.std.proofs.lemmas.Map.Keys.{IsStrictlyIncreasing-dedup}
use Rattle.std.proofs.lemmas.Option.{get_or_from_slice_get, slice_get_within}
use Rattle.std.proofs.Math.Dec.{eqb}
use Rattle.blink_live.specs.{NoneIsTaken}

-- in a list that ascends strictly no number stands twice
pub each_once_from_increasing : (keys : List ℕ) → IsStrictlyIncreasing keys → NoneIsTaken [] keys
each_once_from_increasing keys ascending place key is = ⊎_elim
    (λ (before : Contains [] key). let inside = before.1 in omega (arith, inside))
    (λ (before : Contains (take place keys) key).
    let within : place < length keys = slice_get_within keys place key is.at in
    let shorter = before.1 in
    let prefix = length-take place keys in
    let earlier : before.0 < place = omega (arith, shorter, prefix) in
    let there : get_or keys before.0 key ≡ key = sym (get_or-take place keys before.0 key earlier) ∙ before.2 in
    let below : get_or keys before.0 key < get_or keys place key = AllPairs-from_increasing keys ascending before.0 place key earlier within in
    let same : get_or keys place key ≡ key = get_or_from_slice_get keys place key key is.at in
    omega (arith, there, below, same))
    is.again

-- a sorted list without its repeats
pub each_once_from_sorted : (keys : List ℕ) → IsSorted nat_cmp keys → NoneIsTaken [] (dedup eqb keys)
each_once_from_sorted keys sorted = each_once_from_increasing (dedup eqb keys) (IsStrictlyIncreasing-dedup keys sorted)

-- it has the numbers of the list that was sorted
pub same_without_repeats : (keys sorted : List ℕ) → IsPermutation keys sorted → (key : ℕ) → Contains (dedup eqb sorted) key ↔ Contains keys key
same_without_repeats keys sorted moved key = (
  λ there. Contains-permutation sorted keys key (IsPermutation-sym keys sorted moved) (Contains-from_dedup eqb sorted key there),
  λ there. Contains-dedup_nat sorted key (Contains-permutation keys sorted key moved there),
)
