-- The keys of two lists in one ascending list: which they are, and that none stands twice where each is below the next.
use Rattle.std.proofs.Common.{◌≡◌, ◌≢◌, ◌↔◌, ◌⊎◌, ℕ, ◌+◌, ◌<◌, Some, List, ◌++◌, [], ◌∷◌, zero, suc, length, take, get_or, inr, refl, ⊎_elim, sym, ◌∙◌, arith, append_assoc, subst, ap}
use Rattle.std.specs.Prelude.{Contains, slice_get, ◌==◌}
use Rattle.std.specs.List.{AllPairs}
use Rattle.std.specs.List.Retain.{DiffersFromLast, IsFiltered}
use Rattle.std.specs.List.Sorted.{IsPermutation, IsStrictlyIncreasing}
use Rattle.std.proofs.lemmas.Bool.Decides.{Decides-eqb, nat_tests}
use Rattle.std.proofs.lemmas.List.{get_or-append-add, get_or_append_left, get_or_default, length-append, length-take, get_or-take}
use Rattle.std.proofs.lemmas.List.Elements.{Contains-append_left, Contains-append_right, Contains-append_cases}
use Rattle.std.proofs.lemmas.List.Filters.{dedup_is}
use Rattle.std.proofs.lemmas.List.Kept.{AllPairs-from_increasing, Contains-dedup_nat, Contains-from_dedup}
use Rattle.std.proofs.lemmas.List.Sorted.{Contains-permutation, IsNonDecreasingBy-from_sort, IsPermutation-append_comm, IsPermutation-append_left, IsPermutation-append_right, IsPermutation-middle, IsPermutation-sym, IsPermutation-trans}
use Rattle.std.specs.Prelude.{IsSorted}
use Rattle.std.specs.Ordering.{nat_cmp, is_lt}
use Rattle.std.specs.Cmp.{nat_cmp_is}
use Rattle.std.specs.declared.cmp.Ordering.TheVariants.{Greater}
use Rattle.std.proofs.lemmas.Map.Keys.{IsDistinct-IsPermutation, IsStrictlyIncreasing-dedup, IsStrictlyIncreasing-from_distinct}
use Rattle.std.proofs.lemmas.Map.Made.{AllPairs-from_IsDistinct, IsDistinct-from_AllPairs}
use Rattle.blink_live.specs.Deals.{NoneIsTaken}

pub of_both : (keys more all : List ℕ) → IsPermutation (keys ++ more) all → (key : ℕ) → Contains all key ↔ (Contains keys key ⊎ Contains more key)
of_both keys more all moved key = (
  λ there. Contains-append_cases keys more key (Contains-permutation all (keys ++ more) key (IsPermutation-sym (keys ++ more) all moved) there),
  λ either. Contains-permutation (keys ++ more) all key moved (⊎_elim (Contains-append_left keys more key) (Contains-append_right keys more key) either),
)

flips : (x y : ℕ) → (x == y) ≡ (y == x)
flips x y = grind (arith, nat_tests)

-- the element at a place of a list
pub some_at : (keys : List ℕ) (n key : ℕ) → slice_get keys n ≡ Some key → (n < length keys) × (get_or keys n 0 ≡ key)
some_at [] n key at = absurd (cc)
some_at (first ∷ rest) zero key at = (omega arith, cc)
some_at (first ∷ rest) (suc n) key at = let t = some_at rest n key at in (let inside = t.0 in omega (arith, inside), t.1)

-- one of the first keys
among_first : (keys : List ℕ) (n key : ℕ) → Contains (take n keys) key → (i : ℕ) × (i < n) × (i < length keys) × (get_or keys i 0 ≡ key)
among_first keys n key there =
    let i : ℕ = there.0 in
    let inside : i < length (take n keys) = there.1 in
    let long = length-take n keys in
    let less : i < n = omega (arith, long, inside) in
    (i, less, omega (arith, long, inside), sym (get_or-take n keys i 0 less) ∙ (get_or_default (take n keys) i 0 key inside ∙ there.2))

module _ (taken keys all : List ℕ) (moved : IsPermutation (taken ++ keys) all) (rises : IsStrictlyIncreasing all) where
  differ : AllPairs (λ (x y : ℕ). x ≢ y) (taken ++ keys)
  differ = AllPairs-from_IsDistinct Decides-eqb (taken ++ keys)
      (IsDistinct-IsPermutation (λ (x y : ℕ). x == y) flips all (taken ++ keys) (IsPermutation-sym (taken ++ keys) all moved)
      (IsDistinct-from_AllPairs Decides-eqb all (λ i j d less inside same. let below = AllPairs-from_increasing all rises i j d less inside in omega (arith, below, same))))

  not_twice : (i place : ℕ) → i < length taken + place → place < length keys → get_or (taken ++ keys) i 0 ≡ get_or keys place 0 → ⊥
  not_twice i place before inside same =
      differ i (length taken + place) 0 before (let long = length-append taken keys in omega (arith, long, inside)) (same ∙ sym (get_or-append-add taken keys place 0))

  pub none_twice : NoneIsTaken taken keys
  none_twice place key is =
      let here = some_at keys place key is.at in
      ⊎_elim
      (λ (was : Contains taken key).
      let inside : was.0 < length taken = was.1 in
      not_twice was.0 place (omega (arith, inside)) here.0 (get_or_append_left taken keys 0 was.0 inside ∙ (get_or_default taken was.0 0 key inside ∙ was.2) ∙ sym here.1))
      (λ (earlier : Contains (take place keys) key).
      let t = among_first keys place key earlier in
      not_twice (length taken + t.0) place (let low = t.1 in omega (arith, low)) here.0 (get_or-append-add taken keys t.0 0 ∙ t.3 ∙ sym here.1))
      is.again

-- ---- a merge

module _ (first second all : List ℕ) (moved : IsPermutation (first ++ second) all) (x : ℕ) where
  -- one more key of the second list
  pub second_more : IsPermutation (first ++ (second ++ x ∷ [])) (all ++ x ∷ [])
  second_more = subst (λ (l : List ℕ). IsPermutation l (all ++ x ∷ [])) (append_assoc first second (x ∷ [])) (IsPermutation-append_left (x ∷ []) (first ++ second) all moved)

  -- one more key of the first list
  pub first_more : IsPermutation ((first ++ x ∷ []) ++ second) (all ++ x ∷ [])
  first_more = subst (λ (l : List ℕ). IsPermutation l (all ++ x ∷ [])) (sym (append_assoc first (x ∷ []) second))
      (IsPermutation-trans (first ++ x ∷ second) (x ∷ (first ++ second)) (all ++ x ∷ []) (IsPermutation-middle first x second)
      (IsPermutation-trans (x ∷ (first ++ second)) ((first ++ second) ++ x ∷ []) (all ++ x ∷ []) (IsPermutation-append_comm (x ∷ []) (first ++ second)) (IsPermutation-append_left (x ∷ []) (first ++ second) all moved)))

-- and all others of the first list
pub rest_more : (first rest second all : List ℕ) → IsPermutation (first ++ second) all → IsPermutation ((first ++ rest) ++ second) (all ++ rest)
rest_more first rest second all moved =
    subst (λ (l : List ℕ). IsPermutation l (all ++ rest)) (sym (append_assoc first rest second))
    (IsPermutation-trans (first ++ (rest ++ second)) (first ++ (second ++ rest)) (all ++ rest)
    (IsPermutation-append_right first (rest ++ second) (second ++ rest) (IsPermutation-append_comm rest second))
    (subst (λ (l : List ℕ). IsPermutation l (all ++ rest)) (append_assoc first second rest) (IsPermutation-append_left rest (first ++ second) all moved)))

-- keys that rise are in order
pub sorted_from_rising : (keys : List ℕ) → IsStrictlyIncreasing keys → IsSorted nat_cmp keys
sorted_from_rising keys rises k d low inside =
    let below = rises k inside in
    let here : get_or keys k 0 ≡ get_or keys k d = get_or_default keys k 0 d (omega (arith, inside)) in
    let next : get_or keys (k + 1) 0 ≡ get_or keys (k + 1) d = get_or_default keys (k + 1) 0 d inside in
    ap is_lt (sym (nat_cmp_is (get_or keys (k + 1) d) (get_or keys k d) Greater (omega (arith, below, here, next))))

-- ---- keys of which none stands twice

at_index : (keys : List ℕ) (n d : ℕ) → n < length keys → slice_get keys n ≡ Some (get_or keys n d)
at_index [] n d inside = absurd (omega (arith, inside))
at_index (first ∷ rest) zero d inside = refl
at_index (first ∷ rest) (suc n) d inside = at_index rest n d (omega (arith, inside))

-- in order they rise
pub rises_in_order : (taken keys sorted : List ℕ) → NoneIsTaken taken keys → IsPermutation keys sorted → IsSorted nat_cmp sorted → IsStrictlyIncreasing sorted
rises_in_order taken keys sorted free moved ordered =
    IsStrictlyIncreasing-from_distinct sorted (λ i j d le inside. IsNonDecreasingBy-from_sort (λ x. x) sorted ordered i j d le inside)
    (IsDistinct-IsPermutation (λ (x y : ℕ). x == y) flips keys sorted moved
    (IsDistinct-from_AllPairs Decides-eqb keys (λ i j d less inside same.
    let long = length-take j keys in
    let before : i < length (take j keys) = omega (arith, long, less, inside) in
    let first : get_or keys i (get_or keys j d) ≡ get_or keys j d = get_or_default keys i (get_or keys j d) d (omega (arith, less, inside)) ∙ same in
    free j (get_or keys j d) record { at = at_index keys j d inside; again = inr (i, before, get_or-take j keys i (get_or keys j d) less ∙ first) })))

-- what is left of keys in order without those that stand again
pub rises_without_again : (keys left : List ℕ) → IsSorted nat_cmp keys → IsFiltered (DiffersFromLast (λ (x y : ℕ). x == y)) [] keys left → IsStrictlyIncreasing left
rises_without_again keys left ordered is = subst IsStrictlyIncreasing (sym (dedup_is (λ (x y : ℕ). x == y) keys left is)) (IsStrictlyIncreasing-dedup keys ordered)

pub same_without_again : (keys sorted left : List ℕ) → IsPermutation keys sorted → IsFiltered (DiffersFromLast (λ (x y : ℕ). x == y)) [] sorted left → (key : ℕ) → Contains left key ↔ Contains keys key
same_without_again keys sorted left moved is key =
    let same = dedup_is (λ (x y : ℕ). x == y) sorted left is in (
      λ has. Contains-permutation sorted keys key (IsPermutation-sym keys sorted moved) (Contains-from_dedup (λ (x y : ℕ). x == y) sorted key (subst (λ (l : List ℕ). Contains l key) same has)),
      λ has. subst (λ (l : List ℕ). Contains l key) (sym same) (Contains-dedup_nat sorted key (Contains-permutation keys sorted key moved has)),
    )
