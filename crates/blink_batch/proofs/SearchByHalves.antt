-- What a search by halves finds in a plain map, and what the map has and becomes there.
use Rattle.std.proofs.Common.{◌≡◌, ◌≢◌, ℕ, zero, suc, ◌<◌, ◌≤◌, List, [], ◌∷◌, length, get_or, set, Some, None, Result, Ok, Err, IfOk, IfErr, refl, sym, ap, arith, inl, inr, subst}
use Rattle.std.specs.List.{insert, remove, AllByRecursion}
use Rattle.std.specs.List.Sorted.{IsSearchInRange, IsBinarySearchResult, IsNonDecreasingBy}
use Rattle.std.specs.Ordering.{nat_cmp, ordering_index}
use Rattle.std.proofs.lemmas.Bool.{cases_lt, eq-eqb, ne_eqb}
use Rattle.std.proofs.lemmas.Bool.Decides.{nat_tests}
use Rattle.std.proofs.lemmas.Cmp.{ranked}
use Rattle.std.proofs.lemmas.List.{get_or_default}
use Rattle.std.proofs.lemmas.List.Sorted.{IsNonDecreasingBy-from_default}
use Rattle.blink_operation.specs.declared.entry.Entry.{Entry}
use Rattle.blink_operation.specs.PlainMap.{entry, IsAscending, pointer_of, added, removed, replaced}
use Rattle.blink_batch.specs.Search.{key_at, IsPlaceOf, IsGapFor}

-- what holds of each entry holds of the one at a place
all_at : (P : Entry → Type 0) (map : List Entry) (place : ℕ) (d : Entry) → AllByRecursion P map → place < length map → P (get_or map place d)
all_at P [] place d all in_range = absurd (omega arith)
all_at P (e ∷ es) zero d all in_range = all.0
all_at P (e ∷ es) (suc place) d all in_range = all_at P es place d all.1 (omega arith)

-- the keys ascend from place to place
keys_ascend : (map : List Entry) → IsAscending map → (i j : ℕ) → i < j → j < length map → key_at map i < key_at map j
keys_ascend [] ascending i j before in_range = absurd (omega arith)
keys_ascend (e ∷ es) ascending i zero before in_range = absurd (omega arith)
keys_ascend (e ∷ es) ascending zero (suc j) before in_range = all_at (λ after. e.key < after.key) es j (entry 0 0) ascending.0 (omega arith)
keys_ascend (e ∷ es) ascending (suc i) (suc j) before in_range = keys_ascend es ascending.1 i j (omega arith) (omega arith)

-- the map maps the key of an entry to its pointer, if no earlier entry has the key
pointer_of-first : (map : List Entry) (key place : ℕ) → IsPlaceOf map key place → ((other : ℕ) → other < place → key_at map other ≢ key) → pointer_of map key ≡ Some (get_or map place (entry 0 0)).pointer
pointer_of-first [] key place found first = absurd (omega (arith, found.in_range))
pointer_of-first (e ∷ es) key zero found first = grind (arith, nat_tests, found.has_key)
pointer_of-first (e ∷ es) key (suc place) found first =
    grind (
      arith,
      nat_tests,
      first 0 (omega arith),
      pointer_of-first es key place
          (record { in_range = omega (arith, found.in_range); has_key = found.has_key }) (λ other before. first (suc other) (omega arith)),
    )

-- a key that no entry has maps to nothing
pointer_of-absent : (map : List Entry) (key : ℕ) → ((other : ℕ) → other < length map → key_at map other ≢ key) → pointer_of map key ≡ None
pointer_of-absent [] key absent = refl
pointer_of-absent (e ∷ es) key absent =
    grind (arith, nat_tests, absent 0 (omega arith), pointer_of-absent es key (λ other in_range. absent (suc other) (omega arith)))

-- an ascending map maps the key to the pointer of the entry found
pub pointer_of-found : (map : List Entry) (key place : ℕ) → IsAscending map → IsPlaceOf map key place → pointer_of map key ≡ Some (get_or map place (entry 0 0)).pointer
pointer_of-found map key place ascending found =
    pointer_of-first map key place found (λ other before same. omega (arith, keys_ascend map ascending other place before found.in_range, found.has_key))

-- a key in a gap maps to nothing
pub pointer_of-gap : (map : List Entry) (key place : ℕ) → IsGapFor map key place → pointer_of map key ≡ None
pointer_of-gap map key place gap =
    pointer_of-absent map key (λ other in_range same. elim (cases_lt other place) [
      | inl before ↦ omega (arith, gap.smaller_before other before)
      | inr after ↦ omega (arith, gap.greater_after other after in_range)
    ])

-- to add an entry is to insert it at its gap
pub insert-gap : (map : List Entry) (new : Entry) (place : ℕ) → IsGapFor map new.key place → insert map place new ≡ added map new
insert-gap [] new zero gap = refl
insert-gap [] new (suc place) gap = absurd (omega (arith, gap.in_range))
insert-gap (e ∷ es) new zero gap = grind (arith, nat_tests, gap.greater_after 0 (omega arith) (omega arith))
insert-gap (e ∷ es) new (suc place) gap =
    grind (
      arith,
      nat_tests,
      gap.smaller_before 0 (omega arith),
      insert-gap es new place (record {
        in_range = omega (arith, gap.in_range);
        smaller_before = λ other before. gap.smaller_before (suc other) (omega arith);
        greater_after = λ other after in_range. gap.greater_after (suc other) (omega arith) (omega arith);
      }),
    )

-- a map that begins above a key has no entry of it to remove
removed-below : (map : List Entry) (key : ℕ) → AllByRecursion (λ e. key < e.key) map → removed map key ≡ map
removed-below [] key below = refl
removed-below (e ∷ es) key below =
    let here : key < e.key = below.0 in
    let rest : removed es key ≡ es = removed-below es key below.1 in
    grind (arith, nat_tests, rest)

-- to remove the entry of a key is to remove it at its place
pub remove-place : (map : List Entry) (key place : ℕ) → IsAscending map → IsPlaceOf map key place → remove map place ≡ removed map key
remove-place [] key place ascending found = absurd (omega (arith, found.in_range))
remove-place (e ∷ es) key zero ascending found =
    let same : e.key ≡ key = found.has_key in
    let rest : removed es key ≡ es = removed-below es key (subst (λ (k : ℕ). AllByRecursion (λ after. k < after.key) es) same ascending.0) in
    grind (arith, nat_tests, rest)
remove-place (e ∷ es) key (suc place) ascending found =
    let inside : place < length es = omega (arith, found.in_range) in
    let here : e.key < key_at es place = all_at (λ after. e.key < after.key) es place (entry 0 0) ascending.0 inside in
    let is_key : key_at es place ≡ key = found.has_key in
    let rest : remove es place ≡ removed es key = remove-place es key place ascending.1 (record { in_range = inside; has_key = is_key }) in
    grind (arith, nat_tests, rest, here, is_key)

-- to replace the pointer of a key is to put another entry at its place
pub set-place : (map : List Entry) (key place pointer : ℕ) → IsAscending map → IsPlaceOf map key place → set map place (entry key pointer) ≡ replaced map key pointer
set-place [] key place pointer ascending found = absurd (omega (arith, found.in_range))
set-place (e ∷ es) key zero pointer ascending found =
    let same : e.key ≡ key = found.has_key in
    rw (eq-eqb e.key key same) refl
set-place (e ∷ es) key (suc place) pointer ascending found =
    let inside : place < length es = omega (arith, found.in_range) in
    let here : e.key < key_at es place = all_at (λ after. e.key < after.key) es place (entry 0 0) ascending.0 inside in
    let is_key : key_at es place ≡ key = found.has_key in
    let rest : set es place (entry key pointer) ≡ replaced es key pointer = set-place es key place pointer ascending.1 (record { in_range = inside; has_key = is_key }) in
    rw (ne_eqb e.key key (λ same. omega arith)) (ap (λ (r : List Entry). e ∷ r) rest)

module _ (map : List Entry) (ascending : IsAscending map) (key : ℕ) where
  -- the comparisons with the key rise along the map, as a search by halves asks
  comparisons_rise : IsNonDecreasingBy (λ e. ordering_index (nat_cmp e.key key)) map
  comparisons_rise = IsNonDecreasingBy-from_default (λ e. ordering_index (nat_cmp e.key key)) map (entry 0 0) (λ i j le in_range.
      let keys_rise : key_at map i ≤ key_at map j = grind (arith, keys_ascend map ascending i j, λ (same : i ≡ j). ap (key_at map) same) in
      grind (arith, nat_tests))

  -- a search by halves ends at the key, or at the gap for it
  pub searched : (r : Result ℕ ℕ) → IsSearchInRange r (length map) → IsBinarySearchResult (λ e. nat_cmp e.key key) map r → record { found : IfOk r (IsPlaceOf map key); gap : IfErr r (IsGapFor map key) }
  searched (Ok place) in_range equal = record { found = record { in_range = in_range; has_key = ranked _ key _ (sym (equal (entry 0 0))) }; gap = tt }
  searched (Err place) in_range parted = record {
    found = tt;
    gap = record {
      in_range = in_range;
      smaller_before = λ other before. ranked _ key _ (sym ((parted comparisons_rise).0 other (entry 0 0) (omega arith) before));
      greater_after = λ other after below. ranked _ key _ (sym ((parted comparisons_rise).1 other (entry 0 0) after below));
    };
  }

-- an ascending map maps a key to the pointer of the entry at its place
pub kept_at_place : (map : List Entry) (key place : ℕ) (x : Entry) → IsAscending map → IsPlaceOf map key place → x ≡ get_or map place x → pointer_of map key ≡ Some x.pointer
kept_at_place map key place x ascending found read =
    let same = get_or_default map place x (entry 0 0) found.in_range in
    let kept = pointer_of-found map key place ascending found in cc
