-- What a scan brings: the entries from one key to another are a stretch of the leaves' entries.
use Rattle.std.proofs.Common.{◌≡◌, ℕ, zero, suc, ◌+◌, ◌-◌, ◌<◌, ◌≤◌, Option, Some, None, take, List, [], ◌∷◌, ◌++◌, length, get_or, min, drop, filter, refl, sym, ap, subst, ◌∙◌, ⊎_elim, arith}
use Rattle.std.specs.Prelude.{if◌then◌else◌, nat_le}
use Rattle.std.proofs.lemmas.Bool.{cases_lt}
use Rattle.std.proofs.lemmas.Bool.Decides.{nat_tests}
use Rattle.std.proofs.lemmas.List.{map-append}
use Rattle.std.proofs.lemmas.List.Elements.{filter-append}
use Rattle.blink_operation.specs.declared.Entry.{Entry}
use Rattle.blink_operation.specs.{entry}
use Rattle.blink_page.specs.{IsRising, Rises, place_of}
use Rattle.blink_page.proofs.Offered.{rising_rises, from_at_most_to, IsRising-append, rising_get}
use Rattle.blink_rest.specs.{entries_from}
use Rattle.std.specs.Iterator.{YieldsFirst}
use Rattle.std.proofs.iter.runs.Sources.{from_front, as_is}
use Rattle.blink_entries.specs.Scan.{at_most, fewer, first_of, is_from, is_within, entries_to, one_fewer, BringsInOrder}

-- a scan is seen as the entries that it still brings, and it brings these
pub brings_in_order : BringsInOrder
brings_in_order p s = as_is p p.from (from_front (YieldsFirst {A = Entry} (λ rest. rest)) (λ x. x) (λ rest. rest) (λ s t h. ap length h.0) (λ s x t h. h) p s)

-- the first of at most so many, and the others of one fewer
pub one_brought : (most : Option ℕ) (first : Entry) (rest : List Entry) → (most ≡ Some 0 → ⊥) → at_most most (first ∷ rest) ≡ first ∷ at_most (one_fewer most) rest
one_brought None first rest more = refl
one_brought (Some zero) first rest more = absurd (more refl)
one_brought (Some (suc n)) first rest more = let others : n ≡ suc n - 1 = omega arith in ap (λ (k : ℕ). first ∷ take k rest) others

-- every entry is within all keys
pub all_within : (greatest from : ℕ) (xs : List (ℕ × ℕ)) → IsRising from xs (greatest + 1) → filter (is_within 0 greatest) (entries_from xs) ≡ entries_from xs
all_within greatest from [] rising = refl
all_within greatest from ((k, v) ∷ rest) rising =
    let later : filter (is_within 0 greatest) (entries_from rest) ≡ entries_from rest = all_within greatest (k + 1) rest rising.1 in
    let below : k + 1 ≤ greatest + 1 = from_at_most_to (k + 1) rest (greatest + 1) rising.1 in
    grind (arith, nat_tests)

-- and from a key on they are within it and the greatest
pub from_within : (lo greatest from : ℕ) (xs : List (ℕ × ℕ)) → IsRising from xs (greatest + 1) → filter (is_within lo greatest) (entries_from xs) ≡ filter (is_from lo) (entries_from xs)
from_within lo greatest from [] rising = refl
from_within lo greatest from ((k, v) ∷ rest) rising =
    let later : filter (is_within lo greatest) (entries_from rest) ≡ filter (is_from lo) (entries_from rest) = from_within lo greatest (k + 1) rest rising.1 in
    let below : k + 1 ≤ greatest + 1 = from_at_most_to (k + 1) rest (greatest + 1) rising.1 in
    grind (arith, nat_tests)

module _ (lo hi : ℕ) where
  -- no entry is within that is below
  pub below_none : (from : ℕ) (xs : List (ℕ × ℕ)) (to : ℕ) → IsRising from xs to → to ≤ lo → filter (is_within lo hi) (entries_from xs) ≡ []
  below_none from [] to rising below = refl
  below_none from ((k, v) ∷ rest) to rising below =
      grind (arith, nat_tests, rising.0, from_at_most_to (k + 1) rest to rising.1, below_none (k + 1) rest to rising.1 below)

  -- nor one that is above
  pub above_none : (from : ℕ) (xs : List (ℕ × ℕ)) (to : ℕ) → IsRising from xs to → hi < from → filter (is_within lo hi) (entries_from xs) ≡ []
  above_none from [] to rising above = refl
  above_none from ((k, v) ∷ rest) to rising above =
      let least = rising.0 in
      let later : filter (is_within lo hi) (entries_from rest) ≡ [] = above_none (k + 1) rest to rising.1 (omega arith) in
      grind (arith, nat_tests)

  -- of rising entries from lo on those within are those up to hi
  pub within_to : (from : ℕ) (xs : List (ℕ × ℕ)) (to : ℕ) → IsRising from xs to → lo ≤ from → filter (is_within lo hi) (entries_from xs) ≡ entries_to hi xs
  within_to from [] to rising least = refl
  within_to from ((k, v) ∷ rest) to rising least =
      let first = rising.0 in
      let later : filter (is_within lo hi) (entries_from rest) ≡ entries_to hi rest = within_to (k + 1) rest to rising.1 (omega arith) in
      let none : hi < k + 1 → filter (is_within lo hi) (entries_from rest) ≡ [] = above_none (k + 1) rest to rising.1 in
      grind (arith, nat_tests)

  -- those before lo's place are not within
  pub within_place : (xs : List (ℕ × ℕ)) → filter (is_within lo hi) (entries_from xs) ≡ filter (is_within lo hi) (entries_from (drop (place_of lo xs) xs))
  within_place [] = refl
  within_place ((k, v) ∷ rest) =
      let later : filter (is_within lo hi) (entries_from rest) ≡ filter (is_within lo hi) (entries_from (drop (place_of lo rest) rest)) = within_place rest in
      grind (arith, nat_tests)

  -- those from lo's place on rise from lo
  pub place_rising : (from : ℕ) (xs : List (ℕ × ℕ)) (to : ℕ) → IsRising from xs to → lo ≤ to → IsRising lo (drop (place_of lo xs) xs) to
  place_rising from [] to rising below = below
  place_rising from ((k, v) ∷ rest) to rising below =
      let later : IsRising lo (drop (place_of lo rest) rest) to = place_rising (k + 1) rest to rising.1 below in
      let rest_rising : IsRising (k + 1) rest to = rising.1 in
      grind (arith, nat_tests)

  -- entries in three parts, of which the first is below lo: those within begin at lo's place in the second
  pub scan_of_parts : (from low middle to : ℕ) (prefix es rest : List (ℕ × ℕ)) → IsRising from prefix low → low ≤ lo → IsRising low es middle → lo ≤ middle → IsRising middle rest to
      → filter (is_within lo hi) (entries_from (prefix ++ (es ++ rest))) ≡ entries_to hi (drop (place_of lo es) es ++ rest)
  scan_of_parts from low middle to prefix es rest before below rising above after =
      let p = is_within lo hi in
      let pair = λ (x : ℕ × ℕ). entry x.0 x.1 in
      let tail = drop (place_of lo es) es in
      let parts : filter p (entries_from (prefix ++ (es ++ rest))) ≡ filter p (entries_from prefix) ++ filter p (entries_from (es ++ rest))
      = ap (filter p) (map-append pair prefix (es ++ rest)) ∙ filter-append p (entries_from prefix) (entries_from (es ++ rest)) in
      let both : filter p (entries_from (es ++ rest)) ≡ filter p (entries_from es) ++ filter p (entries_from rest)
      = ap (filter p) (map-append pair es rest) ∙ filter-append p (entries_from es) (entries_from rest) in
      let tail_both : filter p (entries_from (tail ++ rest)) ≡ filter p (entries_from tail) ++ filter p (entries_from rest)
      = ap (filter p) (map-append pair tail rest) ∙ filter-append p (entries_from tail) (entries_from rest) in
      parts ∙ ap (λ (first : List Entry). first ++ filter p (entries_from (es ++ rest))) (below_none from prefix low before below)
      ∙ both ∙ ap (λ (first : List Entry). first ++ filter p (entries_from rest)) (within_place es) ∙ sym tail_both
      ∙ within_to lo (tail ++ rest) to (IsRising-append lo tail rest middle to (place_rising low es middle rising above) after) (omega arith)

-- rising entries are all up to `hi` where the last is
pub all_up_to : (hi from : ℕ) (xs : List (ℕ × ℕ)) (to n : ℕ) → IsRising from xs to → length xs ≡ suc n → (get_or {A = ℕ × ℕ} xs n (0, 0)).0 ≤ hi → entries_to hi xs ≡ entries_from xs
all_up_to hi from [] to n rising long last = absurd (omega (arith, long))
all_up_to hi from ((k, v) ∷ []) to n rising long last =
    let first : n ≡ 0 = omega (arith, long) in
    let low : k ≤ hi = subst (λ (i : ℕ). (get_or {A = ℕ × ℕ} ((k, v) ∷ []) i (0, 0)).0 ≤ hi) first last in
    grind (arith, nat_tests, low)
all_up_to hi from ((k, v) ∷ y ∷ rest) to zero rising long last = absurd (omega (arith, long))
all_up_to hi from ((k, v) ∷ y ∷ rest) to (suc n) rising long last =
    let above : k + 1 ≤ (get_or {A = ℕ × ℕ} (y ∷ rest) n (0, 0)).0 = rising_get (0, 0) (k + 1) n (y ∷ rest) to rising.1 (omega (arith, long)) in
    let low : k ≤ hi = omega (arith, above, last) in
    let later : entries_to hi (y ∷ rest) ≡ entries_from (y ∷ rest) = all_up_to hi (k + 1) (y ∷ rest) to n rising.1 (omega (arith, long)) last in
    kept k v hi (entries_to hi (y ∷ rest)) (entries_from (y ∷ rest)) low later
  where
    kept : (k v hi : ℕ) (es fs : List Entry) → k ≤ hi → es ≡ fs → (if nat_le k hi then entry k v ∷ es else []) ≡ entry k v ∷ fs
    kept k v hi es fs low same = grind (arith, nat_tests, low, same)

-- rising entries rise from any place on
pub rises_from : (n from : ℕ) (xs : List (ℕ × ℕ)) (to : ℕ) → IsRising from xs to → Rises (drop n xs)
rises_from zero from xs to rising = rising_rises from xs to rising
rises_from (suc n) from [] to rising = omega arith
rises_from (suc n) from (x ∷ xs) to rising = rises_from n (x.0 + 1) xs to rising.1

-- where some are above, the others end there
pub ends_in : (hi : ℕ) (xs ys : List (ℕ × ℕ)) → length (entries_to hi xs) < length xs → entries_to hi (xs ++ ys) ≡ entries_to hi xs
ends_in hi [] ys fewer = absurd (omega (arith, fewer))
ends_in hi ((k, v) ∷ rest) ys fewer =
    ⊎_elim
    (λ (above : hi < k). grind (arith, nat_tests, above))
    (λ (low : k ≤ hi).
    let less : length (entries_to hi rest) < length rest = grind (arith, nat_tests, low, fewer) in
    let later = ends_in hi rest ys less in
    grind (arith, nat_tests, low, later))
    (cases_lt hi k)

-- where none is, they go on
pub goes_on : (hi : ℕ) (xs ys : List (ℕ × ℕ)) → length (entries_to hi xs) ≡ length xs → entries_to hi (xs ++ ys) ≡ entries_to hi xs ++ entries_to hi ys
goes_on hi [] ys all = refl
goes_on hi ((k, v) ∷ rest) ys all =
    ⊎_elim
    (λ (above : hi < k). absurd (grind (arith, nat_tests, above, all)))
    (λ (low : k ≤ hi).
    let same : length (entries_to hi rest) ≡ length rest = grind (arith, nat_tests, low, all) in
    let later = goes_on hi rest ys same in
    grind (arith, nat_tests, low, later))
    (cases_lt hi k)

-- a run of the first entries, and what comes after it
run_of : (n m : ℕ) (xs : List (ℕ × ℕ)) (rest : List Entry) → m ≤ n → m ≤ length xs → take n (entries_from xs ++ rest) ≡ entries_from (take m xs) ++ take (n - m) (entries_from (drop m xs) ++ rest)
run_of n zero xs rest most inside = let same : n ≡ n - 0 = omega arith in ap (λ (k : ℕ). take k (entries_from xs ++ rest)) same
run_of zero (suc m) xs rest most inside = absurd (omega (arith, most))
run_of (suc n) (suc m) [] rest most inside = absurd (omega (arith, inside))
run_of (suc n) (suc m) (x ∷ xs) rest most inside =
    let same : n - m ≡ suc n - suc m = omega arith in
    ap (λ (es : List Entry). entry x.0 x.1 ∷ es) (run_of n m xs rest (omega (arith, most)) (omega (arith, inside)))
    ∙ ap (λ (k : ℕ). entry x.0 x.1 ∷ entries_from (take m xs) ++ take k (entries_from (drop m xs) ++ rest)) same

run_of_all : (xs : List (ℕ × ℕ)) (rest : List Entry) → entries_from xs ++ rest ≡ entries_from (take (length xs) xs) ++ (entries_from (drop (length xs) xs) ++ rest)
run_of_all [] rest = refl
run_of_all (x ∷ xs) rest = ap (λ (es : List Entry). entry x.0 x.1 ∷ es) (run_of_all xs rest)

pub run_brought : (most : Option ℕ) (xs : List (ℕ × ℕ)) (rest : List Entry)
    → at_most most (entries_from xs ++ rest) ≡ entries_from (take (first_of (length xs) most) xs) ++ at_most (fewer most (first_of (length xs) most)) (entries_from (drop (first_of (length xs) most) xs) ++ rest)
run_brought None xs rest = run_of_all xs rest
run_brought (Some n) xs rest = run_of n (min (length xs) n) xs rest (omega arith) (omega arith)
