-- The part of an order that is a worker's: how far it has come in the worker's lane, and one more place at its end.
use Rattle.std.proofs.Common.{◌≡◌, ℕ, zero, suc, ◌+◌, ◌<◌, ◌≤◌, List, [], ◌∷◌, ◌++◌, length, get_or, take, filter, Bool, true, false, Some, None, refl, ap, sym, ◌∙◌, subst, inl, inr, arith}
use Rattle.std.proofs.lemmas.Bool.{cases_Bool, cases_eq, cases_lt, eq-eqb}
use Rattle.std.proofs.lemmas.List.{append-nil, take_all, take_more}
use Rattle.std.proofs.lemmas.List.Elements.{All-filter, All-from_recursion, All-same, filter-append, recursion_from_All}
use Rattle.std.proofs.lemmas.Option.{slice_get_within, slice_get_past}
use Rattle.std.specs.List.{All, AllByRecursion, Contains, slice_get}
use Rattle.blink_batch.specs.Order.{next_place, is_worker, lane_of, part_of, places_from}
use Rattle.blink_batch.proofs.OperationsAtPlaces.{get_or-places_from, length-places_from, part_of-push_own}
use Rattle.blink_batch.proofs.NextPlaces.{is_worker-other, next_place-end, next_place-further, next_place-here}

-- ---- a worker's part of the beginning of its lane

-- the first places, and one more
first_places_more : (lanes : List ℕ) (place : ℕ) → place < length lanes → take (place + 1) (places_from 0 lanes) ≡ take place (places_from 0 lanes) ++ place ∷ []
first_places_more lanes place within =
    let long = length-places_from 0 lanes in
    take_more (places_from 0 lanes) place 0 (omega arith) ∙ ap (λ (n : ℕ). take place (places_from 0 lanes) ++ n ∷ []) (get_or-places_from 0 lanes place 0 within ∙ omega arith)

-- a place of the worker's is one more of its part
pub part_of_first-own : (lanes : List ℕ) (worker place : ℕ) → slice_get lanes place ≡ Some worker → part_of lanes worker (take (place + 1) (places_from 0 lanes)) ≡ part_of lanes worker (take place (places_from 0 lanes)) ++ place ∷ []
part_of_first-own lanes worker place own = ap (part_of lanes worker) (first_places_more lanes place (slice_get_within lanes place worker own)) ∙ part_of-push_own lanes worker (take place (places_from 0 lanes)) place own

-- a place of another's isn't
pub part_of_first-other : (lanes : List ℕ) (worker place : ℕ) → place < length lanes → (get_or lanes place 0 ≡ worker → ⊥) → part_of lanes worker (take (place + 1) (places_from 0 lanes)) ≡ part_of lanes worker (take place (places_from 0 lanes))
part_of_first-other lanes worker place within other =
    ap (part_of lanes worker) (first_places_more lanes place within)
    ∙ rw (filter-append (λ n. is_worker worker (slice_get lanes n)) (take place (places_from 0 lanes)) (place ∷ []), is_worker-other lanes worker place within other) (append-nil (part_of lanes worker (take place (places_from 0 lanes))))

-- at the lanes' end the part is the whole lane
pub part_of_first-end : (lanes : List ℕ) (worker place : ℕ) → length lanes ≤ place → part_of lanes worker (take place (places_from 0 lanes)) ≡ lane_of lanes worker
part_of_first-end lanes worker place past = let long = length-places_from 0 lanes in ap (part_of lanes worker) (take_all place (places_from 0 lanes) (omega arith))

-- between a place and the next of the worker's its part stays
pub part_of-next_place : (lanes : List ℕ) (worker place next : ℕ) → next_place lanes worker place ≡ Some next → part_of lanes worker (take next (places_from 0 lanes)) ≡ part_of lanes worker (take place (places_from 0 lanes))
part_of-next_place lanes worker place next found = scan (length lanes) lanes worker place next (omega arith) found
  where
    scan : (fuel : ℕ) (lanes : List ℕ) (worker place next : ℕ) → length lanes ≤ fuel + place → next_place lanes worker place ≡ Some next → part_of lanes worker (take next (places_from 0 lanes)) ≡ part_of lanes worker (take place (places_from 0 lanes))
    scan zero lanes worker place next near found = let none = next_place-end lanes worker place (omega arith) in absurd (cc)
    scan (suc fuel) lanes worker place next near found = elim (cases_lt place (length lanes)) [
      | inr past ↦ let none = next_place-end lanes worker place past in absurd (cc)
      | inl within ↦ elim (cases_eq (get_or lanes place 0) worker) [
        | inl own ↦
            let here = next_place-here lanes worker place within own in
            let same : next ≡ place = cc in
            ap (λ (n : ℕ). part_of lanes worker (take n (places_from 0 lanes))) same
        | inr other ↦ scan fuel lanes worker (place + 1) next (omega arith) (sym (next_place-further lanes worker place within other) ∙ found) ∙ part_of_first-other lanes worker place within other
      ]
    ]

-- with no next place its part is the whole lane
pub part_of-no_next_place : (lanes : List ℕ) (worker place : ℕ) → next_place lanes worker place ≡ None → part_of lanes worker (take place (places_from 0 lanes)) ≡ lane_of lanes worker
part_of-no_next_place lanes worker place none = scan (length lanes) lanes worker place (omega arith) none
  where
    scan : (fuel : ℕ) (lanes : List ℕ) (worker place : ℕ) → length lanes ≤ fuel + place → next_place lanes worker place ≡ None → part_of lanes worker (take place (places_from 0 lanes)) ≡ lane_of lanes worker
    scan zero lanes worker place near none = part_of_first-end lanes worker place (omega arith)
    scan (suc fuel) lanes worker place near none = elim (cases_lt place (length lanes)) [
      | inr past ↦ part_of_first-end lanes worker place past
      | inl within ↦ elim (cases_eq (get_or lanes place 0) worker) [
        | inl own ↦ let here = next_place-here lanes worker place within own in absurd (cc)
        | inr other ↦ sym (part_of_first-other lanes worker place within other) ∙ scan fuel lanes worker (place + 1) (omega arith) (sym (next_place-further lanes worker place within other) ∙ none)
      ]
    ]

-- ---- a place that isn't decided yet

-- the first places are below their number
first_places_below : {X : Type 0} (from : ℕ) (xs : List X) (n : ℕ) → AllByRecursion (λ place. place < from + n) (take n (places_from from xs))
first_places_below from xs zero = tt
first_places_below from [] (suc n) = tt
first_places_below from (x ∷ xs) (suc n) = (omega arith, every_below (from + 1 + n) (from + suc n) (take n (places_from (from + 1) xs)) (omega arith) (first_places_below (from + 1) xs n))
  where
    every_below : (low high : ℕ) (places : List ℕ) → low ≤ high → AllByRecursion (λ place. place < low) places → AllByRecursion (λ place. place < high) places
    every_below low high [] less all = tt
    every_below low high (place ∷ places) less all = (let here : place < low = all.0 in omega arith, every_below low high places less all.1)

-- what holds of all elements that pass holds of each one that is contained and passes
pub passes_from_filter : {X : Type 0} (P : X → Type 0) (p : X → Bool) (xs : List X) (k : ℕ) (x : X) → k < length xs → get_or xs k x ≡ x → p x ≡ true → AllByRecursion P (filter p xs) → P x
passes_from_filter P p [] k x within at passes all = absurd (omega arith)
passes_from_filter P p (y ∷ xs) zero x within at passes all = let own : p y ≡ true = ap p at ∙ passes in subst P at (rw own at all).0
passes_from_filter P p (y ∷ xs) (suc k) x within at passes all = elim (cases_Bool (p y)) [
  | inl own ↦ passes_from_filter P p xs k x (omega arith) at passes (rw own at all).1
  | inr other ↦ passes_from_filter P p xs k x (omega arith) at passes (rw other at all)
]

-- an order in which a worker's part has come to a place doesn't have that place
pub fresh_from_part : (lanes : List ℕ) (worker : ℕ) (order : List ℕ) (place : ℕ) → slice_get lanes place ≡ Some worker → part_of lanes worker order ≡ part_of lanes worker (take place (places_from 0 lanes)) → Contains order place → ⊥
fresh_from_part lanes worker order place own part inside =
    let P : ℕ → Type 0 = λ n. n < 0 + place in
    let own_test : ℕ → Bool = λ n. is_worker worker (slice_get lanes n) in
    let first : All P (part_of lanes worker (take place (places_from 0 lanes))) = All-filter own_test P (take place (places_from 0 lanes)) (All-from_recursion P (take place (places_from 0 lanes)) (first_places_below 0 lanes place)) in
    let all : AllByRecursion P (part_of lanes worker order) = recursion_from_All P (part_of lanes worker order) (All-same P (part_of lanes worker order) (part_of lanes worker (take place (places_from 0 lanes))) part first) in
    let passes : own_test place ≡ true = ap (is_worker worker) own ∙ eq-eqb worker worker refl in
    let below : place < 0 + place = passes_from_filter P own_test order inside.0 place inside.1 inside.2 passes all in
    omega arith

-- ---- lanes of nobody

-- a worker above all lanes has no part of any order
pub part_of-nobody : (workers : ℕ) (lanes : List ℕ) (worker : ℕ) (order : List ℕ) → All (λ lane. lane < workers) lanes → workers ≤ worker → part_of lanes worker order ≡ []
part_of-nobody workers lanes worker [] all above = refl
part_of-nobody workers lanes worker (place ∷ order) all above = rw (not_its workers lanes worker place all above) (part_of-nobody workers lanes worker order all above)
  where
    not_its : (workers : ℕ) (lanes : List ℕ) (worker place : ℕ) → All (λ lane. lane < workers) lanes → workers ≤ worker → is_worker worker (slice_get lanes place) ≡ false
    not_its workers lanes worker place all above = elim (cases_lt place (length lanes)) [
      | inl within ↦ let low : get_or lanes place 0 < workers = all place 0 within in is_worker-other lanes worker place within (λ same. omega arith)
      | inr past ↦ rw (slice_get_past lanes place past)
    ]
