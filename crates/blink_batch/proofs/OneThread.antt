-- A whole order of a lawfully cut batch answers, and leaves, what one thread does that runs the batch in its own order.
use Rattle.std.proofs.Common.{◌≡◌, ℕ, zero, suc, ◌<◌, ◌==◌, List, [], ◌∷◌, length, map, get_or, filter, Bool, true, Some, refl, ap, sym, ◌∙◌, inl, inr, ◌⊎◌, arith}
use Rattle.std.proofs.lemmas.Bool.{cases_Bool, cases_eq, cases_order, eq-eqb, eqb-true}
use Rattle.std.proofs.lemmas.List.{same_lists}
use Rattle.std.proofs.lemmas.List.Elements.{All-filter, All-from_recursion, All-same, recursion_from_All}
use Rattle.std.proofs.lemmas.Option.{get_or_from_slice_get, slice_get-get_or}
use Rattle.std.proofs.lemmas.Slice.Zip.{get_or-zip, length-zip}
use Rattle.std.specs.List.{All, AllByRecursion, slice_get, zip}
use Rattle.blink_operation.specs.declared.entry.Entry.{Entry}
use Rattle.blink_operation.specs.declared.operation.Op.{Op}
use Rattle.blink_operation.specs.declared.operation.Op.TheVariants.{Find}
use Rattle.blink_operation.specs.declared.operation.Answer.{Answer}
use Rattle.blink_operation.specs.PlainMap.{IsAscending, pointer_of}
use Rattle.blink_operation.specs.Operation.{key_of, answers, map_after_all}
use Rattle.blink_batch.specs.Cut.{IsLawfulCut}
use Rattle.blink_batch.specs.Order.{operations_at, is_worker, places_from, AnswersInOrder, IsWholeOrder}
use Rattle.blink_batch.specs.Cell.{cell_answers, cell_after_all, is_on_key, on_key}
use Rattle.blink_batch.proofs.RunsByKey.{IsAscending-map_after_all, answers_on_key, every_weaker, pointer_of-map_after_all, same_map_from_pointers}
use Rattle.blink_batch.proofs.OperationsAtPlaces.{filter-filter, filter-map, get_or-places_from, length-answers, length-places_from, map-op_at-places_from, op_at, operations_at-map, places_within, same_places}

-- ---- a key's worker

-- two operations on one key are one worker's
pub same_worker_from_key : (ops : List Op) (workers : ℕ) (lanes : List ℕ) → IsLawfulCut ops workers lanes → (i j : ℕ) → i < length ops → j < length ops → key_of (op_at ops i) ≡ key_of (op_at ops j) → get_or lanes i 0 ≡ get_or lanes j 0
same_worker_from_key ops workers lanes lawful i j within_i within_j same = elim (cases_order i j) [
  | inl e ↦ ap (λ n. get_or lanes n 0) e
  | inr (inl less) ↦ earlier_first ops workers lanes lawful i j less within_j same
  | inr (inr more) ↦ sym (earlier_first ops workers lanes lawful j i more within_i (sym same))
]
  where
    earlier_first : (ops : List Op) (workers : ℕ) (lanes : List ℕ) → IsLawfulCut ops workers lanes → (i j : ℕ) → i < j → j < length ops → key_of (op_at ops i) ≡ key_of (op_at ops j) → get_or lanes i 0 ≡ get_or lanes j 0
    earlier_first ops workers lanes lawful i j less within same =
        let long : length lanes ≡ length ops = lawful.a_lane_each in
        let first = get_or-zip ops lanes i (Find 0, 0) (omega arith) (omega arith) in
        let second = get_or-zip ops lanes j (Find 0, 0) within (omega arith) in
        let fits : j < length (zip ops lanes) = rw (length-zip ops lanes) (omega arith) in
        let all = lawful.one_worker_a_key i j (Find 0, 0) less fits in
        let told : key_of (op_at ops i) ≡ key_of (op_at ops j) → get_or lanes i 0 ≡ get_or lanes j 0 = rw (first, second) at all in
        told same

-- some place is on the key, or none is
a_place_on_key : (ops : List Op) (k : ℕ) → ((i : ℕ) × (i < length ops) × (key_of (op_at ops i) ≡ k)) ⊎ ((i : ℕ) → i < length ops → key_of (op_at ops i) ≡ k → ⊥)
a_place_on_key [] k = inr (λ i within own. omega arith)
a_place_on_key (op ∷ ops) k = elim (cases_eq (key_of op) k) [
  | inl own ↦ inl (zero, omega arith, own)
  | inr other ↦ elim (a_place_on_key ops k) [
    | inl found ↦ inl (suc found.0, (let here : found.0 < length ops = found.1 in omega arith), found.2)
    | inr none ↦ inr (go op ops k other none)
  ]
]
  where
    go : (op : Op) (ops : List Op) (k : ℕ) → (key_of op ≡ k → ⊥) → ((i : ℕ) → i < length ops → key_of (op_at ops i) ≡ k → ⊥) → (i : ℕ) → i < length (op ∷ ops) → key_of (op_at (op ∷ ops) i) ≡ k → ⊥
    go op ops k other none zero within own = other own
    go op ops k other none (suc i) within own = none i (omega arith) own

-- all operations on a key are one worker's
pub worker_of_key : (ops : List Op) (workers : ℕ) (lanes : List ℕ) → IsLawfulCut ops workers lanes → (k : ℕ) → (worker : ℕ) × ((i : ℕ) → i < length ops → key_of (op_at ops i) ≡ k → slice_get lanes i ≡ Some worker)
worker_of_key ops workers lanes lawful k = elim (a_place_on_key ops k) [
  | inl found ↦ (
    get_or lanes found.0 0,
    λ i within own.
        let long : length lanes ≡ length ops = lawful.a_lane_each in
        slice_get-get_or lanes i 0 (omega arith) ∙ ap Some (same_worker_from_key ops workers lanes lawful i found.0 within found.1 (own ∙ sym found.2)),
  )
  | inr none ↦ (0, λ i within own. absurd (none i within own))
]

-- ---- a key's part of the order

-- the places on a key, in a whole order and in the batch's
pub same_places_on_key : (ops : List Op) (workers : ℕ) (lanes order : List ℕ) → IsLawfulCut ops workers lanes → IsWholeOrder ops lanes order → (k : ℕ) → filter (λ place. is_on_key k (op_at ops place)) order ≡ filter (λ place. is_on_key k (op_at ops place)) (places_from 0 ops)
same_places_on_key ops workers lanes order lawful whole k =
    let found = worker_of_key ops workers lanes lawful k in
    let on : ℕ → Bool = λ place. is_on_key k (op_at ops place) in
    let own : ℕ → Bool = λ place. is_worker found.0 (slice_get lanes place) in
    let stricter : (place : ℕ) → place < length ops → on place ≡ true → own place ≡ true =
    λ place within passes. rw (found.1 place within (eqb-true (key_of (op_at ops place)) k passes)) (eq-eqb found.0 found.0 refl) in
    let in_order = filter-filter on own order (every_weaker (λ place. place < length ops) (λ place. on place ≡ true → own place ≡ true) stricter order (recursion_from_All (λ place. place < length ops) order whole.places_of_batch)) in
    let in_batch = filter-filter on own (places_from 0 ops) (every_weaker (λ place. place < length ops) (λ place. on place ≡ true → own place ≡ true) stricter (places_from 0 ops) (places_within 0 ops (length ops) (omega arith))) in
    sym in_order ∙ ap (filter on) (whole.each_lane_in_order found.0) ∙ ap (λ places. filter on (filter own places)) (same_places 0 lanes ops lawful.a_lane_each) ∙ in_batch

-- so for each key a whole order and the batch have the same operations on it, in one sequence
pub on_key-operations_at : (ops : List Op) (workers : ℕ) (lanes order : List ℕ) → IsLawfulCut ops workers lanes → IsWholeOrder ops lanes order → (k : ℕ) → on_key k (operations_at ops order) ≡ on_key k ops
on_key-operations_at ops workers lanes order lawful whole k =
    ap (on_key k) (operations_at-map ops order whole.places_of_batch)
    ∙ filter-map (is_on_key k) (op_at ops) order
    ∙ ap (map (op_at ops)) (same_places_on_key ops workers lanes order lawful whole k)
    ∙ sym (filter-map (is_on_key k) (op_at ops) (places_from 0 ops))
    ∙ ap (on_key k) (map-op_at-places_from ops)

-- the places on a key with their answers, in a run by a whole order and in the batch's own run
answered_on_key : (m : List Entry) (ops : List Op) (workers : ℕ) (lanes order : List ℕ) → IsLawfulCut ops workers lanes → IsWholeOrder ops lanes order → (k : ℕ)
    → filter (λ (answered : ℕ × Answer). is_on_key k (op_at ops answered.0)) (zip (places_from 0 ops) (answers m ops)) ≡ filter (λ (answered : ℕ × Answer). is_on_key k (op_at ops answered.0)) (zip order (answers m (operations_at ops order)))
answered_on_key m ops workers lanes order lawful whole k =
    let places = places_from 0 ops in
    let on : ℕ → Bool = λ place. is_on_key k (op_at ops place) in
    let kept : List (ℕ × Answer) → List (ℕ × Answer) = λ all. filter (λ (answered : ℕ × Answer). is_on_key k (op_at ops answered.0)) all in
    ap (λ run. kept (zip places (answers m run))) (sym (map-op_at-places_from ops))
    ∙ answers_on_key (op_at ops) m places k
    ∙ ap (λ some. zip some (cell_answers (pointer_of m k) (map (op_at ops) some))) (sym (same_places_on_key ops workers lanes order lawful whole k))
    ∙ sym (answers_on_key (op_at ops) m order k)
    ∙ ap (λ run. kept (zip order (answers m run))) (sym (operations_at-map ops order whole.places_of_batch))

-- what holds of each key's part of a list holds of the list
every_from_keys : {X : Type 0} (P : X → Type 0) (key : X → ℕ) (xs : List X) → ((k : ℕ) → AllByRecursion P (filter (λ x. key x == k) xs)) → AllByRecursion P xs
every_from_keys P key [] parts = tt
every_from_keys P key (x ∷ xs) parts =
    let own = eq-eqb (key x) (key x) refl in
    let here = rw own at (parts (key x)) in
    (here.0, every_from_keys P key xs (λ k. let part = parts k in elim (cases_Bool (key x == k)) [ inl passes ↦ (rw passes at part).1 | inr fails ↦ rw fails at part ]))

-- ---- one thread's answers and map

-- the answers that stand in a list at their operations' places, in the batch's order, are the list
answers_by_place : (ops : List Op) (given found : List Answer) → length given ≡ length ops → length found ≡ length ops → All (λ (answered : ℕ × Answer). slice_get given answered.0 ≡ Some answered.1) (zip (places_from 0 ops) found) → given ≡ found
answers_by_place ops given found long_given long_found all = same_lists given found (long_given ∙ sym long_found) (λ k d within.
    let long = length-places_from 0 ops in
    let fits : k < length (zip (places_from 0 ops) found) = rw (length-zip (places_from 0 ops) found) (omega arith) in
    let pair = get_or-zip (places_from 0 ops) found k (0, d) (omega arith) (omega arith) in
    let place : get_or (places_from 0 ops) k 0 ≡ k = get_or-places_from 0 ops k 0 (omega arith) ∙ omega arith in
    let told = rw (pair, place) at (all k (0, d) fits) in
    get_or_from_slice_get given k (get_or found k d) d told)

-- answers that are those of a whole order are those of one thread
pub one_thread_answers : (m : List Entry) (ops : List Op) (workers : ℕ) (lanes order : List ℕ) (given : List Answer) → IsLawfulCut ops workers lanes → IsWholeOrder ops lanes order → length given ≡ length ops → AnswersInOrder m ops order given → given ≡ answers m ops
one_thread_answers m ops workers lanes order given lawful whole long in_order =
    let P : ℕ × Answer → Type 0 = λ answered. slice_get given answered.0 ≡ Some answered.1 in
    let run = zip order (answers m (operations_at ops order)) in
    let own_run = zip (places_from 0 ops) (answers m ops) in
    let on : ℕ → ℕ × Answer → Bool = λ k answered. is_on_key k (op_at ops answered.0) in
    let parts : (k : ℕ) → AllByRecursion P (filter (on k) own_run) = λ k. recursion_from_All P (filter (on k) own_run) (All-same P (filter (on k) own_run) (filter (on k) run) (answered_on_key m ops workers lanes order lawful whole k) (All-filter (on k) P run in_order)) in
    answers_by_place ops given (answers m ops) long (length-answers m ops) (All-from_recursion P own_run (every_from_keys P (λ answered. key_of (op_at ops answered.0)) own_run parts))

-- and the map that a whole order leaves is the one that one thread leaves
pub one_thread_map : (m : List Entry) (ops : List Op) (workers : ℕ) (lanes order : List ℕ) → IsAscending m → IsLawfulCut ops workers lanes → IsWholeOrder ops lanes order → map_after_all m (operations_at ops order) ≡ map_after_all m ops
one_thread_map m ops workers lanes order ascending lawful whole =
    same_map_from_pointers _ _ (IsAscending-map_after_all m (operations_at ops order) ascending) (IsAscending-map_after_all m ops ascending) (λ k.
    pointer_of-map_after_all m (operations_at ops order) k ∙ ap (cell_after_all (pointer_of m k)) (on_key-operations_at ops workers lanes order lawful whole k) ∙ sym (pointer_of-map_after_all m ops k))
