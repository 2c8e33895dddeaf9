-- The operations at places of a batch, the part of them that is one worker's or on one key, and one more place at the end.
use Rattle.std.proofs.Common.{◌≡◌, ℕ, zero, suc, ◌+◌, ◌<◌, ◌≤◌, List, [], ◌∷◌, ◌++◌, length, map, get_or, filter, Bool, true, Some, refl, ap, ◌∙◌, subst, inl, inr, arith}
use Rattle.std.proofs.lemmas.Bool.{cases_Bool, eq-eqb, ne_eqb}
use Rattle.std.proofs.lemmas.List.{append-nil, length-map, get_or-map, get_or_default, same_lists}
use Rattle.std.proofs.lemmas.List.Elements.{filter_map-append, filter-append, recursion_from_All}
use Rattle.std.proofs.lemmas.Option.{slice_get-get_or}
use Rattle.std.specs.List.{All, AllByRecursion, slice_get, zip}
use Rattle.blink_operation.specs.declared.entry.Entry.{Entry}
use Rattle.blink_operation.specs.declared.operation.Op.{Op}
use Rattle.blink_operation.specs.declared.operation.Op.TheVariants.{Find}
use Rattle.blink_operation.specs.Operation.{answer_of, map_after, answers, map_after_all}
use Rattle.blink_batch.specs.Order.{operations_at, is_worker, part_of, places_from}

-- ---- lists

-- keeping by two tests, of which one passes where the other does, is keeping by the other
pub filter-filter : {X : Type 0} (p q : X → Bool) (xs : List X) → AllByRecursion (λ x. p x ≡ true → q x ≡ true) xs → filter p (filter q xs) ≡ filter p xs
filter-filter p q [] stricter = refl
filter-filter p q (x ∷ xs) stricter = let rest = filter-filter p q xs stricter.1 in elim (cases_Bool (q x)) [
  | inl yes_q ↦ elim (cases_Bool (p x)) [ inl yes_p ↦ rw (yes_q, yes_p) (ap (λ r. x ∷ r) rest) | inr no_p ↦ rw (yes_q, no_p) rest ]
  | inr no_q ↦ elim (cases_Bool (p x)) [ inl yes_p ↦ let yes_q = stricter.0 yes_p in absurd (cc) | inr no_p ↦ rw (no_q, no_p) rest ]
]

-- to keep among images is to keep those whose image passes
pub filter-map : {X Y : Type 0} (p : Y → Bool) (f : X → Y) (xs : List X) → filter p (map f xs) ≡ map f (filter (λ x. p (f x)) xs)
filter-map p f [] = refl
filter-map p f (x ∷ xs) = elim (cases_Bool (p (f x))) [ inl passes ↦ rw passes (ap (λ r. f x ∷ r) (filter-map p f xs)) | inr fails ↦ rw fails (filter-map p f xs) ]

-- one more pair at the end
pub zip-push : {X Y : Type 0} (xs : List X) (ys : List Y) (x : X) (y : Y) → length xs ≡ length ys → zip (xs ++ x ∷ []) (ys ++ y ∷ []) ≡ zip xs ys ++ (x, y) ∷ []
zip-push [] [] x y long = refl
zip-push [] (b ∷ ys) x y long = absurd (omega arith)
zip-push (a ∷ xs) [] x y long = absurd (omega arith)
zip-push (a ∷ xs) (b ∷ ys) x y long = ap (λ r. (a, b) ∷ r) (zip-push xs ys x y (omega arith))

-- ---- places

-- the places of a list from one on are below where it ends
pub places_within : {X : Type 0} (from : ℕ) (xs : List X) (end : ℕ) → from + length xs ≤ end → AllByRecursion (λ place. place < end) (places_from from xs)
places_within from [] end fits = tt
places_within from (x ∷ xs) end fits = (omega arith, places_within (from + 1) xs end (omega arith))

-- lists of one length have the same places
pub same_places : {X Y : Type 0} (from : ℕ) (xs : List X) (ys : List Y) → length xs ≡ length ys → places_from from xs ≡ places_from from ys
same_places from [] [] long = refl
same_places from [] (y ∷ ys) long = absurd (omega arith)
same_places from (x ∷ xs) [] long = absurd (omega arith)
same_places from (x ∷ xs) (y ∷ ys) long = ap (λ r. from ∷ r) (same_places (from + 1) xs ys (omega arith))

-- as many places as elements
pub length-places_from : {X : Type 0} (from : ℕ) (xs : List X) → length (places_from from xs) ≡ length xs
length-places_from from [] = refl
length-places_from from (x ∷ xs) = ap suc (length-places_from (from + 1) xs)

-- they count on from the first
pub get_or-places_from : {X : Type 0} (from : ℕ) (xs : List X) (i d : ℕ) → i < length xs → get_or (places_from from xs) i d ≡ from + i
get_or-places_from from [] i d within = absurd (omega arith)
get_or-places_from from (x ∷ xs) zero d within = omega arith
get_or-places_from from (x ∷ xs) (suc i) d within = let rest = get_or-places_from (from + 1) xs i d (omega arith) in omega arith

-- ---- the operations at places

-- the operation at a place of the batch
abbrev pub op_at : List Op → ℕ → Op
op_at ops place = get_or ops place (Find 0)

map_from_places : (ops : List Op) (order : List ℕ) → AllByRecursion (λ place. place < length ops) order → operations_at ops order ≡ map (op_at ops) order
map_from_places ops [] within = refl
map_from_places ops (i ∷ order) within = rw (slice_get-get_or ops i (Find 0) within.0) (ap (λ r. op_at ops i ∷ r) (map_from_places ops order within.1))

-- places of the batch have an operation each
pub operations_at-map : (ops : List Op) (order : List ℕ) → All (λ place. place < length ops) order → operations_at ops order ≡ map (op_at ops) order
operations_at-map ops order within = map_from_places ops order (recursion_from_All (λ place. place < length ops) order within)

-- so there are as many operations as places
pub length-operations_at : (ops : List Op) (order : List ℕ) → All (λ place. place < length ops) order → length (operations_at ops order) ≡ length order
length-operations_at ops order within = ap length (operations_at-map ops order within) ∙ length-map order (op_at ops)

-- at all of its places in their order are the batch's operations
pub map-op_at-places_from : (ops : List Op) → map (op_at ops) (places_from 0 ops) ≡ ops
map-op_at-places_from ops =
    let long = length-places_from 0 ops in
    same_lists _ _ (length-map (places_from 0 ops) (op_at ops) ∙ long) (λ k d within.
    let here : k < length (places_from 0 ops) = subst (λ (n : ℕ). k < n) (length-map (places_from 0 ops) (op_at ops)) within in
    let inside : k < length ops = omega arith in
    let place : get_or (places_from 0 ops) k 0 ≡ k = get_or-places_from 0 ops k 0 inside ∙ omega arith in
    get_or-map (op_at ops) (places_from 0 ops) k 0 d here ∙ ap (op_at ops) place ∙ get_or_default ops k (Find 0) d inside)

-- the same in the words of an order
pub operations_at-places_from : (ops : List Op) → operations_at ops (places_from 0 ops) ≡ ops
operations_at-places_from ops = map_from_places ops (places_from 0 ops) (places_within 0 ops (length ops) (omega arith)) ∙ map-op_at-places_from ops

-- ---- one more at the end

-- one more place, at the end of an order
pub operations_at-push : (ops : List Op) (order : List ℕ) (i : ℕ) (op : Op) → slice_get ops i ≡ Some op → operations_at ops (order ++ i ∷ []) ≡ operations_at ops order ++ op ∷ []
operations_at-push ops order i op there = rw (filter_map-append (slice_get ops) order (i ∷ []), there)

-- it is one more of its own worker's
pub part_of-push_own : (lanes : List ℕ) (worker : ℕ) (order : List ℕ) (i : ℕ) → slice_get lanes i ≡ Some worker → part_of lanes worker (order ++ i ∷ []) ≡ part_of lanes worker order ++ i ∷ []
part_of-push_own lanes worker order i there = rw (filter-append (λ place. is_worker worker (slice_get lanes place)) order (i ∷ []), there, eq-eqb worker worker refl)

-- and no other's
pub part_of-push_other : (lanes : List ℕ) (worker : ℕ) (order : List ℕ) (i lane : ℕ) → slice_get lanes i ≡ Some lane → (lane ≡ worker → ⊥) → part_of lanes worker (order ++ i ∷ []) ≡ part_of lanes worker order
part_of-push_other lanes worker order i lane there other = rw (filter-append (λ place. is_worker worker (slice_get lanes place)) order (i ∷ []), there, ne_eqb lane worker other) (append-nil (part_of lanes worker order))

-- a run of operations and then of others leaves what the others leave on the map that the first left
pub map_after_all-append : (m : List Entry) (xs ys : List Op) → map_after_all m (xs ++ ys) ≡ map_after_all (map_after_all m xs) ys
map_after_all-append m [] ys = refl
map_after_all-append m (x ∷ xs) ys = map_after_all-append (map_after m x) xs ys

-- its answers are those of the first, and then those of the others on the map that the first left
pub answers-append : (m : List Entry) (xs ys : List Op) → answers m (xs ++ ys) ≡ answers m xs ++ answers (map_after_all m xs) ys
answers-append m [] ys = refl
answers-append m (x ∷ xs) ys = ap (λ r. answer_of m x ∷ r) (answers-append (map_after m x) xs ys)

-- a run of operations and then of one more leaves what the one more makes of the map that the others left
pub map_after_all-push : (m : List Entry) (xs : List Op) (op : Op) → map_after_all m (xs ++ op ∷ []) ≡ map_after (map_after_all m xs) op
map_after_all-push m xs op = map_after_all-append m xs (op ∷ [])

-- its last answer is that of the one more, on the map that the others left
pub answers-push : (m : List Entry) (xs : List Op) (op : Op) → answers m (xs ++ op ∷ []) ≡ answers m xs ++ answer_of (map_after_all m xs) op ∷ []
answers-push m xs op = answers-append m xs (op ∷ [])

-- each operation has an answer
pub length-answers : (m : List Entry) (ops : List Op) → length (answers m ops) ≡ length ops
length-answers m [] = refl
length-answers m (op ∷ ops) = ap suc (length-answers (map_after m op) ops)
