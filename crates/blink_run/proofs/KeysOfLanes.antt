-- A lane's operations stand in the batch at places of its worker, so no two lanes of a lawful cut share a key.
use Rattle.std.proofs.Common.{◌≡◌, ℕ, zero, suc, ◌<◌, List, [], ◌∷◌, length, get_or, Option, Some, None, refl, sym, ap, ◌∙◌, arith}
use Rattle.std.specs.List.{Contains, cons_option, filter_map, slice_get}
use Rattle.std.proofs.lemmas.List.{get_or_default}
use Rattle.std.proofs.lemmas.Option.{get_or_from_slice_get, slice_get_within}
use Rattle.blink_batch.specs.declared.Op.{Op}
use Rattle.blink_batch.specs.declared.Op.TheVariants.{Find}
use Rattle.blink_batch.specs.{IsLawfulCut, key_of, lane_of}
use Rattle.blink_batch.proofs.Offered.{lane_place, same_worker_from_key}
use Rattle.blink_run.specs.Lanes.{IsKeyOfOne, lane_ops}

-- what a list is mapped to comes from an element of it
from_filter_map : {X Y : Type 0} (f : X → Option Y) (xs : List X) (y : Y) → Contains (filter_map f xs) y → (x : X) × Contains xs x × (f x ≡ Some y)
from_filter_map f [] y there = absurd (let inside = there.1 in omega (arith, inside))
from_filter_map f (x ∷ xs) y there = go f x xs y (from_filter_map f xs y) (f x) refl there
  where
    go : {X Y : Type 0} (f : X → Option Y) (x : X) (xs : List X) (y : Y) → (Contains (filter_map f xs) y → (z : X) × Contains xs z × (f z ≡ Some y)) → (o : Option Y) → f x ≡ o → Contains (cons_option o (filter_map f xs)) y → (z : X) × Contains (x ∷ xs) z × (f z ≡ Some y)
    go f x xs y rest None is there = let found = rest there in (found.0, (suc found.1.0, (let inside = found.1.1 in omega (arith, inside)), found.1.2), found.2)
    go f x xs y rest (Some first) is (zero, inside, at) = (x, (0, omega arith, refl), is ∙ ap Some at)
    go f x xs y rest (Some first) is (suc k, inside, at) =
        let found = rest (k, omega (arith, inside), at) in (found.0, (suc found.1.0, (let within = found.1.1 in omega (arith, within)), found.1.2), found.2)

-- an operation of a lane stands at a place of the lane's worker
pub place_of_lane : (ops : List Op) (lanes : List ℕ) (worker : ℕ) (op : Op) → Contains (lane_ops ops lanes worker) op → (place : ℕ) × (slice_get ops place ≡ Some op) × (slice_get lanes place ≡ Some worker)
place_of_lane ops lanes worker op there =
    let found = from_filter_map (slice_get ops) (lane_of lanes worker) op there in
    let inside : found.1.0 < length (lane_of lanes worker) = found.1.1 in
    let same : found.0 ≡ get_or (lane_of lanes worker) found.1.0 0 = sym found.1.2 ∙ get_or_default (lane_of lanes worker) found.1.0 found.0 0 inside in
    (found.0, found.2, ap (slice_get lanes) same ∙ lane_place lanes worker found.1.0 inside)

-- a key of a lane is one of the batch
pub key_of_batch : (ops : List Op) (lanes : List ℕ) (worker key : ℕ) → IsKeyOfOne (lane_ops ops lanes worker) key → IsKeyOfOne ops key
key_of_batch ops lanes worker key one =
    let found = place_of_lane ops lanes worker one.0 one.1 in
    (one.0, (found.0, slice_get_within ops found.0 one.0 found.1, get_or_from_slice_get ops found.0 one.0 one.0 found.1), one.2)

-- a key of two lanes makes them one
pub one_lane_a_key : (ops : List Op) (workers : ℕ) (lanes : List ℕ) → IsLawfulCut ops workers lanes → (key one other : ℕ) → IsKeyOfOne (lane_ops ops lanes one) key → IsKeyOfOne (lane_ops ops lanes other) key → one ≡ other
one_lane_a_key ops workers lanes lawful key one other a b =
    let first = place_of_lane ops lanes one a.0 a.1 in
    let second = place_of_lane ops lanes other b.0 b.1 in
    let key_first : key_of (get_or ops first.0 (Find 0)) ≡ key = ap key_of (get_or_from_slice_get ops first.0 a.0 (Find 0) first.1) ∙ a.2 in
    let key_second : key_of (get_or ops second.0 (Find 0)) ≡ key = ap key_of (get_or_from_slice_get ops second.0 b.0 (Find 0) second.1) ∙ b.2 in
    let same = same_worker_from_key ops workers lanes lawful first.0 second.0 (slice_get_within ops first.0 a.0 first.1) (slice_get_within ops second.0 b.0 second.1) (key_first ∙ sym key_second) in
    sym (get_or_from_slice_get lanes first.0 one 0 first.2) ∙ same ∙ get_or_from_slice_get lanes second.0 other 0 second.2
