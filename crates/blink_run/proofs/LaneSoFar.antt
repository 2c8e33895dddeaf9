-- A worker's lane so far: its operations among the first of a batch.
use Rattle.std.proofs.Common.{◌≡◌, ℕ, ◌+◌, ◌<◌, ◌≤◌, List, [], ◌∷◌, ◌++◌, length, get_or, take, drop, Some, refl, ap, ◌∙◌}
use Rattle.std.proofs.lemmas.List.Elements.{filter_map-append}
use Rattle.std.specs.List.{slice_get}
use Rattle.blink_batch.specs.declared.Op.{Op}
use Rattle.blink_batch.specs.{operations_at, part_of, places_from}
use Rattle.blink_batch.proofs.Offered.{lane_at_place, operations_at-push, part_of_first-own, part_of_first-other, part_of_first-end}
use Rattle.blink_run.specs.Lanes.{lane_ops}

-- the operations of the lane that stand before a place
abbrev pub lane_so_far : List Op → List ℕ → ℕ → ℕ → List Op
lane_so_far ops lanes worker place = operations_at ops (part_of lanes worker (take place (places_from 0 lanes)))

-- an operation of the lane is one more
pub lane_so_far-own : (ops : List Op) (lanes : List ℕ) (worker place : ℕ) (op : Op) → slice_get ops place ≡ Some op → slice_get lanes place ≡ Some worker
    → lane_so_far ops lanes worker (place + 1) ≡ lane_so_far ops lanes worker place ++ op ∷ []
lane_so_far-own ops lanes worker place op there own =
    ap (operations_at ops) (part_of_first-own lanes worker place own) ∙ operations_at-push ops (part_of lanes worker (take place (places_from 0 lanes))) place op there

-- another's isn't
pub lane_so_far-other : (ops : List Op) (lanes : List ℕ) (worker place : ℕ) → place < length lanes → (get_or lanes place 0 ≡ worker → ⊥) → lane_so_far ops lanes worker (place + 1) ≡ lane_so_far ops lanes worker place
lane_so_far-other ops lanes worker place within other = ap (operations_at ops) (part_of_first-other lanes worker place within other)

-- at the batch's end it is the whole lane
pub lane_so_far-all : (ops : List Op) (lanes : List ℕ) (worker place : ℕ) → length lanes ≤ place → lane_so_far ops lanes worker place ≡ lane_ops ops lanes worker
lane_so_far-all ops lanes worker place past = ap (operations_at ops) (part_of_first-end lanes worker place past)

-- the lane is its operations so far, one of its own, and the rest
pub lane_parts : (ops : List Op) (lanes : List ℕ) (worker place : ℕ) (op : Op) → slice_get ops place ≡ Some op → slice_get lanes place ≡ Some worker
    → lane_ops ops lanes worker ≡ lane_so_far ops lanes worker place ++ op ∷ operations_at ops (part_of lanes worker (drop (place + 1) (places_from 0 lanes)))
lane_parts ops lanes worker place op there own =
    let before = part_of lanes worker (take place (places_from 0 lanes)) in
    let after = part_of lanes worker (drop (place + 1) (places_from 0 lanes)) in
    ap (operations_at ops) (lane_at_place lanes worker place own)
    ∙ (filter_map-append (slice_get ops) before (place ∷ after)
    ∙ ap (λ (rest : List Op). operations_at ops before ++ rest) (rw there refl))
