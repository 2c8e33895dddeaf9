-- A batch's operations in an order other than the batch's, as concurrent workers decide them.
use Rattle.std.specs.Prelude.{ℕ, ◌≡◌, ◌<◌, ◌+◌, ◌==◌, List, [], ◌∷◌, length, filter, Bool, false, Option, Some, None, slice_get, drop, All}
use Rattle.std.specs.List.{filter_map, zip}
use Rattle.blink_operation.specs.declared.entry.Entry.{Entry}
use Rattle.blink_operation.specs.declared.operation.Op.{Op}
use Rattle.blink_operation.specs.declared.operation.Answer.{Answer}
use Rattle.blink_operation.specs.Operation.{answers}

-- the operations at these places of a batch
abbrev pub operations_at : List Op → List ℕ → List Op
operations_at ops order = filter_map (slice_get ops) order

abbrev pub is_worker : ℕ → Option ℕ → Bool
is_worker worker None = false
is_worker worker (Some lane) = lane == worker

-- those of some places whose operations are a worker's
abbrev pub part_of : List ℕ → ℕ → List ℕ → List ℕ
part_of lanes worker order = filter (λ place. is_worker worker (slice_get lanes place)) order

-- the places from `place` on, as many as the list is long
abbrev pub places_from : {X : Type 0} → ℕ → List X → List ℕ
places_from place [] = []
places_from place (x ∷ xs) = place ∷ places_from (place + 1) xs

-- a worker's lane: the places of its operations in the batch's order
abbrev pub lane_of : List ℕ → ℕ → List ℕ
lane_of lanes worker = part_of lanes worker (places_from 0 lanes)

-- the first place of a worker's lane at or after `place`
abbrev pub next_place : List ℕ → ℕ → ℕ → Option ℕ
next_place lanes worker place = slice_get (part_of lanes worker (places_from place (drop place lanes))) 0

-- the answers are those of a run in the given order, each at its operation's place
abbrev pub AnswersInOrder : List Entry → List Op → List ℕ → List Answer → Type 0
AnswersInOrder map ops order given = All (λ decided. slice_get given decided.0 ≡ Some decided.1) (zip order (answers map (operations_at ops order)))

-- every operation stands in the order once, and each worker's operations in the batch's order
pub record IsWholeOrder (ops : List Op) (lanes : List ℕ) (order : List ℕ) : Type 0 where
  pub places_of_batch : All (λ place. place < length ops) order
  pub each_lane_in_order : (worker : ℕ) → part_of lanes worker order ≡ lane_of lanes worker
