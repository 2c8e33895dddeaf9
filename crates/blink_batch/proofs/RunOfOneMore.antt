-- A run of the first operations of a list, one more at a time.
use Rattle.std.proofs.Common.{◌≡◌, ◌<◌, ◌+◌, ◌++◌, ◌∷◌, [], ℕ, List, length, take, get_or, add-one, refl}
use Rattle.std.proofs.Math.Seq.{take-suc}
use Rattle.blink_operation.specs.declared.entry.Entry.{Entry}
use Rattle.blink_operation.specs.declared.operation.Op.{Op}
use Rattle.blink_batch.proofs.OperationsAtPlaces.{answers-append, map_after_all-append}
use Rattle.blink_operation.specs.Operation.{answer_of, answers, map_after, map_after_all}

-- one operation more
pub answers-take_more : (m : List Entry) (ops : List Op) (i : ℕ) (d : Op) → i < length ops → answers m (take (i + 1) ops) ≡ answers m (take i ops) ++ answer_of (map_after_all m (take i ops)) (get_or ops i d) ∷ []
answers-take_more m ops i d in_range = rw (add-one, take-suc ops i d in_range, answers-append) refl

pub map_after_all-take_more : (m : List Entry) (ops : List Op) (i : ℕ) (d : Op) → i < length ops → map_after_all m (take (i + 1) ops) ≡ map_after (map_after_all m (take i ops)) (get_or ops i d)
map_after_all-take_more m ops i d in_range = rw (add-one, take-suc ops i d in_range, map_after_all-append) refl
