-- A map cut by keys: what operations on one key answer and leave follows from the one cell with that key's pointer.
use Rattle.std.specs.Prelude.{ℕ, ◌==◌, List, [], ◌∷◌, Bool, Option, filter}
use Rattle.blink_operation.specs.declared.operation.Op.{Op}
use Rattle.blink_operation.specs.declared.operation.Answer.{Answer}
use Rattle.blink_operation.specs.Operation.{key_of, answer_at, cell_after}

-- the answers of operations one after another on one cell
abbrev pub cell_answers : Option ℕ → List Op → List Answer
cell_answers kept [] = []
cell_answers kept (op ∷ ops) = answer_at op kept ∷ cell_answers (cell_after op kept) ops

-- the cell after these operations
abbrev pub cell_after_all : Option ℕ → List Op → Option ℕ
cell_after_all kept [] = kept
cell_after_all kept (op ∷ ops) = cell_after_all (cell_after op kept) ops

abbrev pub is_on_key : ℕ → Op → Bool
is_on_key key op = key_of op == key

-- the operations on one key, in their order
abbrev pub on_key : ℕ → List Op → List Op
on_key key ops = filter (is_on_key key) ops
