-- The text of a batch's replay: its operations, and a frame for each tree state.
use Rattle.std.specs.Prelude.{◌≡◌, ℕ, ◌+◌, ◌%◌, List, [], ◌∷◌, ◌++◌, codes}
use Rattle.std.specs.Fmt.{decimal}
use Rattle.blink_batch.specs.declared.Op.{Op}
use Rattle.blink_batch.specs.{key_of}
use Rattle.blink_replay.specs.{by_residue}
use Rattle.blink_store.specs.{PlainStore}
use Rattle.blink_steps.specs.{PlainWorld, HasEnded, IsStart}
use Rattle.blink_show.specs.Frames.{first_frame}
use Rattle.blink_show.specs.Turns.{ShowsFinish}
use Rattle.blink_show.specs.Words.{words_of_op}

-- an operation: its place, its worker, and the operation itself
abbrev pub op_line : ℕ → ℕ → Op → List ℕ
op_line place worker op = codes "op " ++ (decimal place ++ (codes " " ++ (decimal worker ++ (codes " " ++ (words_of_op op ++ codes "\n")))))

-- operations from a place on; the worker of each is the remainder of its key
abbrev pub ops_from : ℕ → ℕ → List Op → List ℕ
ops_from workers place [] = []
ops_from workers place (op ∷ ops) = op_line place (key_of op % workers) op ++ ops_from workers (place + 1) ops

-- the text of a batch's replay over a tree: its operations, the first tree state, the turns asked for, and then each picked
-- turn, until all operations have ended
pub record ShowsBatch (workers : ℕ) (asked : PlainWorld → PlainWorld → List ℕ → Type 0) (before : PlainStore) (ops : List Op) (text : List ℕ) : Type 0 where
  pub start : PlainWorld
  pub is_start : IsStart before ops (by_residue workers ops) start
  pub replayed : PlainWorld
  pub turns : List ℕ
  pub shows_turns : asked start replayed turns
  pub finished : PlainWorld
  pub finish : List ℕ
  pub shows_finish : ShowsFinish replayed finished finish
  pub ended : HasEnded finished.run
  pub its_text : text ≡ ops_from workers 0 ops ++ (first_frame start.run ++ (turns ++ finish))

-- such a text stands after the text before it
abbrev pub AddsBatch : ℕ → (PlainWorld → PlainWorld → List ℕ → Type 0) → PlainStore → List Op → List ℕ → List ℕ → Type 0
AddsBatch workers asked before ops old new = (text : List ℕ) × ShowsBatch workers asked before ops text × (new ≡ old ++ text)
