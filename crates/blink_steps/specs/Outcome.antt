-- The outcome of a run: what is decided, and how far each operation has come.
use Rattle.std.specs.Prelude.{ℕ, ◌+◌, Bool, true, false, if◌then◌else◌, Option, Some, None, List, [], ◌∷◌, ◌++◌, replicate, slice_set, slice_index_or}
use Rattle.blink_batch.specs.declared.Answer.{Answer}
use Rattle.blink_machine.specs.declared.step.Kind.{Kind}
use Rattle.blink_machine.specs.{is_page_read}

pub record PlainOutcome : Type 0 where
  -- at each operation's place its answer, once it is decided
  pub answers : List (Option Answer)
  -- the places of the operations in the order of their deciding steps
  pub order : List ℕ
  -- for each operation the number of pages it has read, and the number of steps it has taken
  pub reads : List ℕ
  pub moves : List ℕ

-- the outcome of this many operations before any step
abbrev pub empty_outcome : ℕ → PlainOutcome
empty_outcome places = record { answers = replicate places None; order = []; reads = replicate places 0; moves = replicate places 0 }

-- this step gave the operation its answer
abbrev pub decides_now : Option Answer → Option Answer → Bool
decides_now None None = false
decides_now None (Some answer) = true
decides_now (Some before) after = false

-- the counts with one more at a place
abbrev pub one_more_at : List ℕ → ℕ → List ℕ
one_more_at counts place = slice_set counts place (slice_index_or counts place 0 + 1)

-- the outcome after a step of this kind of the operation at a place, with the operation's answer before and after the step
abbrev pub recorded : PlainOutcome → ℕ → Kind → Option Answer → Option Answer → PlainOutcome
recorded outcome place kind before after = record {
  answers = slice_set outcome.answers place after;
  order = if decides_now before after then outcome.order ++ place ∷ [] else outcome.order;
  reads = if is_page_read kind then one_more_at outcome.reads place else outcome.reads;
  moves = one_more_at outcome.moves place;
}
