-- What the look-ups give.
use Rattle.std.specs.Prelude.{ℕ, Option, Some, None, List}
use Rattle.blink_batch.specs.declared.Entry.{Entry}
use Rattle.blink_batch.specs.declared.Op.TheVariants.{Find}
use Rattle.blink_batch.specs.{answer_of}
use Rattle.blink_handles.specs.declared.raw.RawAnswer.{RawAnswer}
use Rattle.blink_handles.specs.Raw.{raw_answer}

-- the pointer, or the number that was there before
abbrev pub pointer_or : Option ℕ → ℕ → ℕ
pointer_or None before = before
pointer_or (Some pointer) before = pointer

-- the answer of a find in two numbers
abbrev pub found_answer : List Entry → ℕ → RawAnswer
found_answer map key = raw_answer (answer_of map (Find key))
