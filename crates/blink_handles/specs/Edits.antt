-- One operation on an index in place, and the entry that a call may give.
use Rattle.std.specs.Prelude.{◌≡◌, ◌≢◌, ◌≤◌, ℕ, Option, Some, None, List, drop, length, map, slice_get, take}
use Rattle.blink_batch.specs.declared.Entry.{Entry}
use Rattle.blink_batch.specs.declared.Op.{Op}
use Rattle.blink_batch.specs.{answer_of, answers, map_after, map_after_all}
use Rattle.blink_index.specs.{IsEditRefusal, map_of}
use Rattle.blink_index.specs.declared.EditError.{EditError}
use Rattle.blink_store.specs.{PlainStore}
use Rattle.blink_handles.specs.declared.raw.RawAnswer.{RawAnswer}
use Rattle.blink_handles.specs.declared.raw.RawEntry.{RawEntry}
use Rattle.blink_handles.specs.declared.raw.RawOperation.{RawOperation}
use Rattle.blink_handles.specs.declared.refusal.Refusal.{Refusal}
use Rattle.blink_handles.specs.declared.refusal.Refusal.TheVariants.{OutOfMemory, TooLarge, UnknownOperation, WrongLength}
use Rattle.blink_handles.specs.Codes.{code_of}
use Rattle.blink_handles.specs.Raw.{AreOperations, op_of, raw_answer, raw_entry}

-- the operation is carried out: its answer and the index's map are those of a plain map
pub record HasEdited (before : PlainStore) (op : Op) (given : RawAnswer) (after : PlainStore) : Type 0 where
  pub same_answer : given ≡ raw_answer (answer_of (map_of before) op)
  pub same_map : map_of after ≡ map_after (map_of before) op
  pub same_fan : after.fan ≡ before.fan

-- a result that is neither 0 nor the code of an index that is too large is that of lack of memory
abbrev pub TellsEditFault : ℕ → Type 0
TellsEditFault given = given ≢ 0 → given ≢ code_of TooLarge → given ≡ code_of OutOfMemory

-- so many of the caller's operations, the first, are carried out: each answer stands at its operation's place, the other places are as
-- they were, and the index has the map that these operations leave
pub record HasApplied (before : PlainStore) (raws : List RawOperation) (carried_out : ℕ) (places given : List RawAnswer) (after : PlainStore) : Type 0 where
  pub ops : List Op
  pub are_first : AreOperations (take carried_out raws) ops
  pub within : carried_out ≤ length raws
  pub same_answers : take carried_out given ≡ map raw_answer (answers (map_of before) ops)
  pub others_stay : drop carried_out given ≡ drop carried_out places
  pub same_map : map_of after ≡ map_after_all (map_of before) ops
  pub same_fan : after.fan ≡ before.fan

-- the operation next to those carried out, if its kind is known
pub record IsNext (raws : List RawOperation) (carried_out : ℕ) (op : Op) : Type 0 where
  pub raw : RawOperation
  pub there : slice_get raws carried_out ≡ Some raw
  pub is_op : op_of raw ≡ Some op

-- the refusals of the caller's operations: first the number of places is looked at, before the first operation; then the next operation
-- is of no kind, or is refused by itself
abbrev pub IsApplyRefusal : PlainStore → List RawOperation → ℕ → ℕ → Refusal → Type 0
IsApplyRefusal after raws places carried_out WrongLength = (places ≢ length raws) × (carried_out ≡ 0)
IsApplyRefusal after raws places carried_out UnknownOperation =
    (places ≡ length raws) × (raw : RawOperation) × (slice_get raws carried_out ≡ Some raw) × (op_of raw ≡ None)
IsApplyRefusal after raws places carried_out TooLarge =
    (places ≡ length raws) × (op : Op) × IsNext raws carried_out op × IsEditRefusal after op EditError.TooLarge
IsApplyRefusal after raws places carried_out OutOfMemory =
    (places ≡ length raws) × (op : Op) × IsNext raws carried_out op × IsEditRefusal after op EditError.OutOfMemory
IsApplyRefusal after raws places carried_out refusal = ⊥

-- the entry, or the one that was there before
abbrev pub entry_or : Option Entry → RawEntry → RawEntry
entry_or None before = before
entry_or (Some e) before = raw_entry e
