-- What the structs of numbers mean that the caller passes and gets.
use Rattle.std.specs.Prelude.{◌≡◌, ℕ, Option, Some, None, List, map, if◌then◌else◌, ◌==◌}
use Rattle.blink_batch.specs.declared.Answer.{Answer}
use Rattle.blink_batch.specs.declared.Answer.TheVariants.{Found, Absent, Inserted, Exists, Removed, Replaced}
use Rattle.blink_batch.specs.declared.Entry.{Entry}
use Rattle.blink_batch.specs.declared.Op.{Op}
use Rattle.blink_batch.specs.declared.Op.TheVariants.{Find, Insert, Delete, Replace}
use Rattle.blink_live.specs.declared.scan.Scanned.{Scanned}
use Rattle.blink_generation.specs.declared.stock.Stock.{Stock}
use Rattle.blink_handles.specs.declared.raw.RawAnswer.{RawAnswer}
use Rattle.blink_handles.specs.declared.raw.RawEntry.{RawEntry}
use Rattle.blink_handles.specs.declared.raw.RawOperation.{RawOperation}
use Rattle.blink_handles.specs.declared.raw.RawScanned.{RawScanned}
use Rattle.blink_handles.specs.declared.raw.RawStock.{RawStock}
use Rattle.blink_handles.specs.declared.raw.TheConstants.{FIND, INSERT, DELETE, REPLACE, ABSENT, FOUND, INSERTED, EXISTS, REMOVED, REPLACED}

-- the operation that three numbers mean, if the kind is one of the four
abbrev pub op_of : RawOperation → Option Op
op_of raw =
    if raw.kind == FIND then Some (Find raw.key) else
    (if raw.kind == INSERT then Some (Insert raw.key raw.pointer) else
    (if raw.kind == DELETE then Some (Delete raw.key) else
    (if raw.kind == REPLACE then Some (Replace raw.key raw.pointer) else None)))

-- they mean these operations
abbrev pub AreOperations : List RawOperation → List Op → Type 0
AreOperations raws ops = map op_of raws ≡ map Some ops

-- an entry in two numbers
abbrev pub raw_entry : Entry → RawEntry
raw_entry e = record { key = e.key; pointer = e.pointer }

-- two numbers as an insertion
abbrev pub insertion_of : RawEntry → Op
insertion_of raw = Insert raw.key raw.pointer

-- an answer in two numbers
abbrev pub raw_answer : Answer → RawAnswer
raw_answer Absent = record { kind = ABSENT; pointer = 0 }
raw_answer (Found pointer) = record { kind = FOUND; pointer = pointer }
raw_answer Inserted = record { kind = INSERTED; pointer = 0 }
raw_answer (Exists pointer) = record { kind = EXISTS; pointer = pointer }
raw_answer (Removed pointer) = record { kind = REMOVED; pointer = pointer }
raw_answer (Replaced pointer) = record { kind = REPLACED; pointer = pointer }

-- an answer that may be missing
abbrev pub raw_given : Option Answer → RawAnswer
raw_given None = record { kind = ABSENT; pointer = 0 }
raw_given (Some answer) = raw_answer answer

-- what a look-up has shown
abbrev pub raw_shown : Option ℕ → RawAnswer
raw_shown None = record { kind = ABSENT; pointer = 0 }
raw_shown (Some pointer) = record { kind = FOUND; pointer = pointer }

-- how far a scan came
abbrev pub raw_next : ℕ → Option ℕ → RawScanned
raw_next filled None = record { filled = filled; more = 0; next = 0 }
raw_next filled (Some next) = record { filled = filled; more = 1; next = next }

abbrev pub raw_scanned : Scanned → RawScanned
raw_scanned scanned = raw_next scanned.filled scanned.next

-- what a session has of page numbers and rows
abbrev pub raw_stock : Stock → RawStock
raw_stock stock = record {
  pages = stock.pages;
  unwritten = stock.unwritten;
  free = stock.free;
  taken_out = stock.taken_out;
  waiting = stock.waiting;
}
