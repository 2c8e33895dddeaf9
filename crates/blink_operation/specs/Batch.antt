-- The numbers that the operations of a batch have.
use Rattle.std.specs.Prelude.{◌<◌, ◌^◌, Bool, true, false}
use Rattle.blink_operation.specs.declared.operation.Op.{Op}
use Rattle.blink_operation.specs.declared.operation.Op.TheVariants.{Find, Insert, Delete, Exchange, DeleteExact}
use Rattle.blink_operation.specs.Operation.{key_of, pointer_with}

-- the key and the pointers of an operation, if it has any, are numbers of 64 bits
abbrev pub FitsWords : Op → Type 0
FitsWords (Find key) = key < 2 ^ 64
FitsWords (Delete key) = key < 2 ^ 64
FitsWords (Exchange key expected pointer) = (key < 2 ^ 64) × (pointer < 2 ^ 64) × (expected < 2 ^ 64)
FitsWords (DeleteExact key expected) = (key < 2 ^ 64) × (expected < 2 ^ 64)
FitsWords op = (key_of op < 2 ^ 64) × (pointer_with op < 2 ^ 64)

abbrev pub is_insert : Op → Bool
is_insert (Insert key pointer) = true
is_insert op = false
