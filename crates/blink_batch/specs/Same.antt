-- Equality of two batches, or of two assignments: a test that is true exactly of equals.
use Rattle.std.specs.Prelude.{ℕ, ◌≡◌, List, Bool, true, false, ◌==◌, ◌&&◌}
use Rattle.std.specs.Bool.{Decides}
use Rattle.std.specs.Cmp.{IsEquivalence, decided, first_so, second_so, unsigned_Decides}
use Rattle.std.specs.Cmp.Lexicographic.{pointwise, pointwise_decides}
use Rattle.blink_operation.specs.declared.operation.Op.{Op}
use Rattle.blink_operation.specs.declared.operation.Op.TheVariants.{Find, Insert, Delete, Replace, Exchange, DeleteExact}
use Rattle.blink_batch.specs.Cut.{Assignment}
use mathlib.Core.Path.{refl, sym, ◌∙◌, ap}
use mathlib.Core.Bool.{true≢false}

abbrev pub same_operation : Op → Op → Bool
same_operation (Find key) (Find other) = key == other
same_operation (Insert key pointer) (Insert other another) = (key == other) && (pointer == another)
same_operation (Delete key) (Delete other) = key == other
same_operation (Replace key pointer) (Replace other another) = (key == other) && (pointer == another)
same_operation (Exchange key expected pointer) (Exchange other wanted another) = (key == other) && ((expected == wanted) && (pointer == another))
same_operation (DeleteExact key expected) (DeleteExact other wanted) = (key == other) && (expected == wanted)
same_operation one other = false

-- the same operations in the same order
abbrev pub same_operations : List Op → List Op → Bool
same_operations one other = pointwise same_operation one other

-- equal numbers of workers, and the same one for each operation
abbrev pub same_lanes : List ℕ → List ℕ → Bool
same_lanes one other = pointwise ◌==◌ one other

abbrev pub same_assignment : Assignment → Assignment → Bool
same_assignment one other = (one.workers == other.workers) && same_lanes one.lanes other.lanes

-- ---- the tests are true exactly of equals

same_number : (one other : ℕ) → (one == other) ≡ true → one ≡ other
same_number one other test = (unsigned_Decides one other).0 test

operations_equal : (one other : Op) → same_operation one other ≡ true → one ≡ other
operations_equal (Find key) (Find other) test = ap Find (same_number key other test)
operations_equal (Insert key pointer) (Insert other another) test = λ i.
    Insert (same_number key other (first_so (key == other) (pointer == another) test) i) (same_number pointer another (second_so (key == other) (pointer == another) test) i)
operations_equal (Delete key) (Delete other) test = ap Delete (same_number key other test)
operations_equal (Replace key pointer) (Replace other another) test = λ i.
    Replace (same_number key other (first_so (key == other) (pointer == another) test) i) (same_number pointer another (second_so (key == other) (pointer == another) test) i)
operations_equal (Exchange key expected pointer) (Exchange other wanted another) test =
    let rest : ((expected == wanted) && (pointer == another)) ≡ true = second_so (key == other) ((expected == wanted) && (pointer == another)) test in
    λ i. Exchange (same_number key other (first_so (key == other) ((expected == wanted) && (pointer == another)) test) i) (same_number expected wanted (first_so (expected == wanted) (pointer == another) rest) i) (same_number pointer another (second_so (expected == wanted) (pointer == another) rest) i)
operations_equal (DeleteExact key expected) (DeleteExact other wanted) test = λ i.
    DeleteExact (same_number key other (first_so (key == other) (expected == wanted) test) i) (same_number expected wanted (second_so (key == other) (expected == wanted) test) i)
operations_equal one other test = absurd (true≢false (sym test))

operation_itself : (op : Op) → same_operation op op ≡ true
operation_itself (Find key) = (unsigned_Decides key key).1 refl
operation_itself (Insert key pointer) = λ i. (unsigned_Decides key key).1 refl i && (unsigned_Decides pointer pointer).1 refl i
operation_itself (Delete key) = (unsigned_Decides key key).1 refl
operation_itself (Replace key pointer) = λ i. (unsigned_Decides key key).1 refl i && (unsigned_Decides pointer pointer).1 refl i
operation_itself (Exchange key expected pointer) = λ i. (unsigned_Decides key key).1 refl i && ((unsigned_Decides expected expected).1 refl i && (unsigned_Decides pointer pointer).1 refl i)
operation_itself (DeleteExact key expected) = λ i. (unsigned_Decides key key).1 refl i && (unsigned_Decides expected expected).1 refl i

same_operation-Decides : (one other : Op) → Decides (same_operation one other) (one ≡ other)
same_operation-Decides one other = (operations_equal one other, λ equal. sym (ap (same_operation one) equal) ∙ operation_itself one)

pub same_operations-Decides : (one other : List Op) → Decides (same_operations one other) (one ≡ other)
same_operations-Decides = pointwise_decides same_operation-Decides

same_lanes-Decides : (one other : List ℕ) → Decides (same_lanes one other) (one ≡ other)
same_lanes-Decides = pointwise_decides unsigned_Decides

assignment_itself : (given : Assignment) → same_assignment given given ≡ true
assignment_itself given = λ i. (unsigned_Decides given.workers given.workers).1 refl i && (same_lanes-Decides given.lanes given.lanes).1 refl i

pub same_assignment-Decides : (one other : Assignment) → Decides (same_assignment one other) (one ≡ other)
same_assignment-Decides one other = (
  λ test i. record {
    workers = same_number one.workers other.workers (first_so (one.workers == other.workers) (same_lanes one.lanes other.lanes) test) i;
    lanes = (same_lanes-Decides one.lanes other.lanes).0 (second_so (one.workers == other.workers) (same_lanes one.lanes other.lanes) test) i;
  },
  λ equal. sym (ap (same_assignment one) equal) ∙ assignment_itself one,
)

-- so they are equivalences
pub same_operations_laws : IsEquivalence same_operations
same_operations_laws = decided same_operations same_operations-Decides

pub same_assignment_laws : IsEquivalence same_assignment
same_assignment_laws = decided same_assignment same_assignment-Decides
