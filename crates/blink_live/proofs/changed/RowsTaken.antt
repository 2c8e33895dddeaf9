-- How many rows an operation takes when it begins: as many as it may need, where the seat has them.
use Rattle.std.proofs.Common.{◌≡◌, ℕ, ◌+◌, ◌-◌, ◌≤◌, min, Option, Some, None, refl, arith}
use Rattle.std.proofs.Math.Decide.{dec_le}
use Rattle.std.proofs.Math.Nat.{min-eq_left, min-eq_right, min-le_left, min-le_right}
use mathlib.Core.Logic.{dite}
use Rattle.blink_batch.specs.declared.Op.{Op}
use Rattle.blink_batch.specs.declared.Op.TheVariants.{Find}
use Rattle.blink_rows.specs.declared.span.Span.{Span}
use Rattle.blink_live.specs.declared.shelf.Shelf.{Shelf}
use Rattle.blink_live.specs.Shelves.{HasSpaceFor}
use Rattle.blink_live.specs.Views.{rows_of, rows_taken}

pub all_taken : (op : Op) (rows : Span) → rows.next + rows_of op ≤ rows.stop → rows_taken op rows ≡ rows_of op
all_taken (Find key) rows enough = refl
all_taken op rows enough = min-eq_left (omega (arith, enough))

pub few_taken : (op : Op) (rows : Span) → rows_taken op rows ≤ rows_of op
few_taken (Find key) rows = omega arith
few_taken op rows = min-le_left (rows_of op) (rows.stop - rows.next)

pub taken_in_order : (op : Op) (rows : Span) → rows.next ≤ rows.stop → rows.next + rows_taken op rows ≤ rows.stop
taken_in_order (Find key) rows order = omega (arith, order)
taken_in_order op rows order = let few = min-le_right (rows_of op) (rows.stop - rows.next) in omega (arith, few, order)

-- the rows that it doesn't find there are others
enough_in : (most has free : ℕ) → most ≤ has + free → most ≤ min most has + free
enough_in most has free enough = dite (dec_le most has)
    (λ all. let same = min-eq_left all in omega (arith, same))
    (λ few. let same = min-eq_right {n = has} {m = most} (omega (arith, few)) in omega (arith, same, enough))

pub enough_taken : (op : Op) (rows : Span) (free : ℕ) → rows_of op ≤ (rows.stop - rows.next) + free → rows_of op ≤ rows_taken op rows + free
enough_taken (Find key) rows free enough = omega arith
enough_taken op rows free enough = enough_in (rows_of op) (rows.stop - rows.next) free enough

-- a shelf with room for some rows has room for fewer
pub less_space : (shelf : Option Shelf) (some fewer : ℕ) → fewer ≤ some → HasSpaceFor shelf some → HasSpaceFor shelf fewer
less_space None some fewer few space = tt
less_space (Some shelf) some fewer few space = omega (arith, few, space)
