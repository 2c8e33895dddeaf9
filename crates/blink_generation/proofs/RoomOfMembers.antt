-- What a member's room is enough for.
use Rattle.std.proofs.Common.{◌≡◌, ◌+◌, ◌≤◌, sym, subst, arith}
use Rattle.blink_batch.specs.declared.Op.{Op}
use Rattle.blink_rows.specs.declared.span.Span.{Span}
use Rattle.blink_live.specs.declared.view.View.{View}
use Rattle.blink_live.specs.{CanBegin, HasRowsFor, free_in, pages_of, rows_of, rows_taken}
use Rattle.blink_live.proofs.Offered.{enough_taken, taken_in_order}
use Rattle.blink_generation.specs.declared.member.Member.{Member}
use Rattle.blink_generation.specs.Sessions.{HasRoom}

-- an operation that may need no more than the room can begin
pub has_rows_for : (op : Op) (member : Member) (v : View) → v.rows ≡ member.rows → HasRoom op member → HasRowsFor op v.rows member.room.shelf
has_rows_for op member v same has = record {
  enough = subst (λ (s : Span). rows_of op ≤ rows_taken op s + free_in member.room.shelf) (sym same) (enough_taken op member.rows (free_in member.room.shelf) has.enough_rows);
  space = has.space;
}

pub can_begin : (op : Op) (member : Member) (v : View) → v.rows ≡ member.rows → v.pages ≡ member.pages → 2 ≤ v.busy → HasRoom op member → CanBegin v op
can_begin op member v rows pages works has = record {
  rows = taken_in_order op v.rows (subst (λ (s : Span). s.next ≤ s.stop) (sym rows) member.in_order.0);
  pages = subst (λ (s : Span). s.next + pages_of op ≤ s.stop) (sym pages) (let order = member.in_order.1 in let enough = has.enough_pages in omega (arith, order, enough));
  announced = λ common. works;
}
