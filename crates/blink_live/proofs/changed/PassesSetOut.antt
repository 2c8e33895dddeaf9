-- A pass that has a change of the operation's kind left can begin an operation of one of its keys.
use Rattle.std.proofs.Common.{None, Option, ap, ◌≡◌, ◌≢◌, inl, ℕ, ◌+◌, ◌≤◌, List, sym, ◌∙◌, subst, arith}
use Rattle.std.specs.Prelude.{Contains}
use Rattle.blink_batch.specs.{key_of}
use Rattle.blink_batch.specs.declared.Op.{Op}
use Rattle.blink_machine.specs.{IsUpdate}
use Rattle.blink_rows.specs.declared.span.Span.{Span}
use Rattle.blink_live.specs.declared.live.Live.{Live}
use Rattle.blink_live.specs.declared.live.Pass.{Pass}
use Rattle.blink_live.specs.declared.room.Room.{Room}
use Rattle.blink_live.specs.declared.shelf.Shelf.{Shelf}
use Rattle.blink_live.specs.declared.view.View.{View}
use Rattle.blink_live.specs.Allowed.{changes_left}
use Rattle.blink_live.specs.Handles.{IsPassOf, keys_of}
use Rattle.blink_live.specs.Seats.{IsPassSeat}
use Rattle.blink_live.specs.Updating.{HasRowsFor, room_for, room_in}
use Rattle.blink_live.specs.Views.{CanBegin, IsOwned, MayChange, latch_in, rows_of, rows_taken, pages_of, span}
use Rattle.blink_live.proofs.changed.RowsTaken.{all_taken}
use Rattle.blink_live.proofs.dealt.ChangesLeft.{takes_some}

-- the pass has what the operation takes, and its seat can begin the operation
pub record CanSetOut (live : Live) (op : Op) (pass : Pass) : Type 0 where
  pub enough_rows : pass.rows.next + rows_of op ≤ pass.rows.stop
  pub enough_pages : pass.pages.next + pages_of op ≤ pass.pages.stop
  pub some_row : 1 ≤ pass.rows.stop
  pub seat : IsPassSeat live pass.seat.table_id pass.seat.me
  pub can_begin : CanBegin pass.seat.me.0 op
  pub same_room : room_for op pass.rows pass.pages ≡ room_in op pass.seat.me.0 None
  pub may : MayChange pass.seat.me.0 (key_of op)
  pub enough : HasRowsFor op pass.seat.me.0.rows None

-- a pass's latch number is that of its last row
in_room : (op : Op) (v : View) → IsOwned v.plan → rows_taken op v.rows ≡ rows_of op → room_for op v.rows v.pages ≡ room_in op v None
in_room op v owned all = λ i. record {
  rows = span v.rows.next (v.rows.next + sym all i);
  pages = span v.pages.next (v.pages.next + pages_of op);
  latch_number = latch_in (sym owned i) v.rows.stop;
  shelf = None;
}

-- whatever room equals that has its shelf, which is none
pub with_its_shelf : (op : Op) (v : View) (room : Room) → room ≡ room_in op v None → room ≡ room_in op v room.shelf
with_its_shelf op v room is = is ∙ ap (room_in op v) (sym (ap (λ (r : Room). r.shelf) is))

-- and what is enough without a shelf is enough with its shelf
pub has_its_shelf : (op : Op) (rows : Span) (shelf : Option Shelf) → shelf ≡ None → HasRowsFor op rows None → HasRowsFor op rows shelf
has_its_shelf op rows shelf none has = subst (HasRowsFor op rows) (sym none) has

pub can_set_out : (live : Live) (op : Op) (pass : Pass) → IsPassOf live pass → IsUpdate op → Contains (keys_of pass) (key_of op) → changes_left op pass.pages pass.rows ≢ 0 → CanSetOut live op pass
can_set_out live op pass its_own updates own some =
    let takes = takes_some pass.pages pass.rows pass.for_changes pass.in_order op updates some in
    let rows : pass.seat.me.0.rows.next + rows_of op ≤ pass.seat.me.0.rows.stop = subst (λ (s : Span). s.next + rows_of op ≤ s.stop) pass.rows_are takes.enough_rows in
    let all = all_taken op pass.seat.me.0.rows rows in record {
      enough_rows = takes.enough_rows;
      enough_pages = takes.enough_pages;
      some_row = takes.some_row;
      seat = record { same_table = its_own.0; same_plan = its_own.1; role = pass.role_is };
      can_begin = record {
        rows = omega (arith, rows, all);
        pages = subst (λ (s : Span). s.next + pages_of op ≤ s.stop) pass.pages_are takes.enough_pages;
        announced = λ common. absurd (let none = pass.owned in omega (arith, none, common));
      };
      same_room = (λ i. room_for op (pass.rows_are i) (pass.pages_are i)) ∙ in_room op pass.seat.me.0 pass.owned all;
      may = inl (subst (λ (keys : List ℕ). Contains keys (key_of op)) pass.keys_are own);
      enough = record { enough = omega (arith, all); space = tt };
    }
