-- An update begins where its way down ends, with all that it may need left.
use Rattle.std.proofs.Common.{◌≡◌, ℕ, zero, suc, Option, Some, None, List, ◌+◌, ◌≤◌, ap, sym, ◌∙◌, subst, refl, arith}
use Rattle.atomic_table.specs.declared.Seat.{Seat}
use Rattle.blink_batch.specs.{FitsWords, key_of}
use Rattle.blink_batch.specs.declared.Op.{Op}
use Rattle.blink_batch.specs.declared.Op.TheVariants.{Find}
use Rattle.blink_machine.specs.declared.machine.Job.TheVariants.{Leaf}
use Rattle.blink_machine.specs.declared.machine.State.TheVariants.{Want}
use Rattle.blink_machine.specs.{numbers_left, writes_left, primes_left, PlainMachine, IsUpdate}
use Rattle.blink_live.specs.declared.live.Live.{Live}
use Rattle.blink_live.specs.declared.room.Room.{Room}
use Rattle.blink_live.specs.declared.shelf.Shelf.{Shelf}
use Rattle.blink_live.specs.declared.view.Call.{Call}
use Rattle.blink_live.specs.declared.view.View.{View}
use Rattle.blink_live.specs.Seats.{HasRead, HasSameNumber, IsAtLeaf, IsPassSeat, found, wants as wants_leaf}
use Rattle.blink_live.specs.Spares.{HasAny}
use Rattle.blink_live.specs.Updating.{SameBesideCall, not_yet, HasLeft, HasRowsFor, IsUpdating, IsPastDescent, CanUpdate, IsUnderWay, room_in}
use Rattle.blink_live.specs.Views.{SeatState, CanBegin, MayChange, SameBesideReads, latch_in, latch_number_by, rows_of, rows_taken, pages_of, for_call, known_of}
use Rattle.blink_live.specs.Pendings.{IsWaiting, for_latch}
use Rattle.blink_live.specs.Shelves.{IsShelved}
use Rattle.blink_live.specs.Words.{AreNumbersIn, AreRowsIn}
use Rattle.blink_live.proofs.changed.RowsAreLent.{shelved_so}
use Rattle.blink_live.proofs.changed.RowsTaken.{less_space}

within_call : (v w : View) → SameBesideReads v w → SameBesideCall v w
within_call v w same =
    let share : v.share ≡ w.share = sym (ap (λ (x : View). x.share) same) in
    let call : v.call ≡ w.call = sym (ap (λ (x : View). x.call) same) in
    let stock : v.stock ≡ w.stock = sym (ap (λ (x : View). x.stock) same) in
    same ∙ (λ i. record v { operation = w.operation; descent_bound = w.descent_bound; reads = w.reads; behind = w.behind; appends = w.appends; seen = w.seen; share = share i; call = call i; stock = stock i })

-- an operation that wants its leaf's latch
abbrev wanting : PlainMachine → ℕ → Op → PlainMachine
wanting m page op = record { fan = m.fan; op = op; job = Leaf; remembered = m.remembered; state = Want page; answer = m.answer }

-- all that it may need is left
all_left : (m : PlainMachine) (page : ℕ) (op : Op) → (writes_left (wanting m page op) + primes_left (wanting m page op) ≤ rows_of op) × (numbers_left (wanting m page op) ≤ pages_of op)
all_left m page (Find key) = (omega arith, omega arith)
all_left m page op = (omega arith, omega arith)

left_at_leaf : (op : Op) (m : PlainMachine) (page : ℕ) → m.op ≡ op → m.job ≡ Leaf → m.state ≡ Want page → (writes_left m + primes_left m ≤ rows_of op) × (numbers_left m ≤ pages_of op)
left_at_leaf op m page same_op same_job at =
    subst (λ (k : PlainMachine). (writes_left k + primes_left k ≤ rows_of op) × (numbers_left k ≤ pages_of op))
    (λ i. record { fan = m.fan; op = sym same_op i; job = sym same_job i; remembered = m.remembered; state = sym at i; answer = m.answer }) (all_left m page op)

update_begins : (op : Op) (v : View) (first me : SeatState) (m : PlainMachine) (kept : Option ℕ) → IsUpdate op → first.0 ≡ for_call v op → HasRead op first me m → IsAtLeaf op kept m → IsUpdating op first me m
update_begins op v first me m kept updates is read (found key is_find at_end answer) = absurd (subst IsUpdate is_find updates)
update_begins op v first me m kept updates is read (wants_leaf page update at none_yet) =
    record {
      same = (within_call first.0 me.0 read.same.0, read.same.1);
      saw = read.saw;
      knows_own = read.knows_own;
      operation = read.operation;
      same_op = read.same_op;
      next = read.next;
      has_decided = not_yet none_yet (ap (λ (x : View). x.share) read.same.0);
      past_descent = subst IsPastDescent (sym at) tt;
      answers_at_end = λ ends. absurd (cc);
    }

-- and what it may need is left
left_begins : (op : Op) (v : View) (slots : List (ℕ × ℕ)) (me : SeatState) (m : PlainMachine) (kept : Option ℕ) (shelf : Option Shelf) → IsUpdate op → HasRead op (for_call v op, slots) me m → IsAtLeaf op kept m → HasRowsFor op v.rows shelf → HasLeft shelf (for_call v op).call me.0.call m
left_begins op v slots me m kept shelf updates read (found key is_find at_end answer) has = absurd (subst IsUpdate is_find updates)
left_begins op v slots me m kept shelf updates read (wants_leaf page update at none_yet) has =
    let left = left_at_leaf op m page read.same_op read.same_job at in
    let enough_rows = left.0 in
    let enough_pages = left.1 in
    let enough = has.enough in
    let call : me.0.call ≡ (for_call v op).call = ap (λ (x : View). x.call) read.same.0 in
    subst (λ (c : Call). HasLeft shelf (for_call v op).call c m) (sym call) record {
      rows = omega (arith, enough_rows, enough);
      space = less_space shelf _ _ enough_rows has.space;
      in_order = omega arith;
      pages = omega (arith, enough_pages);
      later = (omega arith, omega arith);
      same_stop = (refl, refl);
      blank = refl;
    }

-- it wants its leaf's latch
pub waits_at_leaf : (op : Op) (kept : Option ℕ) (m : PlainMachine) → IsUpdate op → IsAtLeaf op kept m → IsWaiting m
waits_at_leaf op kept m updates (found key is_find at_end answer) = absurd (subst IsUpdate is_find updates)
waits_at_leaf op kept m updates (wants_leaf page update at none_yet) = for_latch page at

-- it takes a row at least
takes_a_row : (op : Op) → IsUpdate op → 1 ≤ rows_of op
takes_a_row (Find key) updates = absurd updates
takes_a_row op updates = omega arith

-- so it can latch pages
some_latch : (places stop : ℕ) → 2 ≤ stop → 1 ≤ latch_in places stop
some_latch zero stop enough = omega (arith, enough)
some_latch (suc places) stop enough = omega arith

-- a pass has a last row, and a session's number is 1
pub some_latch_for : (op : Op) (v : View) (shelf : Option Shelf) → IsUpdate op → HasRowsFor op v.rows shelf → IsShelved shelf v → v.rows.next + rows_taken op v.rows ≤ v.rows.stop → 1 ≤ v.rows.next → 1 ≤ latch_number_by v
some_latch_for op v None updates has shelved rows low =
    let some = takes_a_row op updates in
    let enough = has.enough in
    some_latch v.plan.places v.rows.stop (omega (arith, some, enough, rows, low))
some_latch_for op v (Some shelf) updates has shelved rows low = latch_of_common v.plan.places v.rows.stop shelved.0
  where
    latch_of_common : (places stop : ℕ) → 1 ≤ places → 1 ≤ latch_in places stop
    latch_of_common zero stop common = absurd (omega (arith, common))
    latch_of_common (suc places) stop common = omega arith

pub can_update : (live : Live) (op : Op) (first : Seat ℕ View) → IsPassSeat live first.table_id first.me → IsUpdate op → FitsWords op → MayChange first.me.0 (key_of op) → CanBegin first.me.0 op
    → AreRowsIn live.counts first.me.0.rows → AreNumbersIn live.counts first.me.0.pages → 1 ≤ latch_number_by first.me.0 → CanUpdate live op first
can_update live op first seat updates fits may can rows pages some = record {
  seat = seat;
  updates = updates;
  fits = fits;
  some_latch = some;
  may_change = may;
  can_begin = can;
  rows = rows;
  pages = pages;
}

pub is_under_way : (live : Live) (op : Op) (first seat : Seat ℕ View) (m : PlainMachine) (room : Room) → CanUpdate live op first → HasSameNumber first seat
    → HasRead op (for_call first.me.0 op, first.me.1) seat.me m → IsAtLeaf op (known_of seat.me.0 (key_of op)) m
    → room ≡ room_in op first.me.0 room.shelf → IsShelved room.shelf first.me.0 → HasRowsFor op first.me.0.rows room.shelf → IsUnderWay live op first seat m room
is_under_way live op first seat m room can same read at_leaf takes shelved has =
    let call : seat.me.0.call ≡ (for_call first.me.0 op).call = ap (λ (v : View). v.call) read.same.0 in record {
      can = can;
      same_number = same;
      updating = update_begins op first.me.0 (for_call first.me.0 op, first.me.1) seat.me m (known_of seat.me.0 (key_of op)) can.updates refl read at_leaf;
      room_is = (ap (λ (r : Room). r.rows) takes ∙ sym (ap (λ (c : Call). c.rows) call), ap (λ (r : Room). r.pages) takes ∙ sym (ap (λ (c : Call). c.pages) call));
      latch_number = ap (λ (r : Room). r.latch_number) takes;
      shelved = shelved_so room.shelf first.me.0 seat.me.0 (ap (λ (v : View). v.plan) read.same.0) (ap (λ (v : View). v.stock) read.same.0) shelved;
      left = left_begins op first.me.0 first.me.1 seat.me m (known_of seat.me.0 (key_of op)) room.shelf can.updates read at_leaf has;
      spare_first = λ common some. (ap (λ (c : Call). c.pages.next) call, subst HasAny (ap (λ (v : View). v.stock.spare) read.same.0) some);
    }
