use Rattle.std.proofs.Common.{◌≡◌, ◌∙◌, sym, ap, subst, refl}
use Rattle.blink_batch.specs.declared.Op.{Op}
use Rattle.blink_live.specs.declared.live.Live.{Live}
use Rattle.blink_live.specs.declared.live.Pass.{Pass}
use Rattle.blink_live.specs.declared.live.Pending.{Pending}
use Rattle.blink_live.specs.declared.room.Room.{Room}
use Rattle.blink_live.specs.Handles.{IsPassOf}
use Rattle.blink_live.specs.Pendings.{HasBegun, HasRest, IsWaiting}
use Rattle.blink_live.specs.Updating.{IsUnderWay}
use Rattle.blink_live.proofs.changed.LatchesAreLeft.{no_latch_waiting}
use Rattle.blink_live.proofs.changed.PassesSetOut.{with_its_shelf, has_its_shelf, can_set_out}
use Rattle.blink_live.proofs.table.RefusalsTold.{beside, no_refusal}
use Rattle.blink_live.proofs.live.Live.begin.Goals as goal

has_begun : (live : Live) (op : Op) (pass : Pass) (pending : Pending) → pending.begun.value ≡ pass → IsPassOf live pass → IsUnderWay live op pass.seat pending.now.seat pending.now.machine pending.now.room
    → HasRest op pass pending.now.keys.items pending.now.rows pending.now.pages → IsWaiting pending.now.machine → HasBegun live op pass pending
has_begun live op pass pending same_pass its_own under_way rest waits =
    let same_op = under_way.updating.same_op in record {
      its_own = record {
        its_own = subst (IsPassOf live) (sym same_pass) its_own;
        under_way = subst (λ (x : Op × Pass). IsUnderWay live x.0 x.1.seat pending.now.seat pending.now.machine pending.now.room) (λ i. (sym same_op i, sym same_pass i)) under_way;
        rest = subst (λ (x : Op × Pass). HasRest x.0 x.1 pending.now.keys.items pending.now.rows pending.now.pages) (λ i. (sym same_op i, sym same_pass i)) rest;
        waits = waits;
        no_latch = no_latch_waiting pending.now.machine waits;
      };
      same_op = same_op;
      same_pass = same_pass;
    }

pub returns-in-Err-clause-not_yours : goal.returns-in-Err-clause-not_yours
returns-in-Err-clause-not_yours c = beside c.args.pass c.accepts.result c.in-Err.refusal _ c.in-Err.is c.accepts.ensures.not_yours

pub returns-in-Err-clause-spent : goal.returns-in-Err-clause-spent
returns-in-Err-clause-spent c = beside c.args.pass c.accepts.result c.in-Err.refusal _ c.in-Err.is c.accepts.ensures.spent

pub next_of-room-requires-clause-rows : goal.next_of-room-requires-clause-rows
next_of-room-requires-clause-rows c =
    (can_set_out c.args.self.now c.args.op c.args.pass c.requires.its_own c.requires.updates c.in_default.ensures.own_key c.in_default.ensures.some_left).enough_rows

pub next_of-room-requires-clause-pages : goal.next_of-room-requires-clause-pages
next_of-room-requires-clause-pages c =
    (can_set_out c.args.self.now c.args.op c.args.pass c.requires.its_own c.requires.updates c.in_default.ensures.own_key c.in_default.ensures.some_left).enough_pages

pub next_of-room-requires-clause-some_row : goal.next_of-room-requires-clause-some_row
next_of-room-requires-clause-some_row c =
    (can_set_out c.args.self.now c.args.op c.args.pass c.requires.its_own c.requires.updates c.in_default.ensures.own_key c.in_default.ensures.some_left).some_row

pub set_out-machine-requires-clause-seat : goal.set_out-machine-requires-clause-seat
set_out-machine-requires-clause-seat c =
    (can_set_out c.args.self.now c.args.op c.args.pass c.requires.its_own c.requires.updates c.in_default.ensures.own_key c.in_default.ensures.some_left).seat

pub set_out-machine-requires-clause-can_begin : goal.set_out-machine-requires-clause-can_begin
set_out-machine-requires-clause-can_begin c =
    (can_set_out c.args.self.now c.args.op c.args.pass c.requires.its_own c.requires.updates c.in_default.ensures.own_key c.in_default.ensures.some_left).can_begin

pub set_out-machine-requires-clause-room : goal.set_out-machine-requires-clause-room
set_out-machine-requires-clause-room c =
    let can = can_set_out c.args.self.now c.args.op c.args.pass c.requires.its_own c.requires.updates c.in_default.ensures.own_key c.in_default.ensures.some_left in
    with_its_shelf c.args.op c.args.pass.seat.me.0 c.next_of-room.result (c.next_of-room.ensures.room ∙ can.same_room)

pub set_out-machine-requires-clause-may : goal.set_out-machine-requires-clause-may
set_out-machine-requires-clause-may c =
    (can_set_out c.args.self.now c.args.op c.args.pass c.requires.its_own c.requires.updates c.in_default.ensures.own_key c.in_default.ensures.some_left).may

pub set_out-machine-requires-clause-enough : goal.set_out-machine-requires-clause-enough
set_out-machine-requires-clause-enough c =
    has_its_shelf _ _ _ (ap (λ (r : Room). r.shelf) c.next_of-room.ensures.room) (can_set_out c.args.self.now c.args.op c.args.pass c.requires.its_own c.requires.updates c.in_default.ensures.own_key c.in_default.ensures.some_left).enough

pub returns-clause-begun : goal.returns-clause-begun
returns-clause-begun c = has_begun c.args.self.now c.args.op c.args.pass _ c.of-begun.ensures c.requires.its_own c.set_out-machine.ensures.under_way record {
  own_key = c.in_default.ensures.own_key;
  some_left = c.in_default.ensures.some_left;
  same_keys = refl;
  rows_are = c.next_of-room.ensures.rows;
  pages_are = c.next_of-room.ensures.pages;
} c.set_out-machine.ensures.waits

pub returns-clause-not_yours : goal.returns-clause-not_yours
returns-clause-not_yours c = no_refusal _ _ (λ foreign. foreign c.in_default.ensures.own_key)

pub returns-clause-spent : goal.returns-clause-spent
returns-clause-spent c = no_refusal _ _ (λ spent. c.in_default.ensures.some_left spent.1)
