-- An operation of a pass that has begun, as contracts see it.
use Rattle.std.specs.Prelude.{◌≡◌, ◌≢◌, ◌+◌, ℕ, List, None, Contains}
use Rattle.blink_batch.specs.declared.Op.{Op}
use Rattle.blink_batch.specs.{key_of}
use Rattle.blink_rows.specs.declared.span.Span.{Span}
use Rattle.blink_machine.specs.declared.machine.State.TheVariants.{Posting, Want}
use Rattle.blink_machine.specs.{PlainMachine, latch_of}
use Rattle.blink_live.specs.declared.live.Live.{Live}
use Rattle.blink_live.specs.declared.live.Pass.{Pass}
use Rattle.blink_live.specs.declared.live.Pending.{Pending}
use Rattle.blink_live.specs.Allowed.{changes_left}
use Rattle.blink_live.specs.Handles.{IsPassOf, keys_of}
use Rattle.blink_live.specs.Updating.{IsUnderWay}
use Rattle.blink_live.specs.Views.{span, rows_of, pages_of}

-- the operation
abbrev pub op_of : Pending → Op
op_of pending = pending.now.machine.op

-- the pass as it was before the operation
abbrev pub pass_of : Pending → Pass
pass_of pending = pending.begun.value

-- the key is the pass's, which has such a change left; and these are its keys, and the rows and page numbers that the change
-- doesn't take
pub record HasRest (op : Op) (pass : Pass) (keys : List ℕ) (rows pages : Span) : Type 0 where
  pub own_key : Contains (keys_of pass) (key_of op)
  pub some_left : changes_left op pass.pages pass.rows ≢ 0
  pub same_keys : keys ≡ keys_of pass
  pub rows_are : rows ≡ span (pass.rows.next + rows_of op) pass.rows.stop
  pub pages_are : pages ≡ span (pass.pages.next + pages_of op) pass.pages.stop

-- the operation waits: next it wants the latch of a page, or it looks for a level to post to of which it remembers no page
pub data IsWaiting (m : PlainMachine) : Type 0 where
  for_latch : (page : ℕ) → m.state ≡ Want page → IsWaiting m
  for_level : m.state ≡ Posting → IsWaiting m

-- an operation of a pass of this table is under way. It holds no page's latch
pub record IsPendingOf (live : Live) (pending : Pending) : Type 0 where
  pub its_own : IsPassOf live (pass_of pending)
  pub under_way : IsUnderWay live (op_of pending) (pass_of pending).seat pending.now.seat pending.now.machine pending.now.room
  pub rest : HasRest (op_of pending) (pass_of pending) pending.now.keys.items pending.now.rows pending.now.pages
  pub waits : IsWaiting pending.now.machine
  pub no_latch : latch_of pending.now.machine ≡ None

-- and it is this operation, of this pass
pub record HasBegun (live : Live) (op : Op) (pass : Pass) (pending : Pending) : Type 0 where
  pub its_own : IsPendingOf live pending
  pub same_op : op_of pending ≡ op
  pub same_pass : pass_of pending ≡ pass
