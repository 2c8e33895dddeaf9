use Rattle.std.proofs.Common.{◌≡◌, ◌+◌, Some}
use Rattle.std.specs.Prelude.{Contains}
use Rattle.blink_batch.specs.{pointer_of}
use Rattle.blink_live.specs.{IsPassOf, keys_of, share_of}
use Rattle.blink_client.proofs.counter.raise_own.Given as goal

abbrev pub invariant-loop-done : goal.invariant-loop-done
invariant-loop-done g l = record {
  its_own : IsPassOf l.live l.pass;
  own_key : Contains (keys_of l.pass) l.key;
  raised : pointer_of (share_of l.pass) l.key ≡ Some (l.from + l.done);
}
