-- What was given so far keeps the promises of the first handles, and there is room for what the others give.
use Rattle.std.proofs.Common.{◌≡◌, ◌+◌, ◌≤◌, List, ◌++◌, vec_capacity, vec_len}
use Rattle.std.specs.List.{AllZip}
use Rattle.std.specs.Vec.Iter.{into_iter_items, into_iter_len}
use Rattle.blink_run.proofs.live.threads.join_into.Given as goal

abbrev pub invariant-loop-handle : goal.invariant-loop-handle
invariant-loop-handle g l = record {
  kept : (ended : List _)
      × (ended ++ into_iter_items l.handle-iterator ≡ l.fn.handles.items)
      × AllZip (λ handle given. g.P.Promise.kept_by handle.promise given) ended l.all.items;
  room : vec_len l.all + into_iter_len l.handle-iterator ≤ vec_capacity l.all;
}
