use Rattle.std.proofs.Common.{◌≡◌, vec_capacity}
use Rattle.blink_store.specs.{page_of}
use Rattle.blink_entries.specs.Index.{store_of}
use Rattle.blink_index.proofs.alone.StepsLeft.{steps_left}
use Rattle.blink_index.proofs.alone.UnderWay.{IsUnderWay}
use Rattle.blink_index.proofs.drive.run.Given as goal

-- the operation is under way, and the vector has the room that it had
abbrev pub invariant-steps : goal.invariant-steps
invariant-steps l = record {
  under_way : IsUnderWay (store_of l.fn.fan l.fn.prime l.fn.pages.items) (store_of l.fan l.prime l.pages.items) l.fn.op l.machine;
  room : vec_capacity l.pages ≡ vec_capacity l.fn.pages;
}

-- each step leads on
abbrev pub decreases-steps : goal.decreases-steps
decreases-steps l = steps_left l.prime (page_of (store_of l.fan l.prime l.pages.items)) l.machine
