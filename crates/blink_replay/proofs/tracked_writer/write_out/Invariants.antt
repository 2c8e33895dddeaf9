use Rattle.std.proofs.Common.{◌≡◌, ◌++◌, List, ℕ, length}
use Rattle.blink_replay.specs.TrackedWriter.{WritesAll}
use Rattle.blink_replay.proofs.tracked_writer.write_out.Given as goal

-- a beginning of the text is written, and the rest is left
abbrev pub invariant-loop-rest : goal.invariant-loop-rest
invariant-loop-rest g l = record {
  written : List ℕ;
  in_order : l.fn.text ≡ written ++ l.rest;
  all_written : WritesAll g.O.TrackedWriter.offered l.initial.tracked_writer written l.tracked_writer;
}

-- each call takes some of the rest
abbrev pub decreases-loop-rest : goal.decreases-loop-rest
decreases-loop-rest g l = length l.rest
