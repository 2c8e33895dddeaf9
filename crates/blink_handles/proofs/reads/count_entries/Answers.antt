use Rattle.std.proofs.Common.{◌++◌, List, length, append_assoc, length-append, ap, sym, ◌∙◌, arith}
use Rattle.blink_batch.specs.declared.Entry.{Entry}
use Rattle.blink_handles.proofs.RunsShown.{length-entries_from}
use Rattle.blink_rest.specs.{entries_from}
use Rattle.blink_handles.proofs.reads.count_entries.Goals as goal

-- a run more
pub runs-preserved : goal.runs-preserved
runs-preserved c =
    let so_far = c.runs.invariant in
    let run = c.in-Some.part.now in
    let long = length-entries_from run in
    record {
      shown = so_far.shown ++ entries_from run;
      in_order = so_far.in_order ∙ ap (λ (rest : List Entry). so_far.shown ++ rest) c.in-Some.ensures.run ∙ sym (append_assoc so_far.shown (entries_from run) c.next_run.new.self);
      counted = omega (arith, length-append so_far.shown (entries_from run), so_far.counted, long);
    }

pub runs-smaller : goal.runs-smaller
runs-smaller c =
    let run = c.in-Some.part.now in
    let parts = ap length c.in-Some.ensures.run ∙ length-append (entries_from run) c.next_run.new.self in
    let long = length-entries_from run in
    omega (arith, parts, long, c.in-Some.ensures.some)
