use Rattle.std.proofs.Common.{◌≡◌, ◌++◌, ◌-◌, List, length, append_assoc, length-append, ap, sym, ◌∙◌, arith}
use Rattle.blink_batch.specs.declared.Entry.{Entry}
use Rattle.blink_handles.specs.Filled.{told_of}
use Rattle.blink_handles.proofs.RunsShown.{length-entries_from, shown_all, shown_full, told_all, told_within}
use Rattle.blink_rest.specs.{entries_from}
use Rattle.blink_handles.proofs.reads.fill_entries.Goals as goal

-- a run more
pub runs-preserved : goal.runs-preserved
runs-preserved c =
    let so_far = c.runs.invariant in
    let run = c.in-Some.part.now in
    let long = length-entries_from run in
    record {
      shown = so_far.shown ++ entries_from run;
      in_order = so_far.in_order ∙ ap (λ (rest : List Entry). so_far.shown ++ rest) c.in-Some.ensures.run ∙ sym (append_assoc so_far.shown (entries_from run) c.next_run.new.self);
      overlaid_so_far = c.set_run.ensures so_far.shown c.args.entries.now so_far.overlaid_so_far so_far.counted;
      counted = omega (arith, length-append so_far.shown (entries_from run), so_far.counted, long);
      fitted = omega (arith, so_far.fitted);
    }

pub runs-smaller : goal.runs-smaller
runs-smaller c =
    let run = c.in-Some.part.now in
    let parts = ap length c.in-Some.ensures.run ∙ length-append (entries_from run) c.next_run.new.self in
    let long = length-entries_from run in
    omega (arith, parts, long, c.in-Some.ensures.some)

-- the run has an entry for which there is no place
pub returns-then-room-part-clause-entries : goal.returns-then-room-part-clause-entries
returns-then-room-part-clause-entries c =
    let so_far = c.runs.invariant in
    let run = c.in-Some.part.now in
    let found = so_far.in_order ∙ ap (λ (rest : List Entry). so_far.shown ++ rest) c.in-Some.ensures.run in
    let many = length-append so_far.shown (entries_from run) in
    let long = length-entries_from run in
    c.set_run.ensures so_far.shown c.args.entries.now so_far.overlaid_so_far so_far.counted
    ∙ shown_full c.args.scan so_far.shown (entries_from run) c.next_run.new.self c.args.entries.now found (omega (arith, many, long, so_far.counted, so_far.fitted, c.if-room-part.true))

pub returns-then-room-part-clause-scanned : goal.returns-then-room-part-clause-scanned
returns-then-room-part-clause-scanned c =
    let so_far = c.runs.invariant in
    let run = c.in-Some.part.now in
    let places = length c.set_run.new.entries in
    let same : places ≡ length c.args.entries.now = c.set_run.auto.entries ∙ c.runs.auto.entries in
    let found = so_far.in_order ∙ ap (λ (rest : List Entry). so_far.shown ++ rest) c.in-Some.ensures.run in
    c.told.ensures
    ∙ (told_within c.args.scan so_far.shown run c.next_run.new.self (places - c.runs.filled) places found (omega (arith, so_far.counted, so_far.fitted, same)) c.if-room-part.true
    ∙ ap (told_of c.args.scan) same)

-- no run is left
pub returns-clause-entries : goal.returns-clause-entries
returns-clause-entries c =
    let so_far = c.runs.invariant in
    so_far.overlaid_so_far ∙ shown_all c.args.scan so_far.shown c.runs.scan c.args.entries.now so_far.in_order c.in_default.ensures.end

pub returns-clause-scanned : goal.returns-clause-scanned
returns-clause-scanned c =
    let so_far = c.runs.invariant in
    c.told-2.ensures ∙ told_all c.args.scan so_far.shown c.runs.scan c.runs.filled (length c.args.entries.now) so_far.in_order c.in_default.ensures.end so_far.counted so_far.fitted
