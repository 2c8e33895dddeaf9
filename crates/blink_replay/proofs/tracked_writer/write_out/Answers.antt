use Rattle.std.proofs.Common.{◌<◌, [], arith, refl, rules, sym}
use Rattle.std.proofs.lemmas.Grind.{common_steps}
use Rattle.blink_replay.specs.TrackedWriter.{nothing, refuses, takes_nothing}
use Rattle.blink_replay.proofs.WritersTake.{breaks_here, writes_all_more}
use Rattle.blink_replay.proofs.tracked_writer.write_out.Goals as goal

-- nothing is written yet
pub loop-rest-init : goal.loop-rest-init
loop-rest-init g c = record { written = []; in_order = sym c.as_bytes-rest.ensures.value; all_written = nothing }

-- a call takes some of the rest
pub loop-rest-preserved : goal.loop-rest-preserved
loop-rest-preserved g c =
    let some : 0 < c.in-Some.taken = omega arith in
    writes_all_more g.O.TrackedWriter.offered _ _ _ _ _ _ _ c.in-Some.taken c.loop-rest.invariant.in_order c.loop-rest.invariant.all_written c.in-Some.ensures.offered some (grind (arith, common_steps))

-- a call fails
pub returns-in-None-clause-broken_off : goal.returns-in-None-clause-broken_off
returns-in-None-clause-broken_off g c =
    (refl, breaks_here g.O.TrackedWriter.offered g.O.TrackedWriter.settled _ _ _ _ _ _ c.loop-rest.invariant.in_order c.loop-rest.invariant.all_written (refuses c.loop-rest.rest.now (search rules)))

-- a call takes nothing
pub returns-in-None-2-clause-broken_off : goal.returns-in-None-2-clause-broken_off
returns-in-None-2-clause-broken_off g c =
    (refl, breaks_here g.O.TrackedWriter.offered g.O.TrackedWriter.settled _ _ _ _ _ _ c.loop-rest.invariant.in_order c.loop-rest.invariant.all_written (takes_nothing c.loop-rest.rest.now (search rules) (search rules)))
