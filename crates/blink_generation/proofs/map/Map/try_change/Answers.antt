use Rattle.std.proofs.Common.{refl}
use Rattle.blink_generation.proofs.map.Map.try_change.Goals as goal

pub returns-in-Some-clause-answered : goal.returns-in-Some-clause-answered
returns-in-Some-clause-answered c = c.in-Some.ensures.answered c.args.session.now c.in-Err.ensures.unchanged

pub returns-in-None-clause-full : goal.returns-in-None-clause-full
returns-in-None-clause-full c = c.answer_with_no_room.ensures.full c.args.session.now c.in-Err.ensures.full

pub returns-in-None-clause-absent : goal.returns-in-None-clause-absent
returns-in-None-clause-absent c = (c.in-None.ensures.refused refl c.args.session.now c.in-Err.ensures.unchanged).0

pub returns-in-None-clause-unchanged : goal.returns-in-None-clause-unchanged
returns-in-None-clause-unchanged c = (c.in-None.ensures.refused refl c.args.session.now c.in-Err.ensures.unchanged).1
