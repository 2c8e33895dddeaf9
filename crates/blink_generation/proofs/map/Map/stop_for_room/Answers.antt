use Rattle.std.proofs.Common.{refl}
use Rattle.blink_generation.proofs.map.Map.stop_for_room.Goals as goal

pub returns-in-None-clause-stopped : goal.returns-in-None-clause-stopped
returns-in-None-clause-stopped c before room lacks =
    let why = c.in-None.ensures.refused refl before room in (c.answer_with_no_room.ensures.full before lacks, why.0, why.1)
