use Rattle.std.proofs.Common.{take}
use Rattle.blink_index.specs.{map_of}
use Rattle.blink_run.specs.BySettings.{RunsPartsBy}
use Rattle.blink_replay.proofs.Offered.{HasServed}
use Rattle.blink_run.proofs.script.Service.serve_parts.Given as goal

-- the parts so far are served
abbrev pub invariant-loop-part : goal.invariant-loop-part
invariant-loop-part g l = HasServed g.O.TrackedWriter.offered (map_of l.initial.index) (take l.part-index l.parts) l.initial.tracked_writer l.tracked_writer (map_of l.index) l.batches
    × RunsPartsBy l.self.settings.now l.initial.index (take l.part-index l.parts) l.index
