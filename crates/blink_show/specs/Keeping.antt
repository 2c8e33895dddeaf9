-- What a frame leaves for the next one.
use Rattle.std.specs.Prelude.{◌≡◌, length, map, string_bytes}
use Rattle.blink_steps.specs.{PlainRun}
use Rattle.blink_show.specs.Lines.{lines_of}
use Rattle.blink_show.specs.declared.frame.Film.{Film}

-- the lines of this run, and the number of its operations that have decided
pub record Keeps (shown : Film) (run : PlainRun) : Type 0 where
  pub lines : map string_bytes shown.lines.items ≡ lines_of run
  pub decided : shown.decided ≡ length run.outcome.order
