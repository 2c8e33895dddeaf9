-- What this crate offers to the proofs of the crates above: what a run and a world promise.

-- a run at its end has all answers, and they and the map are those of one thread
pub use Rattle.blink_steps.proofs.worlds.RunAtItsEnd.{IsDone, no_turn_yet, all_some, one_thread_answers, one_thread_map}
-- a run keeps the fan
pub use Rattle.blink_steps.proofs.worlds.FanStays.{fan_stays}
-- a run adds few pages
pub use Rattle.blink_steps.proofs.worlds.PagesStayFew.{pages_stay_few}
-- the next operation of a lane has no answer yet
pub use Rattle.blink_steps.proofs.runs.WhatRunsPromise.{next_is_unanswered}
-- a world's run keeps the invariant
pub use Rattle.blink_steps.proofs.worlds.WorldPromises.{invariant}
-- while an operation is under way, some worker would move
pub use Rattle.blink_steps.proofs.worlds.SomeoneWouldMove.{nobody_moves}
-- a turn brings the end nearer
pub use Rattle.blink_steps.proofs.worlds.WorldsGoOn.{nearer}
