-- What this crate offers to the proofs of the crates above.

-- the text of a script's first parts is a beginning of its text
pub use Rattle.blink_replay.proofs.PartsAreServed.{prefix_of_text}
-- parts served one after another, as far as they have come, and what an error leaves
pub use Rattle.blink_replay.proofs.PartsAreServed.{HasServed, prefix_output_after_error, serves_more, unflushed}
-- what a writer whose bytes are known has taken: the whole of a text of what is read, or a beginning
pub use Rattle.blink_replay.proofs.WhatWritersTake.{fault_told, is_a_script, lines_left, none_written, serves_script, writes_prefix, writes_whole}
-- a schedule has one first number that is no worker's, and none where all are workers
pub use Rattle.blink_replay.proofs.FirstThatIsNoWorker.{none_first, one_first}
