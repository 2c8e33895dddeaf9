use Rattle.index_main.proofs.program.served.Goals as goal

-- the schedule is the line's
pub returns-in-Ok-serve_replay-clause-written : goal.returns-in-Ok-serve_replay-clause-written
returns-in-Ok-serve_replay-clause-written g c = rw c.in-Replay.is (rw c.deref.ensures.value at c.in-Ok-serve_replay.ensures.replayed)
