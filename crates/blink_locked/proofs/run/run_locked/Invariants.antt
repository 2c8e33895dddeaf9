use Rattle.blink_locked.proofs.run.run_locked.Given as goal

-- the run begins with what the call is given
abbrev pub ghosts-run_book : goal.ghosts-run_book
ghosts-run_book g a = record { start = a.start.now; ops = a.batch.now; assignment = a.cut.now }
