use Rattle.blink_run_tests.proofs.books.expect_play.Given as goal

-- the run begins with the new index and with the play's work
abbrev pub ghosts-run_play : goal.ghosts-run_play
ghosts-run_play g a = record { start = a.index.now; ops = a.work.now.batch; assignment = a.work.now.cut }
