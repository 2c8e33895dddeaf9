use Rattle.blink_live.proofs.live.Live.root.Given as goal

abbrev pub ghosts-load_prime : goal.ghosts-load_prime
ghosts-load_prime a = record { op = a.op }
