use Rattle.blink_live.proofs.live.Live.hand_out.Given as goal

abbrev pub ghosts-split_seat : goal.ghosts-split_seat
ghosts-split_seat a = record { rows = a.rows; pages = a.pages; keys = a.keys.now; taken = a.taken.now }
