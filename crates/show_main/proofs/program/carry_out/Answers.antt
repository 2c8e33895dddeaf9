use Rattle.show_main.proofs.program.carry_out.Goals as goal

-- the turns that the words ask for have their page
pub returns-in-Ok-show-clause-written : goal.returns-in-Ok-show-clause-written
returns-in-Ok-show-clause-written g c = record { settings = c.in-Ok.asked.0; turns = c.in-Ok.asked.1; asks = c.in-Ok.ensures.asked; writes = c.in-Ok-show.ensures.written }

-- or it leaves what is left of that page
pub returns-clause-left : goal.returns-clause-left
returns-clause-left g c = record { settings = c.in-Ok.asked.0; turns = c.in-Ok.asked.1; asks = c.in-Ok.ensures.asked; leaves = c.in-Err-show.ensures.left }
