use Rattle.show_main.proofs.program.show.Goals as goal

-- the page of a schedule's turns
pub returns-in-Schedule-clause-written : goal.returns-in-Schedule-clause-written
returns-in-Schedule-clause-written g c = rw (c.in-Schedule.is) (rw c.deref.ensures.value at c.serve_show.ensures.shown)

pub returns-in-Schedule-clause-left : goal.returns-in-Schedule-clause-left
returns-in-Schedule-clause-left g c = rw (c.in-Schedule.is) (rw c.deref.ensures.value at c.serve_show.ensures.left)

-- the page of the turns that a seed draws
pub returns-in-Seed-clause-written : goal.returns-in-Seed-clause-written
returns-in-Seed-clause-written g c = rw (c.in-Seed.is) c.serve_seed.ensures.shown

pub returns-in-Seed-clause-left : goal.returns-in-Seed-clause-left
returns-in-Seed-clause-left g c = rw (c.in-Seed.is) c.serve_seed.ensures.left
