use Rattle.std.proofs.Common.{ap, ◌∙◌}
use Rattle.blink_machine.specs.declared.machine.State.TheVariants.{Going}
use Rattle.blink_live.proofs.live.Live.way_of_change.Goals as goal

pub returns-then-level-eq0-clause-way : goal.returns-then-level-eq0-clause-way
returns-then-level-eq0-clause-way c at = c.reach_leaf.ensures.way (record {
  machine = at.machine;
  operation = at.operation;
  state = at.state ∙ ap (Going c.args.number) c.if-level-eq0.true;
  same_job = at.same_job;
  same_key = at.same_key;
  fits = at.fits;
  announced = at.announced;
})

pub returns-clause-way : goal.returns-clause-way
returns-clause-way c at = (c.read_page.result.2, c.read_page.result.1, c.read_page.ensures.way at)
