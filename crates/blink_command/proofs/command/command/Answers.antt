use Rattle.blink_command.proofs.command.command.Goals as goal

pub with_replay-requires : goal.with_replay-requires
with_replay-requires c = c.in_ok-runner.ensures

pub returns : goal.returns
returns c = c.with_replay.ensures
