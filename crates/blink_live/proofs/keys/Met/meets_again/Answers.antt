use Rattle.blink_live.proofs.dealt.KeysMet.{met_one_more}
use Rattle.blink_live.proofs.keys.Met.meets_again.Goals as goal

pub returns-in-Ok-clause-met : goal.returns-in-Ok-clause-met
returns-in-Ok-clause-met c not_refused = met_one_more _ c.insert.new.self c.args.keys.now c.args.place c.requires.inside c.in-Ok.ensures.updates (c.requires.met not_refused)
