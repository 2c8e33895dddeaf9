use Rattle.std.proofs.Common.{sym, subst}
use Rattle.std.specs.List.Sorted.{IsStrictlyIncreasing}
use Rattle.blink_live.proofs.dealt.KeysInOrder.{sorted_from_rising}
use Rattle.blink_live.proofs.retired.KeysWithout.{without_rises}
use Rattle.blink_live.proofs.keys.remove_all.Goals as goal

pub leave_others-requires : goal.leave_others-requires
leave_others-requires c = record { ascending = (sorted_from_rising c.args.from.now.items c.requires.ascending.0, sorted_from_rising c.args.keys.now c.requires.ascending.1) }

pub returns-clause-ascending : goal.returns-clause-ascending
returns-clause-ascending c = subst IsStrictlyIncreasing (sym c.leave_others.ensures) (without_rises c.args.keys.now c.args.from.now.items c.requires.ascending.0)
