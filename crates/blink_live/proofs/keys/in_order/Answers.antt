use Rattle.blink_live.proofs.dealt.KeysInOrder.{rises_without_again, same_without_again}
use Rattle.blink_live.proofs.keys.in_order.Goals as goal

pub returns-then-not-ascends-clause-ascending : goal.returns-then-not-ascends-clause-ascending
returns-then-not-ascends-clause-ascending c = rises_without_again c.sort_unstable.new.self.items c.dedup.new.self.items c.sort_unstable.ensures.sorted c.dedup.ensures.filtered

pub returns-then-not-ascends-clause-same : goal.returns-then-not-ascends-clause-same
returns-then-not-ascends-clause-same c =
    same_without_again c.args.keys.items c.sort_unstable.new.self.items c.dedup.new.self.items c.sort_unstable.ensures.permutation c.dedup.ensures.filtered
