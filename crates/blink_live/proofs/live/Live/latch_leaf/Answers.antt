use Rattle.std.proofs.Common.{refl}
use Rattle.blink_live.specs.Straight.{wanting}
use Rattle.blink_live.proofs.changed.UpdatesGoOn as on
use Rattle.blink_live.proofs.live.Live.latch_leaf.Goals as goal

pub returns-clause-got : goal.returns-clause-got
returns-clause-got c got first is =
    on.after_try is c.take_latch.ensures.same c.take_latch.result c.args.descent.now.leaf refl (λ e. refl) (λ e. c.take_latch.ensures.got e (wanting c.args.self.now.fan c.args._op c.args.descent.now) (on.is_its_operation is (λ ends. absurd (cc))) refl) (λ none. absurd (none got))
