use Rattle.std.proofs.Common.{refl, sym, ◌∙◌, true≢false}
use Rattle.blink_live.proofs.changed.LatchesAreLeft.{waits_at}
use Rattle.blink_live.proofs.live.Live.go_on.Goals as goal

pub take_steps-requires-clause-waits : goal.take_steps-requires-clause-waits
take_steps-requires-clause-waits c =
    let begun = c.requires.under_way in
    let now = c.leave.ensures.under_way begun.0 begun.1 begun.2 in
    waits_at c.leave.new.machine c.leave.new.machine.state refl now.updating.past_descent c.leave.ensures.no_latch (λ ends. true≢false (sym (c.ended.ensures.1 ends) ∙ c.if-ended.false))
