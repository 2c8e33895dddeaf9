use Rattle.std.proofs.Common.{refl, sym, ◌∙◌, subst, true≢false, rules}
use Rattle.blink_live.specs.Pendings.{IsWaiting}
use Rattle.blink_live.proofs.changed.LatchesAreLeft.{past_waiting, waits_at}
use Rattle.blink_live.proofs.live.Live.take_steps.Goals as goal

pub turn-requires-clause-under_way : goal.turn-requires-clause-under_way
turn-requires-clause-under_way c =
    let is = c.requires.under_way in
    (is.0, is.1, c.loop.invariant.under_way is.0 is.1 is.2)

pub turn-requires-clause-goes_on : goal.turn-requires-clause-goes_on
turn-requires-clause-goes_on c = past_waiting _ c.loop.invariant.waits

-- a step in vain
pub returns-then-left-eq0-clause-under_way : goal.returns-then-left-eq0-clause-under_way
returns-then-left-eq0-clause-under_way c op first is = c.turn.ensures.under_way op first (c.loop.invariant.under_way op first is)

pub returns-then-left-eq0-clause-waits : goal.returns-then-left-eq0-clause-waits
returns-then-left-eq0-clause-waits c = subst IsWaiting (sym c.if-not-turn.ensures.waits) c.loop.invariant.waits

pub loop-preserved-then-not-turn : goal.loop-preserved-then-not-turn
loop-preserved-then-not-turn c = record {
  under_way = λ op first is. c.turn.ensures.under_way op first (c.loop.invariant.under_way op first is);
  waits = subst IsWaiting (sym c.if-not-turn.ensures.waits) c.loop.invariant.waits;
}

-- a step that moved, and those until the latch is let go
pub leave-requires : goal.leave-requires
leave-requires c =
    let is = c.requires.under_way in
    record { under_way = (is.0, is.1, c.turn.ensures.under_way is.0 is.1 (c.loop.invariant.under_way is.0 is.1 is.2)) }

pub returns-then-ended-clause-under_way : goal.returns-then-ended-clause-under_way
returns-then-ended-clause-under_way c op first is = c.leave.ensures.under_way op first (c.turn.ensures.under_way op first (c.loop.invariant.under_way op first is))

pub loop-preserved : goal.loop-preserved
loop-preserved c =
    let begun = c.requires.under_way in
    let now = c.leave.ensures.under_way begun.0 begun.1 (c.turn.ensures.under_way begun.0 begun.1 (c.loop.invariant.under_way begun.0 begun.1 begun.2)) in
    record {
      under_way = λ op first is. c.leave.ensures.under_way op first (c.turn.ensures.under_way op first (c.loop.invariant.under_way op first is));
      waits = waits_at c.leave.new.machine c.leave.new.machine.state refl now.updating.past_descent c.leave.ensures.no_latch (λ ends. true≢false (sym (c.ended.ensures.1 ends) ∙ c.if-ended.false));
    }

pub returns-then-left-eq0-clause-ended : goal.returns-then-left-eq0-clause-ended
returns-then-left-eq0-clause-ended c = search rules
