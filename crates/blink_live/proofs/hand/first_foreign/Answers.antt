use Rattle.std.proofs.Common.{rules, inl, inr, true≢false, sym, ◌∙◌, subst}
use Rattle.blink_live.proofs.handed.KeysInList.{YoursBefore, first_at, yours_at_all, yours_more}
use Rattle.blink_live.proofs.hand.first_foreign.Goals.{then-meets_again-via-then-meets_again, then-meets_again-via-else-meets_again+then-not-is_among}
use Rattle.blink_live.proofs.hand.first_foreign.Goals as goal

pub returns-then-meets_again-clause-first : goal.returns-then-meets_again-clause-first
returns-then-meets_again-clause-first c = first_at c.args.own.now c.args.keys.now c.loop-place.place (search rules) c.loop-place.invariant.1 (elim c.then-meets_again.branch [
  | then-meets_again-via-then-meets_again w ↦ inl (c.meets_again.ensures.again.0 w.if-meets_again.true)
  | then-meets_again-via-else-meets_again+then-not-is_among w ↦ inr (λ mine. true≢false (sym (w.is_among.ensures.1 mine) ∙ w.if-not-is_among.true))
])

pub loop-place-preserved : goal.loop-place-preserved
loop-place-preserved c = (
  c.meets_again.ensures.met,
  yours_more c.args.own.now c.args.keys.now c.loop-place.place (search rules) c.loop-place.invariant.1
      (λ met. true≢false (sym (c.meets_again.ensures.again.1 met) ∙ c.if-meets_again.false))
      (c.is_among.ensures.0 c.if-not-is_among.false),
)

pub returns-clause-none : goal.returns-clause-none
returns-clause-none c = yours_at_all c.args.own.now c.args.keys.now (subst (YoursBefore c.args.own.now c.args.keys.now) (search rules) c.loop-place.invariant.1)
