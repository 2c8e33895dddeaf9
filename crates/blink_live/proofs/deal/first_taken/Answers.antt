use Rattle.std.proofs.Common.{rules, inl, inr, true≢false, sym, ◌∙◌, subst}
use Rattle.blink_live.proofs.dealt.KeysMet.{NoneBefore, first_at, none_more, none_at_all}
use Rattle.blink_live.proofs.deal.first_taken.Goals.{then-meets_again-via-then-meets_again, then-meets_again-via-else-meets_again+then-is_among}
use Rattle.blink_live.proofs.deal.first_taken.Goals as goal

pub returns-then-meets_again-clause-first : goal.returns-then-meets_again-clause-first
returns-then-meets_again-clause-first c = first_at c.args.taken.now c.args.keys.now c.loop-place.place (search rules) c.loop-place.invariant.1 (elim c.then-meets_again.branch [
  | then-meets_again-via-then-meets_again w ↦ inl (c.meets_again.ensures.again.0 w.if-meets_again.true)
  | then-meets_again-via-else-meets_again+then-is_among w ↦ inr (w.is_among.ensures.0 w.if-is_among.true)
])

pub loop-place-preserved : goal.loop-place-preserved
loop-place-preserved c = (
  c.meets_again.ensures.met,
  none_more c.args.taken.now c.args.keys.now c.loop-place.place (search rules) c.loop-place.invariant.1
      (λ met. true≢false (sym (c.meets_again.ensures.again.1 met) ∙ c.if-meets_again.false))
      (λ was. true≢false (sym (c.is_among.ensures.1 was) ∙ c.if-is_among.false)),
)

pub returns-clause-none : goal.returns-clause-none
returns-clause-none c = none_at_all c.args.taken.now c.args.keys.now (subst (NoneBefore c.args.taken.now c.args.keys.now) (search rules) c.loop-place.invariant.1)
