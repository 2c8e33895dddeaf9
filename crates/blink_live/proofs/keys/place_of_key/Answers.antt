use Rattle.std.proofs.Common.{◌≡◌, ℕ, inl, inr, subst, arith}
use native.Mathlib.Decide.{dec_le}
use Rattle.blink_live.specs.KeyTest.{IsWindow}
use Rattle.blink_live.proofs.dealt.KeyIsFound.{one_less}
use Rattle.blink_live.proofs.keys.place_of_key.Goals as goal

pub loop-size-preserved : goal.loop-size-preserved
loop-size-preserved c =
    let more = c.loop-size-test.true in
    let none = c.loop-size.invariant.none in record {
      window = one_less c.args.keys.now c.args.key c.requires.ascending c.loop-size.first c.loop-size.size _ c.loop-size.invariant.window more c.reached-first.ensures;
      none = (λ z. absurd (omega (arith, more, z)), λ z. absurd (let gone = none.1 z in omega (arith, more, gone)));
    }

pub returns : goal.returns
returns c =
    let fewer = c.loop-size-test.false in
    elim (dec_le 1 c.loop-size.size) [
      | yes one ↦ inl (subst (λ (n : ℕ). IsWindow c.args.keys.now c.args.key c.loop-size.first n) (let e : c.loop-size.size ≡ 1 = omega (arith, one, fewer) in e) c.loop-size.invariant.window)
      | no zero ↦ inr (c.loop-size.invariant.none.0 (omega (arith, zero)))
    ]
