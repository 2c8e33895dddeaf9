use Rattle.std.proofs.Common.{ℕ, ◌+◌, ◌*◌, ◌/◌, ◌≤◌, arith}
use Rattle.blink_live.proofs.dealt.KeyIsFound.{narrowed, whole}
use Rattle.blink_live.proofs.keys.window_of_three.Goals as goal

-- at most three quarters are passed
at_most : (quarter passed : ℕ) → passed ≤ 3 → quarter * passed ≤ 3 * quarter
at_most quarter passed few = grind arith

pub loop-size-init : goal.loop-size-init
loop-size-init c = record { window = whole c.args.keys.now c.args.key; none = (λ z. z, λ z. z) }

pub loop-size-preserved : goal.loop-size-preserved
loop-size-preserved c =
    let more = c.loop-size-test.true in
    let none = c.loop-size.invariant.none in record {
      window = narrowed c.args.keys.now c.args.key c.requires.ascending c.loop-size.first c.loop-size.size (c.loop-size.size / 4) c.loop-size.invariant.window (omega arith) (omega (arith, more)) _ _ _ c.reached.ensures c.reached-in-loop-size.ensures c.reached-in-loop-size-2.ensures;
      none = (λ z. absurd (omega (arith, more, z)), λ z. absurd (let gone = none.1 z in omega (arith, more, gone)));
    }

pub overflow_add-first : goal.overflow_add-first
overflow_add-first c = omega arith

pub reached-requires : goal.reached-requires
reached-requires c = omega arith

pub overflow_mul-quarter : goal.overflow_mul-quarter
overflow_mul-quarter c = omega arith

pub overflow_add-first-in-loop-size : goal.overflow_add-first-in-loop-size
overflow_add-first-in-loop-size c = omega arith

pub reached-requires-in-loop-size : goal.reached-requires-in-loop-size
reached-requires-in-loop-size c = omega arith

pub overflow_add-passed : goal.overflow_add-passed
overflow_add-passed c = omega arith

pub overflow_mul-quarter-in-loop-size : goal.overflow_mul-quarter-in-loop-size
overflow_mul-quarter-in-loop-size c = omega arith

pub overflow_add-first-in-loop-size-2 : goal.overflow_add-first-in-loop-size-2
overflow_add-first-in-loop-size-2 c = omega arith

pub reached-requires-in-loop-size-2 : goal.reached-requires-in-loop-size-2
reached-requires-in-loop-size-2 c = omega arith

pub overflow_add-passed-in-loop-size : goal.overflow_add-passed-in-loop-size
overflow_add-passed-in-loop-size c = omega arith

pub overflow_mul-first : goal.overflow_mul-first
overflow_mul-first c =
    let few = at_most (c.loop-size.size / 4) (c.reached.result + c.reached-in-loop-size.result + c.reached-in-loop-size-2.result) (omega arith) in
    omega (arith, few)

pub overflow_add-first-in-loop-size-3 : goal.overflow_add-first-in-loop-size-3
overflow_add-first-in-loop-size-3 c =
    let few = at_most (c.loop-size.size / 4) (c.reached.result + c.reached-in-loop-size.result + c.reached-in-loop-size-2.result) (omega arith) in
    omega (arith, few)

pub overflow_mul-size : goal.overflow_mul-size
overflow_mul-size c = omega arith

pub overflow_sub-size : goal.overflow_sub-size
overflow_sub-size c = omega arith

pub loop-size-smaller : goal.loop-size-smaller
loop-size-smaller c = omega arith
