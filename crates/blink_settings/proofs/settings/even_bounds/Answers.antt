use Rattle.std.proofs.Common.{◌≡◌, ◌-◌, ◌*◌, ◌/◌, ◌^◌, ◌∙◌, ℕ, map, ap, sym, arith}
use Rattle.std.specs.List.{range_with_len}
use Rattle.std.specs.Vec.{vec_len}
use Rattle.std.proofs.lemmas.List.FromFn.{map-range_with_len_more}
use Rattle.std.proofs.lemmas.Nat.{mul-le}
use Rattle.blink_settings.proofs.settings.even_bounds.Goals as goal

-- one range more
pub loop-number-preserved : goal.loop-number-preserved
loop-number-preserved c =
    let so_far = c.loop-number.invariant in
    record {
      within = omega (arith, c.loop-number-test.true);
      counted = omega (arith, so_far.counted, c.push_reserved.ensures.len);
      bounds = c.push_reserved.ensures.items ∙ rw so_far.bounds (rw c.push_reserved.ensures.len (sym (map-range_with_len_more (λ number. number * ((2 ^ 64 - 1) / c.from-width.result)) 1 (vec_len c.loop-number.bounds) c.loop-number.number (omega (arith, so_far.counted)))));
      room = omega (arith, so_far.room, c.push_reserved.ensures.capacity);
    }

-- a bound is no more than the width of all ranges together
pub overflow_mul-number : goal.overflow_mul-number
overflow_mul-number c =
    let width = (2 ^ 64 - 1) / c.from-width.result in
    let below = mul-le c.loop-number.number width c.from-width.result width (omega (arith, c.loop-number-test.true)) (omega arith) in
    omega (arith, below)

pub push_reserved-requires : goal.push_reserved-requires
push_reserved-requires c = omega (arith, c.loop-number.invariant.counted, c.loop-number.invariant.room, c.loop-number-test.true)

pub returns-clause-bounds : goal.returns-clause-bounds
returns-clause-bounds c =
    let many : vec_len c.loop-number.bounds ≡ c.args.workers - 1 = omega (arith, c.loop-number.invariant.counted, c.loop-number.invariant.within, c.loop-number-test.false) in
    c.loop-number.invariant.bounds
    ∙ ap (λ (count : ℕ). map (λ number. number * ((2 ^ 64 - 1) / c.from-width.result)) (range_with_len 1 count)) many
    ∙ ap (λ (workers : ℕ). map (λ number. number * ((2 ^ 64 - 1) / workers)) (range_with_len 1 (c.args.workers - 1))) c.from-width.ensures

pub returns-clause-count : goal.returns-clause-count
returns-clause-count c = omega (arith, c.loop-number.invariant.counted, c.loop-number.invariant.within, c.loop-number-test.false)
