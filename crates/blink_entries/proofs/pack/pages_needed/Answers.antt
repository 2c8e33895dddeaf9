use Rattle.std.proofs.Common.{◌≡◌, ◌+◌, [], ◌∷◌, subst, arith}
use Rattle.std.specs.List.{sum}
use Rattle.blink_entries.specs.Packed.{NeedsPages}
use Rattle.blink_entries.proofs.packed.FewestPages.{half_at_most, more_levels, needs_from, no_level, sum-cons, twice_at_most}
use Rattle.blink_entries.proofs.pack.pages_needed.Goals as goal

pub loop-level-init : goal.loop-level-init
loop-level-init c = record {
  needs = needs_from c.args.fan c.args.count c.fewest-level.result c.fewest-level.ensures;
  some = c.fewest-level.ensures.some;
  bounded = twice_at_most c.args.fan c.args.count c.fewest-level.result c.requires c.fewest-level.ensures;
}

pub overflow_add-all : goal.overflow_add-all
overflow_add-all c =
    let half = half_at_most c.args.fan c.loop-level.level c.fewest-level-in-loop-level.result c.requires c.fewest-level-in-loop-level.ensures c.loop-level-test.true in
    let bounded = c.loop-level.invariant.bounded in let range = c.ranges.count.fits in
    omega (arith, half, bounded, range)

pub loop-level-preserved : goal.loop-level-preserved
loop-level-preserved c =
    let level = c.loop-level.level in let next = c.fewest-level-in-loop-level.result in
    let half = half_at_most c.args.fan level next c.requires c.fewest-level-in-loop-level.ensures c.loop-level-test.true in
    let bounded = c.loop-level.invariant.bounded in
    record {
      needs = λ above over.
          let needs = c.loop-level.invariant.needs (next ∷ above) (more_levels level next above c.loop-level-test.true c.fewest-level-in-loop-level.ensures over) in
          let total : c.loop-level.all + sum (next ∷ above) ≡ c.loop-level.all + next + sum above = let is = sum-cons next above in omega (arith, is) in
          subst (NeedsPages c.args.fan c.args.count) total needs;
      some = c.fewest-level-in-loop-level.ensures.some;
      bounded = omega (arith, half, bounded);
    }

pub loop-level-smaller : goal.loop-level-smaller
loop-level-smaller c =
    let half = half_at_most c.args.fan c.loop-level.level c.fewest-level-in-loop-level.result c.requires c.fewest-level-in-loop-level.ensures c.loop-level-test.true in
    let some = c.fewest-level-in-loop-level.ensures.some in
    omega (arith, half, some)

pub returns : goal.returns
returns c =
    let some = c.loop-level.invariant.some in let test = c.loop-level-test.false in
    let needs = c.loop-level.invariant.needs [] (no_level c.loop-level.level (omega (arith, some, test))) in
    let total : c.loop-level.all + sum [] ≡ c.loop-level.all = omega arith in
    subst (NeedsPages c.args.fan c.args.count) total needs
