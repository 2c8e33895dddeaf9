use Rattle.std.proofs.Common.{◌≡◌, ℕ, ◌<◌, List, length, refl, sym, ◌∙◌, true≢false, arith}
use Rattle.std.specs.Prelude.{slice_index}
use Rattle.std.proofs.lemmas.List.Filters.{FiltersInPlace-all}
use Rattle.blink_live.proofs.retired.KeysWithout.{isnt_there_by, is_there, keeps_on, passed_reached, removes, same_at, below_reached}
use Rattle.blink_live.proofs.keys.keep_others.Goals as goal

pub loop-place-preserved-then-stands_at : goal.loop-place-preserved-then-stands_at
loop-place-preserved-then-stands_at c =
    let keys : List ℕ = c.args.keys.now in
    let xs : List ℕ = c.args.from.now in
    let ys : List ℕ = c.loop-place.from in
    let place : ℕ = c.loop-place.place in
    let so_far = c.loop-place.invariant in
    let long = so_far.filters.long in
    let less : place < length ys = omega (arith, c.loop-place-test.true, long) in
    let key : ℕ = slice_index ys place in
    let same : slice_index xs place ≡ key = sym (same_at keys xs ys c.loop-place.kept place so_far.filters less) in
    let here = c.stands_at.ensures.0 c.if-stands_at.true in record {
      filters = removes keys xs ys c.loop-place.kept place key so_far.filters less refl (is_there keys key c.reach-next.result c.reach-next.ensures.in_range.1 here.0 here.1);
      inside = c.reach-next.ensures.in_range.1;
      passed = passed_reached keys xs place c.loop-place.next c.reach-next.result key c.requires.ascending.0 same (omega (arith, less, long)) so_far.passed c.reach-next.ensures;
    }

pub loop-place-preserved : goal.loop-place-preserved
loop-place-preserved c =
    let keys : List ℕ = c.args.keys.now in
    let xs : List ℕ = c.args.from.now in
    let ys : List ℕ = c.loop-place.from in
    let place : ℕ = c.loop-place.place in
    let so_far = c.loop-place.invariant in
    let long = so_far.filters.long in
    let less : place < length ys = omega (arith, c.loop-place-test.true, long) in
    let key : ℕ = slice_index ys place in
    let same : slice_index xs place ≡ key = sym (same_at keys xs ys c.loop-place.kept place so_far.filters less) in
    let below = below_reached keys xs place c.loop-place.next c.reach-next.result key same (omega (arith, less, long)) so_far.passed c.reach-next.ensures in record {
      filters = keeps_on keys xs ys c.loop-place.kept place key so_far.filters less refl
          (isnt_there_by keys key c.reach-next.result c.reach-next.ensures.in_range.1 c.requires.ascending.1 below c.reach-next.ensures.reached (λ there. true≢false (sym (c.stands_at.ensures.1 there) ∙ c.if-stands_at.false)));
      inside = c.reach-next.ensures.in_range.1;
      passed = passed_reached keys xs place c.loop-place.next c.reach-next.result key c.requires.ascending.0 same (omega (arith, less, long)) so_far.passed c.reach-next.ensures;
    }

pub returns : goal.returns
returns c = FiltersInPlace-all c.loop-place.invariant.filters (omega (arith, c.loop-place-test.false))
