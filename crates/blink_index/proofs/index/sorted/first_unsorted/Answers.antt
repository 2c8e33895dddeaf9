use Rattle.std.proofs.Common.{◌-◌, get_or, take, arith}
use Rattle.std.proofs.lemmas.Option.{slice_get-get_or}
use Rattle.blink_operation.specs.{entry}
use Rattle.blink_entries.proofs.Offered.{all_rise, ascending_of, rising_first, rising_next}
use Rattle.blink_index.proofs.index.sorted.first_unsorted.Goals as goal

pub loop-place-init : goal.loop-place-init
loop-place-init c = record { rising = λ d inside. rising_first c.args.entries.now d inside }

pub loop-place-preserved : goal.loop-place-preserved
loop-place-preserved c = record {
  rising = rising_next c.args.entries.now c.loop-place.place (entry 0 0) c.loop-place.auto.place c.loop-place-test.true c.if-entries-place.false c.loop-place.invariant.rising;
}

pub returns-then-entries-place-clause-unsorted : goal.returns-then-entries-place-clause-unsorted
returns-then-entries-place-clause-unsorted c =
    let entries = c.args.entries.now in let place = c.loop-place.place in
    let inside = c.loop-place-test.true in let some = c.loop-place.auto.place in
    record {
      before = get_or entries (place - 1) (entry 0 0);
      here = get_or entries place (entry 0 0);
      some = some;
      ascending = ascending_of (take place entries) _ (c.loop-place.invariant.rising (entry 0 0) (omega (arith, inside)));
      there_before = slice_get-get_or entries (place - 1) (entry 0 0) (omega (arith, inside, some));
      there = slice_get-get_or entries place (entry 0 0) inside;
      not_above = c.if-entries-place.true;
    }

pub returns-clause-rising : goal.returns-clause-rising
returns-clause-rising c = all_rise c.args.entries.now c.loop-place.place c.loop-place-test.false c.loop-place.auto.place-end c.loop-place.invariant.rising

pub returns-clause-ascending : goal.returns-clause-ascending
returns-clause-ascending c = ascending_of c.args.entries.now _ (returns-clause-rising c)
