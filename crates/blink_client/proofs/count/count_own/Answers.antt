use Rattle.std.proofs.Common.{◌≡◌, ◌+◌, ◌-◌, ℕ, Option, inl, length, ap, ◌∙◌, subst, arith, take}
use Rattle.std.specs.Prelude.{IfSome}
use Rattle.std.specs.List.{AllByRecursion}
use Rattle.blink_live.specs.{IsBetween, StoppedFull, share_of, stop_of}
use Rattle.blink_client.specs.Counted.{present}
use Rattle.blink_client.proofs.ReportsAreCounted.{own_scan, present_at_most, report_long, same_on, stopped_behind, stops_inside}
use Rattle.blink_client.proofs.count.count_own.Goals as goal

pub overflow_add-count : goal.overflow_add-count
overflow_add-count c =
    let before = c.loop-from.invariant in
    let scan = c.scan-scanned.ensures in
    let stop : ℕ = stop_of (c.args.end - 1) c.scan-scanned.result.next in
    let inside = stops_inside c.loop-from.from c.args.end _ c.scan-scanned.result.filled c.scan-scanned.result.next scan.stopped c.loop-from-test.true in
    let is : c.loop-from.count + c.scan-scanned.result.filled ≡ present (share_of c.args.pass.now) c.args.lo (stop - c.args.lo) =
    own_scan c.args.pass.now c.loop-from.pass c.args.lo c.loop-from.from c.args.end c.loop-from.count c.scan-scanned.result.filled (length c.loop-from.into) c.scan-scanned.result.next c.scan-scanned.new.into
    before.same c.requires.own_range before.first c.loop-from-test.true scan.stopped scan.filled c.scan-scanned.auto.into scan.report scan.own before.counted in
    let most = present_at_most (share_of c.args.pass.now) c.args.lo (stop - c.args.lo) in
    let fits = c.ranges.end.fits in
    let last = inside.1 in
    omega (arith, is, most, fits, last)

pub loop-from-preserved : goal.loop-from-preserved
loop-from-preserved c =
    let before = c.loop-from.invariant in
    let scan = c.scan-scanned.ensures in
    let stopped = subst (λ (o : Option ℕ). IfSome o (StoppedFull c.loop-from.from (c.args.end - 1) (length c.loop-from.into) c.scan-scanned.result.filled)) c.in-Some.is scan.stopped in
    let inside = c.loop-from-test.true in
    let first = before.first in
    let low = stopped.1 in
    let high = stopped.2 in record {
      places = c.scan-scanned.auto.into ∙ before.places;
      its_own = (scan.same.same_table ∙ before.its_own.0, scan.same.same_plan ∙ before.its_own.1);
      same = same_on c.args.pass.now c.loop-from.pass c.scan-scanned.new.pass before.same scan.same;
      first = omega (arith, first, low);
      last = inl (omega (arith, high, inside));
      counted =
          subst (λ (o : Option ℕ). c.loop-from.count + c.scan-scanned.result.filled ≡ present (share_of c.args.pass.now) c.args.lo (stop_of (c.args.end - 1) o - c.args.lo)) c.in-Some.is
          (own_scan c.args.pass.now c.loop-from.pass c.args.lo c.loop-from.from c.args.end c.loop-from.count c.scan-scanned.result.filled (length c.loop-from.into) c.scan-scanned.result.next c.scan-scanned.new.into
          before.same c.requires.own_range before.first c.loop-from-test.true scan.stopped scan.filled c.scan-scanned.auto.into scan.report scan.own before.counted);
    }

pub loop-from-smaller : goal.loop-from-smaller
loop-from-smaller c =
    let scan = c.scan-scanned.ensures in
    let stopped = subst (λ (o : Option ℕ). IfSome o (StoppedFull c.loop-from.from (c.args.end - 1) (length c.loop-from.into) c.scan-scanned.result.filled)) c.in-Some.is scan.stopped in
    let long = report_long c.scan-scanned.result.filled _ c.scan-scanned.new.into scan.filled c.scan-scanned.auto.into in
    let places = c.loop-from.invariant.places in
    let full = stopped.0 in
    let behind = stopped_behind (take c.scan-scanned.result.filled c.scan-scanned.new.into) c.loop-from.from c.in-Some.next
    (subst (λ (o : Option ℕ). AllByRecursion (IsBetween c.loop-from.from (stop_of (c.args.end - 1) o)) (take c.scan-scanned.result.filled c.scan-scanned.new.into)) c.in-Some.is scan.report.between) (omega (arith, long, full, places)) in
    let inside = c.loop-from-test.true in
    omega (arith, behind, inside)

pub returns-in-None-clause-count : goal.returns-in-None-clause-count
returns-in-None-clause-count c =
    let before = c.loop-from.invariant in
    let scan = c.scan-scanned.ensures in
    let inside = c.loop-from-test.true in
    let last : stop_of (c.args.end - 1) c.scan-scanned.result.next - c.args.lo ≡ c.args.end - c.args.lo = ap (λ (o : Option ℕ). stop_of (c.args.end - 1) o - c.args.lo) c.in-None.is ∙ (let e : c.args.end - 1 + 1 - c.args.lo ≡ c.args.end - c.args.lo = omega (arith, inside) in e) in
    own_scan c.args.pass.now c.loop-from.pass c.args.lo c.loop-from.from c.args.end c.loop-from.count c.scan-scanned.result.filled (length c.loop-from.into) c.scan-scanned.result.next c.scan-scanned.new.into
    before.same c.requires.own_range before.first c.loop-from-test.true scan.stopped scan.filled c.scan-scanned.auto.into scan.report scan.own before.counted
    ∙ ap (present (share_of c.args.pass.now) c.args.lo) last
