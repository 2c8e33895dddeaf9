use Rattle.std.proofs.Common.{ℕ, ◌+◌, ◌<◌, ◌≤◌, Option, [], ◌++◌, refl, ◌∙◌, subst, arith, length-append}
use Rattle.std.specs.Prelude.{IfSome}
use Rattle.blink_live.specs.Scanning.{HasScanned, stop_of}
use Rattle.blink_live.proofs.found.FindsOfSeveral.{searched_seat}
use Rattle.blink_live.proofs.scanned.PlacesAreFilled.{filled_behind, filled_none}
use Rattle.blink_live.proofs.scanned.ReportsGoOn.{scanned_none, scanned_on}
use Rattle.blink_live.proofs.live.Live.scan_by.Goals as goal

pub returns-then-lo-hi-clause-scanned : goal.returns-then-lo-hi-clause-scanned
returns-then-lo-hi-clause-scanned c =
    let none = c.if-lo-hi.true in
    ([], filled_none c.args.into.now, refl, scanned_none c.args.lo (c.args.hi + 1) c.args.seat.now.me c.requires.idle (omega (arith, none)))

pub loop-filled-init : goal.loop-filled-init
loop-filled-init c = record {
  same_table = (refl, refl);
  from = (omega arith, c.if-lo-hi.false);
  noted = tt;
  scanned = ([], filled_none c.args.into.now, refl, scanned_none c.args.lo c.args.lo c.args.seat.now.me c.requires.idle (omega arith));
}

pub scan_leaf-right-requires-clause-seat : goal.scan_leaf-right-requires-clause-seat
scan_leaf-right-requires-clause-seat c =
    let before = c.loop-filled.invariant in
    searched_seat c.args.self.now c.args.seat.now.table_id c.loop-filled.seat.table_id c.args.seat.now.me c.loop-filled.seat.me before.same_table.0 before.scanned.3.searched c.requires.seat

pub scan_leaf-right-requires-clause-idle : goal.scan_leaf-right-requires-clause-idle
scan_leaf-right-requires-clause-idle c = c.loop-filled.invariant.scanned.3.searched.idle

pub loop-filled-preserved : goal.loop-filled-preserved
loop-filled-preserved c =
    let before = c.loop-filled.invariant in
    let was = before.scanned in
    let run = c.scan_leaf-right.ensures in
    let more = run.scanned in
    let from = before.from in
    let further = subst (λ (o : Option ℕ). IfSome o (λ next. (c.loop-filled.from < next) × (next ≤ c.args.hi))) c.in-Some.is run.further in
    let both = length-append was.0 more.0 in
    let count = was.2 in
    let count_more = more.2 in record {
      same_table = (run.same_table.0 ∙ before.same_table.0, run.same_table.1 ∙ before.same_table.1);
      from = (omega (arith, from, further), further.1);
      noted = run.right;
      scanned = (
        was.0 ++ more.0,
        filled_behind was.0 more.0 c.args.into.now c.loop-filled.into c.scan_leaf-right.new.into c.loop-filled.filled was.1 was.2 more.1,
        omega (arith, both, count, count_more),
        scanned_on c.args.lo c.loop-filled.from c.in-Some.next was.0 more.0 c.args.seat.now.me c.loop-filled.seat.me c.scan_leaf-right.new.seat.me was.3
            (subst (λ (o : Option ℕ). HasScanned c.loop-filled.from (stop_of c.args.hi o) more.0 c.loop-filled.seat.me c.scan_leaf-right.new.seat.me) c.in-Some.is more.3) from.0 (omega (arith, further)),
      );
    }

pub returns-in-None-clause-scanned : goal.returns-in-None-clause-scanned
returns-in-None-clause-scanned c =
    let before = c.loop-filled.invariant in
    let was = before.scanned in
    let more = c.scan_leaf-right.ensures.scanned in
    let from = before.from in
    let both = length-append was.0 more.0 in
    let count = was.2 in
    let count_more = more.2 in (
      was.0 ++ more.0,
      filled_behind was.0 more.0 c.args.into.now c.loop-filled.into c.scan_leaf-right.new.into c.loop-filled.filled was.1 was.2 more.1,
      omega (arith, both, count, count_more),
      scanned_on c.args.lo c.loop-filled.from (c.args.hi + 1) was.0 more.0 c.args.seat.now.me c.loop-filled.seat.me c.scan_leaf-right.new.seat.me was.3
          (subst (λ (o : Option ℕ). HasScanned c.loop-filled.from (stop_of c.args.hi o) more.0 c.loop-filled.seat.me c.scan_leaf-right.new.seat.me) c.in-None.is more.3) from.0 (omega (arith, from)),
    )
