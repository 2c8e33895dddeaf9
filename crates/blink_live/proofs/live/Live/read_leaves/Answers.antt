use Rattle.std.proofs.Common.{◌≡◌, ℕ, ◌+◌, ◌<◌, ◌≤◌, Option, Some, List, ◌++◌, sym, ◌∙◌, subst, arith}
use Rattle.std.specs.Prelude.{IfSome}
use Rattle.blink_batch.specs.declared.Entry.{Entry}
use Rattle.blink_live.specs.Scanning.{IsCopied, stop_of}
use Rattle.blink_live.specs.Snapshots.{IsSameBesideRow}
use Rattle.blink_live.specs.Views.{SeatState, known_of}
use Rattle.blink_live.proofs.found.FindsOfSeveral.{searched_seat}
use Rattle.blink_live.proofs.looked.SnapshotsGoOn.{copied_on, is_snapshot, row_twice, searched_row}
use Rattle.blink_live.proofs.scanned.PlacesAreFilled.{first_places}
use Rattle.blink_live.proofs.live.Live.read_leaves.Goals as goal

-- the entries of one leaf more
copied_so_far : (first then : SeatState) (lo from stop : ℕ) (entries more filled : List Entry) → IsSameBesideRow first then → IsCopied (known_of first.0) lo from entries → IsCopied (known_of then.0) from stop more → filled ≡ more → lo ≤ from → from ≤ stop
    → IsCopied (known_of first.0) lo stop (entries ++ filled)
copied_so_far first then lo from stop entries more filled same before copied is begins ends =
    subst (λ (es : List Entry). IsCopied (known_of first.0) lo stop (entries ++ es)) (sym is)
    (copied_on (known_of first.0) lo from stop entries more before (subst (λ (x : SeatState). IsCopied (known_of x.0) from stop more) same copied) begins ends)

pub read_again-requires-clause-seat : goal.read_again-requires-clause-seat
read_again-requires-clause-seat c =
    let before = c.loop-leaf.invariant in
    searched_seat c.args.self.now c.args.seat.now.table_id c.loop-leaf.seat.table_id c.args.seat.now.me c.loop-leaf.seat.me before.same_table.0 (searched_row c.args.seat.now.me c.loop-leaf.seat.me c.requires.idle before.same) c.requires.seat

pub read_again-requires-clause-idle : goal.read_again-requires-clause-idle
read_again-requires-clause-idle c = (searched_row c.args.seat.now.me c.loop-leaf.seat.me c.requires.idle c.loop-leaf.invariant.same).idle

pub read_again-requires-clause-marked : goal.read_again-requires-clause-marked
read_again-requires-clause-marked c = subst (λ (x : SeatState). x.0.look.marked ≡ Some x.0.seen) (sym c.loop-leaf.invariant.same) c.requires.marked

pub copy_leaf-run-requires-clause-seat : goal.copy_leaf-run-requires-clause-seat
copy_leaf-run-requires-clause-seat c =
    let before = c.loop-leaf.invariant in
    let again = c.read_again.ensures in
    let both = row_twice c.args.seat.now.me c.loop-leaf.seat.me c.read_again.new.seat.me before.same again.same in
    searched_seat c.args.self.now c.args.seat.now.table_id c.read_again.new.seat.table_id c.args.seat.now.me c.read_again.new.seat.me (again.same_table.0 ∙ before.same_table.0) (searched_row c.args.seat.now.me c.read_again.new.seat.me c.requires.idle both) c.requires.seat

pub returns-then-not-read_again-clause-same : goal.returns-then-not-read_again-clause-same
returns-then-not-read_again-clause-same c = row_twice c.args.seat.now.me c.loop-leaf.seat.me c.read_again.new.seat.me c.loop-leaf.invariant.same c.read_again.ensures.same

pub returns-in_err-extend_from_slice-clause-same : goal.returns-in_err-extend_from_slice-clause-same
returns-in_err-extend_from_slice-clause-same c =
    subst (IsSameBesideRow c.args.seat.now.me) (sym c.copy_leaf-run.ensures.same.2)
    (row_twice c.args.seat.now.me c.loop-leaf.seat.me c.read_again.new.seat.me c.loop-leaf.invariant.same c.read_again.ensures.same)

pub returns-in-None-clause-same : goal.returns-in-None-clause-same
returns-in-None-clause-same c =
    subst (IsSameBesideRow c.args.seat.now.me) (sym c.copy_leaf-run.ensures.same.2)
    (row_twice c.args.seat.now.me c.loop-leaf.seat.me c.read_again.new.seat.me c.loop-leaf.invariant.same c.read_again.ensures.same)

pub loop-leaf-preserved : goal.loop-leaf-preserved
loop-leaf-preserved c =
    let before = c.loop-leaf.invariant in
    let again = c.read_again.ensures in
    let run = c.copy_leaf-run.ensures in
    let copied = run.copied in
    let both = row_twice c.args.seat.now.me c.loop-leaf.seat.me c.read_again.new.seat.me before.same again.same in
    let range = before.range in
    let further = subst (λ (o : Option ℕ). IfSome o (λ next. (c.loop-leaf.from < next) × (next ≤ c.args.hi))) c.in-Some.is run.further in
    let more = subst (λ (o : Option ℕ). IsCopied (known_of c.read_again.new.seat.me.0) c.loop-leaf.from (stop_of c.args.hi o) copied.0) c.in-Some.is copied.3 in record {
      same_table = (run.same.0 ∙ (again.same_table.0 ∙ before.same_table.0), run.same.1 ∙ (again.same_table.1 ∙ before.same_table.1));
      same = subst (IsSameBesideRow c.args.seat.now.me) (sym run.same.2) both;
      range = (omega (arith, range, further), further.1);
      copied = subst (λ (es : List Entry). IsCopied (known_of c.args.seat.now.me.0) c.args.lo c.in-Some.next es) (sym c.in_ok-extend_from_slice.ensures.items)
          (copied_so_far c.args.seat.now.me c.read_again.new.seat.me c.args.lo c.loop-leaf.from c.in-Some.next c.loop-leaf.entries.items copied.0 _ both before.copied more
          (first_places copied.0 _ c.copy_leaf-run.new.into c.copy_leaf-run.result.filled copied.1 copied.2) range.0 (omega (arith, further)));
    }

pub returns-in-None-clause-snapshot : goal.returns-in-None-clause-snapshot
returns-in-None-clause-snapshot c =
    let before = c.loop-leaf.invariant in
    let again = c.read_again.ensures in
    let copied = c.copy_leaf-run.ensures.copied in
    let both = row_twice c.args.seat.now.me c.loop-leaf.seat.me c.read_again.new.seat.me before.same again.same in
    let range = before.range in
    let more = subst (λ (o : Option ℕ). IsCopied (known_of c.read_again.new.seat.me.0) c.loop-leaf.from (stop_of c.args.hi o) copied.0) c.in-None.is copied.3 in
    is_snapshot c.args.seat.now.me.0.plan.opening c.args.seat.now.me.0.seen c.args.lo c.args.hi c.extend_from_slice.new.self.items
    (subst (λ (es : List Entry). IsCopied (known_of c.args.seat.now.me.0) c.args.lo (c.args.hi + 1) es) (sym c.in_ok-extend_from_slice.ensures.items)
    (copied_so_far c.args.seat.now.me c.read_again.new.seat.me c.args.lo c.loop-leaf.from (c.args.hi + 1) c.loop-leaf.entries.items copied.0 _ both before.copied more
    (first_places copied.0 _ c.copy_leaf-run.new.into c.copy_leaf-run.result.filled copied.1 copied.2) range.0 (omega (arith, range))))
