use Rattle.std.proofs.Common.{ℕ, ◌+◌, ◌<◌, ◌≤◌, Option, [], refl, sym, ◌∙◌, subst, arith}
use Rattle.std.specs.Prelude.{IfSome}
use Rattle.blink_live.specs.Finding.{HasSearched}
use Rattle.blink_live.specs.Scanning.{IsCopied}
use Rattle.blink_live.specs.ScanningBack.{start_of}
use Rattle.blink_live.specs.Views.{SeatState, known_of}
use Rattle.blink_live.proofs.found.FindsOfSeveral.{can_find, searched_more, searched_once, searched_seat}
use Rattle.blink_live.proofs.scanned.PlacesAreFilled.{filled_none}
use Rattle.blink_live.proofs.scanned.ReportsGoBack.{HasComeBack, come_back_leaf, come_back_none, leaf_more, reported_back}
use Rattle.blink_live.proofs.live.Live.scan_back_by.Goals as goal

pub returns-then-lo-hi-clause-scanned : goal.returns-then-lo-hi-clause-scanned
returns-then-lo-hi-clause-scanned c =
    let none = c.if-lo-hi.true in
    reported_back c.args.lo c.args.hi [] c.args.into.now c.args.into.now 0 c.args.seat.now.me c.args.seat.now.me (filled_none c.args.into.now) refl
    (come_back_none c.args.lo (c.args.hi + 1) c.args.seat.now.me c.requires.idle (omega (arith, none)))

pub loop-filled-init : goal.loop-filled-init
loop-filled-init c = record {
  same_table = (refl, refl);
  from = (c.if-lo-hi.false, omega arith);
  scanned = ([], filled_none c.args.into.now, refl, come_back_none (c.args.hi + 1) (c.args.hi + 1) c.args.seat.now.me c.requires.idle (omega arith));
}

pub come_to_leaf-word-requires-clause-seat : goal.come_to_leaf-word-requires-clause-seat
come_to_leaf-word-requires-clause-seat c =
    let before = c.loop-filled.invariant in
    searched_seat c.args.self.now c.args.seat.now.table_id c.loop-filled.seat.table_id c.args.seat.now.me c.loop-filled.seat.me before.same_table.0 before.scanned.3.searched c.requires.seat

pub come_to_leaf-word-requires-clause-idle : goal.come_to_leaf-word-requires-clause-idle
come_to_leaf-word-requires-clause-idle c = c.loop-filled.invariant.scanned.3.searched.idle.idle

pub come_to_leaf-word-requires-clause-can_begin : goal.come_to_leaf-word-requires-clause-can_begin
come_to_leaf-word-requires-clause-can_begin c = can_find c.loop-filled.from c.loop-filled.seat.me.0 c.loop-filled.invariant.scanned.3.searched.idle

pub copy_leaf_back-run-requires-clause-seat : goal.copy_leaf_back-run-requires-clause-seat
copy_leaf_back-run-requires-clause-seat c =
    let before = c.loop-filled.invariant in
    let come = c.come_to_leaf-word.ensures in
    let at_leaf : SeatState = c.come_to_leaf-word.new.seat.me in
    let found : HasSearched c.loop-filled.seat.me at_leaf = searched_once c.loop-filled.from c.loop-filled.seat.me at_leaf before.scanned.3.searched.idle come.saw come.own come.idle come.same come.same_slots in
    searched_seat c.args.self.now c.args.seat.now.table_id c.come_to_leaf-word.new.seat.table_id c.args.seat.now.me at_leaf (come.same_table.0 ∙ before.same_table.0) (searched_more c.args.seat.now.me c.loop-filled.seat.me at_leaf before.scanned.3.searched found) c.requires.seat

pub loop-filled-preserved : goal.loop-filled-preserved
loop-filled-preserved c =
    let before = c.loop-filled.invariant in
    let was = before.scanned in
    let come = c.come_to_leaf-word.ensures in
    let at_leaf : SeatState = c.come_to_leaf-word.new.seat.me in
    let run = c.copy_leaf_back-run.ensures in
    let more = run.copied in
    let from = before.from in
    let found : HasSearched c.loop-filled.seat.me at_leaf = searched_once c.loop-filled.from c.loop-filled.seat.me at_leaf was.3.searched.idle come.saw come.own come.idle come.same come.same_slots in
    let further = subst (λ (o : Option ℕ). IfSome o (λ next. (c.args.lo ≤ next) × (next < c.loop-filled.from))) c.in-Some.is run.further in
    let copied = subst (λ (o : Option ℕ). IsCopied (known_of at_leaf.0) (start_of c.args.lo o) (c.loop-filled.from + 1) more.0) c.in-Some.is more.3 in
    let leaf : HasComeBack (c.in-Some.next + 1) (c.loop-filled.from + 1) more.0 c.loop-filled.seat.me c.copy_leaf_back-run.new.seat.me =
    subst (HasComeBack (c.in-Some.next + 1) (c.loop-filled.from + 1) more.0 c.loop-filled.seat.me) (sym run.same.2)
    (come_back_leaf (c.in-Some.next + 1) (c.loop-filled.from + 1) more.0 c.loop-filled.seat.me at_leaf found copied) in record {
      same_table = (run.same.0 ∙ come.same_table.0 ∙ before.same_table.0, run.same.1 ∙ come.same_table.1 ∙ before.same_table.1);
      from = (further.0, omega (arith, from, further));
      scanned = leaf_more (c.in-Some.next + 1) (c.loop-filled.from + 1) (c.args.hi + 1) was.0 more.0 c.args.into.now c.loop-filled.into c.copy_leaf_back-run.new.into c.loop-filled.filled c.copy_leaf_back-run.result.filled
          c.args.seat.now.me c.loop-filled.seat.me c.copy_leaf_back-run.new.seat.me was.1 was.2 was.3 more.1 more.2 leaf (omega (arith, further)) (omega (arith, from));
    }

pub returns-in-None-clause-scanned : goal.returns-in-None-clause-scanned
returns-in-None-clause-scanned c =
    let before = c.loop-filled.invariant in
    let was = before.scanned in
    let come = c.come_to_leaf-word.ensures in
    let at_leaf : SeatState = c.come_to_leaf-word.new.seat.me in
    let run = c.copy_leaf_back-run.ensures in
    let more = run.copied in
    let from = before.from in
    let found : HasSearched c.loop-filled.seat.me at_leaf = searched_once c.loop-filled.from c.loop-filled.seat.me at_leaf was.3.searched.idle come.saw come.own come.idle come.same come.same_slots in
    let copied = subst (λ (o : Option ℕ). IsCopied (known_of at_leaf.0) (start_of c.args.lo o) (c.loop-filled.from + 1) more.0) c.in-None.is more.3 in
    let leaf : HasComeBack c.args.lo (c.loop-filled.from + 1) more.0 c.loop-filled.seat.me c.copy_leaf_back-run.new.seat.me =
    subst (HasComeBack c.args.lo (c.loop-filled.from + 1) more.0 c.loop-filled.seat.me) (sym run.same.2)
    (come_back_leaf c.args.lo (c.loop-filled.from + 1) more.0 c.loop-filled.seat.me at_leaf found copied) in
    let all = leaf_more c.args.lo (c.loop-filled.from + 1) (c.args.hi + 1) was.0 more.0 c.args.into.now c.loop-filled.into c.copy_leaf_back-run.new.into c.loop-filled.filled c.copy_leaf_back-run.result.filled
    c.args.seat.now.me c.loop-filled.seat.me c.copy_leaf_back-run.new.seat.me was.1 was.2 was.3 more.1 more.2 leaf (omega (arith, from)) (omega (arith, from)) in
    reported_back c.args.lo c.args.hi all.0 c.args.into.now _ (c.loop-filled.filled + c.copy_leaf_back-run.result.filled) c.args.seat.now.me c.copy_leaf_back-run.new.seat.me all.1 all.2 all.3

pub returns-clause-scanned : goal.returns-clause-scanned
returns-clause-scanned c =
    let was = c.loop-filled.invariant.scanned in
    reported_back (c.loop-filled.from + 1) c.args.hi was.0 c.args.into.now c.loop-filled.into c.loop-filled.filled c.args.seat.now.me c.loop-filled.seat.me was.1 was.2 was.3
