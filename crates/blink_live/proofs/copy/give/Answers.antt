use Rattle.std.proofs.Common.{◌≡◌, ℕ, Some, List, [], ◌∷◌, ◌++◌, length, get_or, take, sym, ap, ◌∙◌, subst, arith, length-take-le}
use Rattle.std.proofs.lemmas.List.{take_more}
use Rattle.std.proofs.lemmas.Option.{get_or_from_slice_get}
use Rattle.std.specs.Prelude.{set}
use Rattle.blink_batch.specs.declared.Entry.{Entry}
use Rattle.blink_batch.specs.{entry}
use Rattle.blink_live.specs.Scanning.{IsFilled}
use Rattle.blink_live.proofs.scanned.PlacesAreFilled.{filled_more}
use Rattle.blink_live.proofs.copy.give.Goals as goal

pub loop-entry-preserved : goal.loop-entry-preserved
loop-entry-preserved c =
    let was = c.loop-entry.invariant in
    let count = was.count in
    let long = c.loop-entry.auto.into in
    let test = c.loop-entry-test.true in
    let fits = was.filled.fits in
    let width : length (take c.loop-entry.filled c.args.entries.now) ≡ c.loop-entry.filled = length-take-le c.loop-entry.filled c.args.entries.now (omega (arith, count, test)) in
    let room = c.if-filled-into.false in
    let more = take_more c.args.entries.now c.loop-entry.filled (entry 0 0) (omega (arith, count, test)) ∙ ap (λ (n : ℕ). take c.loop-entry.filled c.args.entries.now ++ get_or c.args.entries.now n (entry 0 0) ∷ []) count in record {
      count = omega (arith, count);
      filled = subst (λ (x : List Entry × Entry). IsFilled x.0 c.args.into.now (set c.loop-entry.into c.loop-entry.filled x.1)) (λ i. (sym more i, sym c.set_entry.ensures i))
          (filled_more (take c.loop-entry.filled c.args.entries.now) c.args.into.now c.loop-entry.into _ c.loop-entry.filled was.filled (sym width) (omega (arith, fits, width, long, room)));
    }

pub returns-then-filled-into-clause-some : goal.returns-then-filled-into-clause-some
returns-then-filled-into-clause-some c e is =
    let full = c.if-filled-into.true in
    let long = c.loop-entry.auto.into in
    let at = ap (λ (n : ℕ). get_or c.args.entries.now n (entry 0 0)) (sym c.loop-entry.invariant.count) ∙ get_or_from_slice_get c.args.entries.now c.loop-entry.filled e (entry 0 0) is in
    (omega (arith, full, long), ap (λ (x : Entry). Some x.key) at)
