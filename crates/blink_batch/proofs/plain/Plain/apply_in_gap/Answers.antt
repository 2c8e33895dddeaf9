use Rattle.std.proofs.Common.{refl}
use Rattle.std.proofs.lemmas.Result.{err_from_is_err_and}
use Rattle.blink_operation.specs.PlainMap.{IsAscending, entry}
use Rattle.blink_batch.proofs.SearchByHalves.{pointer_of-gap, insert-gap}
use Rattle.blink_batch.proofs.RunsByKey.{IsAscending-added}
use Rattle.blink_batch.proofs.plain.Plain.apply_in_gap.Goals as goal

pub returns-in_ok-insert-in-Insert-clause-answer : goal.returns-in_ok-insert-in-Insert-clause-answer
returns-in_ok-insert-in-Insert-clause-answer c =
    let absent = pointer_of-gap _ _ _ c.requires.gap in
    rw c.in-Insert.is (rw (rw c.in-Insert.is at absent) refl)

-- only its entry asks for room
pub returns-in_err-insert-in-Insert-clause-growth : goal.returns-in_err-insert-in-Insert-clause-growth
returns-in_err-insert-in-Insert-clause-growth c =
    let absent = pointer_of-gap _ _ _ c.requires.gap in
    let told = err_from_is_err_and c.from_residual.result c.from_residual.ensures.1 in
    rw (told.1, c.in-Insert.is) (rw (rw c.in-Insert.is at absent) refl)

pub returns-in_ok-insert-in-Insert-clause-map : goal.returns-in_ok-insert-in-Insert-clause-map
returns-in_ok-insert-in-Insert-clause-map c =
    let gap = rw c.in-Insert.is at c.requires.gap in
    let absent = pointer_of-gap _ _ _ gap in
    let inserted = insert-gap c.args.self.now (entry c.in-Insert.key c.in-Insert.pointer) c.args.at gap in
    rw (c.in_ok-insert-in-Insert.ensures.items, c.self.view_is, c.in-Insert.is, absent) inserted

-- the new entry goes into its gap, so the keys still ascend
pub invariant_of-self-in-Insert : goal.invariant_of-self-in-Insert
invariant_of-self-in-Insert c =
    let gap = rw c.in-Insert.is at c.requires.gap in
    let absent = pointer_of-gap _ _ _ gap in
    let new = entry c.in-Insert.key c.in-Insert.pointer in
    let ascending : IsAscending c.args.self.now = rw c.self.view_is at c.self.invariant in
    rw (c.in_ok-insert-in-Insert.ensures.items, c.self.view_is, insert-gap c.args.self.now new c.args.at gap)
    (IsAscending-added c.args.self.now c.in-Insert.key c.in-Insert.pointer absent ascending)

-- every other operation finds nothing, and changes nothing
pub returns-in-Find : goal.returns-in-Find
returns-in-Find c =
    let absent = pointer_of-gap _ _ _ c.requires.gap in
    record {
      answer = rw c.in-Find.is (rw (rw c.in-Find.is at absent) refl);
      map = rw c.in-Find.is refl;
      growth = tt;
      unchanged = tt;
    }

pub returns-in-Delete : goal.returns-in-Delete
returns-in-Delete c =
    let absent = pointer_of-gap _ _ _ c.requires.gap in
    record {
      answer = rw c.in-Delete.is (rw (rw c.in-Delete.is at absent) refl);
      map = rw c.in-Delete.is (rw (rw c.in-Delete.is at absent) refl);
      growth = tt;
      unchanged = tt;
    }

pub returns-in-Replace : goal.returns-in-Replace
returns-in-Replace c =
    let absent = pointer_of-gap _ _ _ c.requires.gap in
    record {
      answer = rw c.in-Replace.is (rw (rw c.in-Replace.is at absent) refl);
      map = rw c.in-Replace.is (rw (rw c.in-Replace.is at absent) refl);
      growth = tt;
      unchanged = tt;
    }

pub returns-in-Exchange : goal.returns-in-Exchange
returns-in-Exchange c =
    let absent = pointer_of-gap _ _ _ c.requires.gap in
    record {
      answer = rw c.in-Exchange.is (rw (rw c.in-Exchange.is at absent) refl);
      map = rw c.in-Exchange.is (rw (rw c.in-Exchange.is at absent) refl);
      growth = tt;
      unchanged = tt;
    }

pub returns-in-DeleteExact : goal.returns-in-DeleteExact
returns-in-DeleteExact c =
    let absent = pointer_of-gap _ _ _ c.requires.gap in
    record {
      answer = rw c.in-DeleteExact.is (rw (rw c.in-DeleteExact.is at absent) refl);
      map = rw c.in-DeleteExact.is (rw (rw c.in-DeleteExact.is at absent) refl);
      growth = tt;
      unchanged = tt;
    }
