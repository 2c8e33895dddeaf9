use Rattle.std.proofs.Common.{refl}
use Rattle.blink_operation.specs.Operation.{key_of}
use Rattle.blink_batch.proofs.SearchByHalves.{kept_at_place}
use Rattle.blink_batch.proofs.plain.Plain.apply_at.Goals as goal

-- the key maps to the pointer that is read
pub returns-in-Find-clause-answer : goal.returns-in-Find-clause-answer
returns-in-Find-clause-answer c =
    let ascending = rw c.self.view_is at c.self.invariant in
    let kept = kept_at_place c.args.self.now (key_of c.args.op) c.args.at c.index.result.now ascending c.requires.place (rw c.self.view_is at c.index.ensures) in
    rw c.in-Find.is (rw (rw c.in-Find.is at kept) refl)

pub returns-in-Insert-clause-answer : goal.returns-in-Insert-clause-answer
returns-in-Insert-clause-answer c =
    let ascending = rw c.self-in-Insert.view_is at c.self-in-Insert.invariant in
    let kept = kept_at_place c.args.self.now (key_of c.args.op) c.args.at c.index-in-Insert.result.now ascending c.requires.place (rw c.self-in-Insert.view_is at c.index-in-Insert.ensures) in
    rw c.in-Insert.is (rw (rw c.in-Insert.is at kept) refl)

pub returns-in-Insert-clause-map : goal.returns-in-Insert-clause-map
returns-in-Insert-clause-map c =
    let ascending = rw c.self-in-Insert.view_is at c.self-in-Insert.invariant in
    let kept = kept_at_place c.args.self.now (key_of c.args.op) c.args.at c.index-in-Insert.result.now ascending c.requires.place (rw c.self-in-Insert.view_is at c.index-in-Insert.ensures) in
    rw c.in-Insert.is (rw (rw c.in-Insert.is at kept) refl)

-- the entry at the key's place is removed, and its pointer answered
pub returns-in-Delete-clause-answer : goal.returns-in-Delete-clause-answer
returns-in-Delete-clause-answer c = rw (c.in-Delete.is, c.remove_at.ensures.before) refl

pub returns-in-Delete-clause-map : goal.returns-in-Delete-clause-map
returns-in-Delete-clause-map c = rw (c.in-Delete.is, c.remove_at.ensures.before) c.remove_at.ensures.map

-- the pointer at the key's place is replaced, and the one before answered
pub returns-in-Replace-clause-answer : goal.returns-in-Replace-clause-answer
returns-in-Replace-clause-answer c = rw (c.in-Replace.is, c.replace_at.ensures.before) refl

pub returns-in-Replace-clause-map : goal.returns-in-Replace-clause-map
returns-in-Replace-clause-map c = rw (c.in-Replace.is, c.replace_at.ensures.before) c.replace_at.ensures.map
