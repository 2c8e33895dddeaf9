use Rattle.blink_operation.specs.PlainMap.{IsAscending}
use Rattle.blink_batch.proofs.SearchByHalves.{kept_at_place, remove-place}
use Rattle.blink_batch.proofs.RunsByKey.{IsAscending-removed}
use Rattle.blink_batch.proofs.plain.Plain.remove_at.Goals as goal

pub returns-clause-before : goal.returns-clause-before
returns-clause-before c =
    let ascending : IsAscending c.args.self.now = rw c.self.view_is at c.self.invariant in
    kept_at_place c.args.self.now c.args._key c.args.at c.remove.result ascending c.requires.place (rw c.self.view_is at c.remove.ensures.value)

-- the entry at the key's place is removed
pub returns-clause-map : goal.returns-clause-map
returns-clause-map c =
    let ascending : IsAscending c.args.self.now = rw c.self.view_is at c.self.invariant in
    rw (c.remove.ensures.items, c.self.view_is) (remove-place c.args.self.now c.args._key c.args.at ascending c.requires.place)

-- so the keys still ascend
pub invariant_of-self : goal.invariant_of-self
invariant_of-self c =
    let ascending : IsAscending c.args.self.now = rw c.self.view_is at c.self.invariant in
    rw (c.remove.ensures.items, c.self.view_is, remove-place c.args.self.now c.args._key c.args.at ascending c.requires.place)
    (IsAscending-removed c.args.self.now c.args._key ascending)
