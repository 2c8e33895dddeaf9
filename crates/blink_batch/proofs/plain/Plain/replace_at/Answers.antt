use Rattle.blink_operation.specs.PlainMap.{IsAscending}
use Rattle.blink_batch.proofs.SearchByHalves.{kept_at_place, set-place}
use Rattle.blink_batch.proofs.RunsByKey.{IsAscending-replaced}
use Rattle.blink_batch.proofs.plain.Plain.replace_at.Goals as goal

pub returns-clause-before : goal.returns-clause-before
returns-clause-before c =
    let ascending : IsAscending c.args.self.now = rw c.self.view_is at c.self.invariant in
    kept_at_place c.args.self.now c.args.key c.args.at c.index.result.now ascending c.requires.place (rw c.self.view_is at c.index.ensures)

-- the pointer at the key's place is replaced
pub returns-clause-map : goal.returns-clause-map
returns-clause-map c =
    let ascending : IsAscending c.args.self.now = rw c.self.view_is at c.self.invariant in
    rw c.self.view_is (set-place c.args.self.now c.args.key c.args.at c.args.pointer ascending c.requires.place)

-- so the keys still ascend
pub invariant_of-self : goal.invariant_of-self
invariant_of-self c =
    let ascending : IsAscending c.args.self.now = rw c.self.view_is at c.self.invariant in
    rw (c.self.view_is, set-place c.args.self.now c.args.key c.args.at c.args.pointer ascending c.requires.place) (IsAscending-replaced c.args.self.now c.args.key c.args.pointer ascending)
