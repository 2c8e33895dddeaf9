use Rattle.std.proofs.Common.{arith}
use Rattle.std.proofs.lemmas.Bool.Decides.{nat_tests}
use Rattle.blink_operation.specs.PlainMap.{IsAscending}
use Rattle.blink_batch.proofs.SearchByHalves.{kept_at_place}
use Rattle.blink_batch.proofs.plain.Plain.delete_exact_at.Goals as goal

-- another pointer stands there, and stays
pub returns-then-before-expected-clause-answer : goal.returns-then-before-expected-clause-answer
returns-then-before-expected-clause-answer c =
    let ascending : IsAscending c.args.self.now = rw c.self.view_is at c.self.invariant in
    let kept = kept_at_place c.args.self.now c.args.key c.args.at c.index.result.now ascending c.requires.place (rw c.self.view_is at c.index.ensures) in
    let differs = c.if-before-expected.true in
    rw kept (grind (arith, nat_tests, differs))

pub returns-then-before-expected-clause-map : goal.returns-then-before-expected-clause-map
returns-then-before-expected-clause-map c =
    let ascending : IsAscending c.args.self.now = rw c.self.view_is at c.self.invariant in
    let kept = kept_at_place c.args.self.now c.args.key c.args.at c.index.result.now ascending c.requires.place (rw c.self.view_is at c.index.ensures) in
    let differs = c.if-before-expected.true in
    rw kept (grind (arith, nat_tests, differs))

-- the expected pointer stands there, and its key is removed
pub returns-clause-answer : goal.returns-clause-answer
returns-clause-answer c =
    let ascending : IsAscending c.args.self.now = rw c.self.view_is at c.self.invariant in
    let kept = kept_at_place c.args.self.now c.args.key c.args.at c.index.result.now ascending c.requires.place (rw c.self.view_is at c.index.ensures) in
    let before = c.remove_at.ensures.before in
    let same = c.if-before-expected.false in
    rw before (grind (arith, nat_tests, same, kept, before))

pub returns-clause-map : goal.returns-clause-map
returns-clause-map c =
    let ascending : IsAscending c.args.self.now = rw c.self.view_is at c.self.invariant in
    let kept = kept_at_place c.args.self.now c.args.key c.args.at c.index.result.now ascending c.requires.place (rw c.self.view_is at c.index.ensures) in
    let removed = c.remove_at.ensures.map in
    let same = c.if-before-expected.false in
    rw kept (grind (arith, nat_tests, same, removed))
